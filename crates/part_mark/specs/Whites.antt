-- What the first pass over a block's references answers: whether each is 0 or an allocated block, and, as a byte, which words name white
-- blocks. The second pass greys those alone.
--     whites_from n w k part rest        the bits of n words from word w on, word w's lowest; rest tells likewise which hold references
--     whites k part byte                the byte of the references that name white blocks
--     looked s white                    what is answered: that byte where all are sound
-- Assumes nothing.
use Rattle.std.specs.Prelude.{ℕ, zero, suc, ◌+◌, ◌*◌, ◌/◌, ◌%◌, Bool, true, false, List, Result, Ok, Err, eqb, get_or, if◌then◌else◌}
use Rattle.machine.specs.declared.Seen.{Seen}
use Rattle.machine.specs.declared.Seen.TheVariants.{Settled, ToGrey, Damaged}
use Rattle.machine.specs.Colouring.{Colouring}
use Rattle.machine.specs.Seen.{seen}
use Rattle.machine.specs.declared.Damaged as damaged

-- the value v of a word's bit, where the word was seen to name a white block
abbrev pub if_white : Seen → ℕ → ℕ
if_white Settled v = 0
if_white ToGrey v = v
if_white Damaged v = 0

unfoldable pub whites_from : ℕ → ℕ → Colouring → List ℕ → ℕ → ℕ
whites_from zero w k part rest = 0
whites_from (suc n) w k part rest =
    (if eqb (rest % 2) 1 then if_white (seen k (get_or part w 0)) 1 else 0) + 2 * whites_from n (w + 1) k part (rest / 2)

abbrev pub whites : Colouring → List ℕ → ℕ → ℕ
whites k part byte = whites_from 8 0 k part byte

unfoldable pub looked : Bool → ℕ → Result ℕ damaged.Damaged
looked true white = Ok white
looked false white = Err (record {})
