-- The walk along the first blocks of the free list, as the code makes it.
--     fits_at k ws a            a is a block that can be taken: not 0, coloured free, with a link that is 0 or a block
--     walked_to k ws n a l      the last of n such blocks from a on, l where n is 0, and 0 where one of them is none
--     Within ws n a            the n blocks from a on have their place in the word buffer
-- Assumes nothing.
use Rattle.std.specs.Prelude.{ℕ, zero, suc, ◌≤◌, ◌<◌, Bool, ◌&&◌, not, List, eqb, length, if◌then◌else◌}
use Rattle.machine.specs.Block.{base, word_of}
use Rattle.machine.specs.Colouring.{Colouring, is_free}
use Rattle.machine.specs.Entry.{is_block_or_none}

unfoldable pub fits_at : Colouring → List ℕ → ℕ → Bool
fits_at k ws a = not (eqb a 0) && (is_free k a && is_block_or_none k.blocks (word_of ws a 0))

unfoldable pub walked_to : Colouring → List ℕ → ℕ → ℕ → ℕ → ℕ
walked_to k ws zero a l = l
walked_to k ws (suc n) a l = if fits_at k ws a then walked_to k ws n (word_of ws a 0) a else 0

unfoldable pub Within : List ℕ → ℕ → ℕ → Type 0
Within ws zero a = Unit {0}
Within ws (suc n) a = (2 ≤ a) × (base a < length ws) × Within ws n (word_of ws a 0)
