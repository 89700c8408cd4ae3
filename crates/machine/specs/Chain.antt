-- Objects longer than a block: chains.
-- "words 0 to 6 hold fields, word 7 is the reference to the next block, null at the end, 1 to 256 blocks"
--     chain                the form of a chain
--     chain_length n        refusal 3 for a chain that isn't 1 to 256 blocks long
--     allocate_chain b w n h     the call
-- Assumes nothing.
use Rattle.std.specs.Prelude.{ℕ, ◌-◌, ◌*◌, ◌&&◌, [], ◌∷◌, leb, if◌then◌else◌}
use Rattle.machine.specs.Tests.{◌▷◌}
use Rattle.machine.specs.Heap.{Heap}
use Rattle.machine.specs.Entry.{entry, holder_place}
use Rattle.machine.specs.Answers.{Given, unless}
use Rattle.machine.specs.Units.{run}
use Rattle.machine.specs.Allocate.{units_due}
use Rattle.machine.specs.Several.{Form, several_taken}

-- the word of a block that names the next one
abbrev pub link : ℕ
link = 7

-- "chained in its order, each word 7's bit set"
abbrev pub chain : Form
chain = record { parent = λ i. i - 1; word = λ i. link; nulls = λ i. link ∷ []; zeros = λ i. [] }

-- "3 for n outside 1 to 256"
unfoldable pub chain_length : ℕ → ℕ
chain_length n = if leb 1 n && leb n 256 then 0 else 3

-- "Allocating n blocks does n times the pace in units first, then tests the holder, then takes all n or none"; "Pace 0 is worked out
-- once, at entry."
unfoldable pub allocate_chain : ℕ → ℕ → ℕ → Heap → Given
allocate_chain b w n h =
    unless (entry h ▷ holder_place h.regs.blocks b w ▷ chain_length n) h
    (several_taken chain n b w (run (n * units_due h.regs) 0 h))
