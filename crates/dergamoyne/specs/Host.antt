-- Look as a host in C has it, and what the library tells of itself.
--     no_index              the index that a refused Look answers: past the end of every word buffer
--     look_index b h        where in the word buffer the part that Look answers begins; no_index where Look is refused
--     version              the release, as a number: 1,000,000 · major + 1,000 · minor + patch
--     record_size           how many bytes a register record takes in memory
-- Assumes nothing.
use Rattle.std.specs.Prelude.{ℕ, eqb, if◌then◌else◌}
use prog.Memory.{size}
use denote.Memory.{lone}
use Rattle.machine.specs.Heap.{Heap}
use Rattle.machine.specs.Read.{read_refusal, look_at}
use Rattle.machine.specs.contracts.Regs.{the_row}

unfoldable pub no_index : ℕ
no_index = 4294967295

unfoldable pub look_index : ℕ → Heap → ℕ
look_index b h = if eqb (read_refusal b 0 h) 0 then look_at b h else no_index

-- 0.8.0
unfoldable pub version : ℕ
version = 8000

unfoldable pub record_size : ℕ
record_size = size (lone the_row.mir)
