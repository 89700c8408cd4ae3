-- Format.
--     free_list n b         the words of n free blocks from b on, in rising order
--     formatted m u        the fresh heap of m blocks with pace u
--     format m u h         the call
-- Assumes nothing.
use Rattle.std.specs.Prelude.{ℕ, zero, suc, ◌+◌, List, [], ◌++◌, eqb, length, replicate, if◌then◌else◌}
use Rattle.machine.specs.Registers.{fresh_regs}
use Rattle.machine.specs.Block.{free_words}
use Rattle.machine.specs.Colouring.{fresh_colours}
use Rattle.machine.specs.Heap.{Heap, heap}
use Rattle.machine.specs.Entry.{fits}
use Rattle.machine.specs.Answers.{Given, refuse, done}

-- "its word 0 is the next free block (0 ends)"
unfoldable pub free_list : ℕ → ℕ → List ℕ
free_list zero b = []
free_list (suc n) b = free_words (if eqb n 0 then 0 else b + 1) ++ free_list n (b + 1)

-- "all blocks free in rising order, free head 2, free count M, phase 0, grey head 1, position, root and cycle 0"
unfoldable pub formatted : ℕ → ℕ → Heap
formatted m u = heap (fresh_regs m u) (free_list m 2) (fresh_colours m) (replicate m 0)

-- 1: "M, U or a buffer length does not fit"; 2 is "not tested by Format"
unfoldable pub format : ℕ → ℕ → Heap → Given
format m u h =
    if fits m u (length h.words) (length h.colours) (length h.bytes) then done 0 (formatted m u) else refuse 1 h
