-- Allocate.
--     units_due r           the units that an allocation does first
--     list_refusal h        8 or 7 for the free list
--     taken h              the first free block taken
--     held b w x h         the reference to x stored: in word w of b, or in the root where b is 0
--     allocate b w h       the call
-- Assumes nothing.
use Rattle.std.specs.Prelude.{ℕ, ◌-◌, ◌*◌, max, Bool, ◌&&◌, eqb, set, if◌then◌else◌}
use Rattle.machine.specs.declared.Regs.{Regs}
use Rattle.machine.specs.Tests.{◌▷◌}
use Rattle.machine.specs.Rounding.{rounded_up}
use Rattle.machine.specs.Registers.{with_free, with_count, with_root, raised}
use Rattle.machine.specs.Block.{place, word_of}
use Rattle.machine.specs.Colouring.{is_free, painted}
use Rattle.machine.specs.Heap.{Heap, heap, colouring, with_regs}
use Rattle.machine.specs.State.{holder_refusal, new_colour}
use Rattle.machine.specs.Entry.{entry, holder_place, is_block_or_none}
use Rattle.machine.specs.Answers.{Given, answering, unless}
use Rattle.machine.specs.Units.{RunEnd, run}
use Rattle.machine.specs.Store.{put_reference}

-- "Units: U, or if U is 0, M/F .. doubled, F being the free count at entry, 0 counted as 1." "P is to be rounded up before it is doubled"
unfoldable pub units_due : Regs → ℕ
units_due r = if eqb r.pace 0 then 2 * rounded_up r.blocks (max 1 r.count) else r.pace

-- 8: "a first free block not coloured free or whose link is no block and not 0"
unfoldable pub first_fits : Heap → Bool
first_fits h =
    is_free (colouring h) h.regs.free && is_block_or_none h.regs.blocks (word_of h.words h.regs.free 0)

-- 8: "a free head that is 0 while the count isn't, or the reverse"; 7: "Free head and free count both 0 is 7."
unfoldable pub list_refusal : Heap → ℕ
list_refusal h =
    if eqb h.regs.free 0 then (if eqb h.regs.count 0 then 7 else 8) else
    if eqb h.regs.count 0 then 8 else
    if first_fits h then 0 else 8

-- "takes the first free block, zeroes word 0"; "the highest block number handed out since format"
unfoldable pub taken : Heap → Heap
taken h =
    heap
    (raised h.regs.free (with_count (h.regs.count - 1) (with_free (word_of h.words h.regs.free 0) h.regs)))
    (set h.words (place h.regs.free 0) 0)
    (painted h.regs.free (new_colour h.regs h.regs.free) (colouring h)).cells
    h.bytes

-- "stores the reference"; "or 0, 0 for the root"
unfoldable pub held : ℕ → ℕ → ℕ → Heap → Heap
held b w x h = if eqb b 0 then with_regs (with_root x h.regs) h else put_reference b w x h

-- "After 1 to 4 come Allocate's units, then 8 and 5 for the block, .. then 8 or 7 for the free list."
unfoldable pub take_refusal : ℕ → Heap → ℕ
take_refusal b h = (if eqb b 0 then 0 else holder_refusal h b) ▷ list_refusal h

-- what an allocation gives once its units are done
unfoldable pub allocated : ℕ → ℕ → RunEnd → Given
allocated b w e =
    if eqb (e.refusal ▷ take_refusal b e.heap) 0
    then answering 0 e.heap.regs.free e.units (held b w e.heap.regs.free (taken e.heap))
    else answering (e.refusal ▷ take_refusal b e.heap) 0 e.units e.heap

unfoldable pub allocate : ℕ → ℕ → Heap → Given
allocate b w h =
    unless (entry h ▷ holder_place h.regs.blocks b w) h (allocated b w (run (units_due h.regs) 0 h))
