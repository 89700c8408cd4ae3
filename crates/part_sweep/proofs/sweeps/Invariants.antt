use Prim.Native.Nat.{◌-◌}
use mathlib.Core.Path.{◌≡◌}
use lib.ListN.{length}
use Rattle.machine.specs.Heap.{heap}
use Rattle.part_sweep.proofs.Rows.{Swept}
use Rattle.part_sweep.proofs.sweeps.Given as goal

abbrev pub invariant-loop-s : goal.invariant-loop-s
invariant-loop-s l =
    (length l.words ≡ length l.initial.words) × (length l.colours ≡ length l.initial.colours) × (length l.bytes ≡ length l.initial.bytes) × Swept l.n l.last (heap l.r l.initial.words l.initial.colours l.initial.bytes) l.r l.s l.words l.colours l.bytes

abbrev pub decreases-loop-s : goal.decreases-loop-s
decreases-loop-s l = l.last - l.s.position
