use Rattle.std.proofs.Common.{◌≡◌, ◌-◌, ◌≤◌, length}
use Rattle.machine.specs.Heap.{heap}
use Rattle.machine.specs.Ready.{Ready}
use Rattle.machine.specs.Units.{run}
use Rattle.part_units.proofs.run.Given as goal

abbrev pub invariant-loop-left : goal.invariant-loop-left
invariant-loop-left l =
    (length l.words ≡ length l.initial.words) × (length l.colours ≡ length l.initial.colours) × (length l.bytes ≡ length l.initial.bytes) × (l.left ≤ l.n) × Ready (heap l.s l.words l.colours l.bytes) × (run l.n 0 (heap l.initial.s l.initial.words l.initial.colours l.initial.bytes) ≡ run l.left (l.n - l.left) (heap l.s l.words l.colours l.bytes))

abbrev pub decreases-loop-left : goal.decreases-loop-left
decreases-loop-left l = l.left
