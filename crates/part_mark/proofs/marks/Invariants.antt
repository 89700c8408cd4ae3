use Prim.Native.Nat.{ℕ, ◌+◌, ◌-◌, ◌≤◌}
use mathlib.Core.Path.{◌≡◌}
use mathlib.Core.Logic.{◌≢◌}
use lib.ListN.{length}
use Rattle.machine.specs.Registers.{marking}
use Rattle.machine.specs.Heap.{heap}
use Rattle.machine.specs.Ready.{Ready}
use Rattle.machine.specs.Units.{run}
use Rattle.part_mark.proofs.marks.Given as goal

abbrev pub invariant-loop-left : goal.invariant-loop-left
invariant-loop-left l =
    (l.left ≤ l.n) × (length l.colours ≡ length l.initial.colours) × Ready (heap l.s l.words l.colours l.bytes) × (l.s.phase ≡ marking) × (l.left ≡ l.n → l.s.grey ≢ 1) × ((i : ℕ) → run l.n i (heap l.initial.s l.words l.initial.colours l.bytes) ≡ run l.left (i + (l.n - l.left)) (heap l.s l.words l.colours l.bytes))

abbrev pub decreases-loop-left : goal.decreases-loop-left
decreases-loop-left l = l.left
