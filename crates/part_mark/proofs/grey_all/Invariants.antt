use Prim.Native.Nat.{ℕ, ◌<◌}
use mathlib.Core.Path.{◌≡◌}
use lib.ListN.{length}
use Rattle.machine.specs.Block.{references}
use Rattle.machine.specs.Colouring.{coloured, grey_all, CellsFit}
use Rattle.machine.specs.Seen.{Named}
use Rattle.part_mark.proofs.grey_all.Given as goal

abbrev pub invariant-loop-rest : goal.invariant-loop-rest
invariant-loop-rest l =
    (l.rest < 256) × (length l.colours ≡ length l.initial.colours) × Named (length l.initial.colours) (references l.part l.rest)
    × ((m : ℕ) → CellsFit m l.initial.colours → grey_all (references l.part l.bits) (coloured m l.head l.initial.colours) ≡ grey_all (references l.part l.rest) (coloured m l.g l.colours))

abbrev pub decreases-loop-rest : goal.decreases-loop-rest
decreases-loop-rest l = l.rest
