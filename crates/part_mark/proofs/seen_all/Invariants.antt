use Prim.Native.Nat.{ℕ, ◌+◌, ◌<◌}
use mathlib.Core.Path.{◌≡◌}
use Rattle.machine.specs.Colouring.{coloured}
use Rattle.part_mark.proofs.Whites.{to_come}
use Rattle.part_mark.proofs.seen_all.Given as goal

abbrev pub invariant-loop-rest : goal.invariant-loop-rest
invariant-loop-rest l =
    (l.rest < 256) × (l.white + l.rest < 256) × ((g : ℕ) → to_come (coloured l.m g l.colours) l.part 0 l.byte ≡ to_come (coloured l.m g l.colours) l.part l.white l.rest)

abbrev pub decreases-loop-rest : goal.decreases-loop-rest
decreases-loop-rest l = l.rest
