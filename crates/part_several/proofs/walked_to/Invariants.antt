use Prim.Native.Nat.{ℕ, ◌-◌, ◌≤◌}
use mathlib.Core.Path.{◌≡◌}
use mathlib.Core.Logic.{◌≢◌}
use Rattle.machine.specs.Colouring.{coloured}
use Rattle.machine.specs.WellFormed.{Block}
use Rattle.part_several.specs.Walk.{walked_to}
use Rattle.part_several.proofs.walked_to.Given as goal

abbrev pub invariant-loop : goal.invariant-loop
invariant-loop l =
    (l.counter ≤ l.n) × (l.a ≢ 0 → Block l.m l.a) × ((g : ℕ) → walked_to (coloured l.m g l.colours) l.words l.n l.head 0 ≡ walked_to (coloured l.m g l.colours) l.words (l.n - l.counter) l.a l.last)
