use Prim.Native.Nat.{◌-◌}
use mathlib.Core.Path.{◌≡◌}
use lib.ListN.{length}
use Rattle.machine.specs.WellFormed.{Block}
use Rattle.part_path.proofs.Walks.{hops, to_come}
use Rattle.part_path.proofs.write.Given as goal

abbrev pub invariant-loop-pair : goal.invariant-loop-pair
invariant-loop-pair l =
    Block (length l.came) l.at × (l.pair ≡ hops l.came (length l.came - (l.n - l.pair)) l.at) × (length l.path ≡ length l.initial.path)
    × (to_come l.came l.n l.x l.initial.path ≡ to_come l.came l.pair l.at l.path)
