use Prim.Native.Nat.{◌+◌, ◌-◌}
use mathlib.Core.Path.{◌≡◌}
use lib.ListN.{length}
use Rattle.machine.specs.WellFormed.{Block}
use Rattle.part_path.proofs.Walks.{hops}
use Rattle.part_path.proofs.pairs.Given as goal

abbrev pub invariant-loop-n : goal.invariant-loop-n
invariant-loop-n l =
    Block (length l.came) l.at × (hops l.came (length l.came) l.x ≡ l.n + hops l.came (length l.came - l.n) l.at)
