use Prim.Native.Nat.{◌-◌}
use Rattle.part_rows.proofs.Going.{Going}
use Rattle.part_rows.proofs.export_rows.Given as goal

abbrev pub invariant-loop-b : goal.invariant-loop-b
invariant-loop-b g l = Going (g.R.Rows.shape l.rows) l.start l.initial.out l.n l.b l.at l.out

abbrev pub decreases-loop-b : goal.decreases-loop-b
decreases-loop-b g l = l.most - l.n
