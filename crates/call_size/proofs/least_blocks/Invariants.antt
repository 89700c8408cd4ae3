use Rattle.call_size.proofs.Sizes.{Sparse}
use Rattle.call_size.proofs.least_blocks.Given as goal

abbrev pub invariant-loop-p : goal.invariant-loop-p
invariant-loop-p l = Sparse l.u l.k l.b l.p
