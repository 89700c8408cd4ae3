-- `part_copy::copy` meets its contract: the words before i are copied. Assumes nothing.
use mathlib.Core.Path.{◌∙◌}
use native.Mathlib.Omega.{arith}
use Rattle.part_copy.proofs.Copies.{copy_on, copy_ends}
use Rattle.part_copy.proofs.copy.Goals as goal

pub loop-i-preserved : goal.loop-i-preserved
loop-i-preserved c = copy_on _ _ _ (omega arith) (omega arith) c.loop-i.invariant

pub returns : goal.returns
returns c = copy_ends _ _ c.loop-i.i (omega arith) (c.loop-i.auto.to ∙ c.requires) c.loop-i.invariant
