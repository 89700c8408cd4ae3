-- `call_size::least_blocks` meets its contract: none of the numbers gone through is enough. Assumes nothing.
use native.Mathlib.Omega.{arith}
use Rattle.machine.proofs.Tests.{so}
use Rattle.call_size.proofs.Sizes.{sparse_on, found, none_found}
use Rattle.call_size.proofs.least_blocks.Goals as goal

pub loop-p-init : goal.loop-p-init
loop-p-init c q l i = absurd (omega arith)

pub returns-then-is_enough : goal.returns-then-is_enough
returns-then-is_enough c = found _ _ _ _ c.loop-p.invariant (omega arith) (omega arith) (so c.is_enough.ensures c.if-is_enough.true)

pub loop-p-preserved : goal.loop-p-preserved
loop-p-preserved c = sparse_on _ _ _ _ c.loop-p.invariant (so c.is_enough.ensures c.if-is_enough.false)

pub returns : goal.returns
returns c = none_found _ _ _ _ c.loop-p.invariant (omega arith)
