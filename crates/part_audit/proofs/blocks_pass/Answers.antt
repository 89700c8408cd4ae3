-- `part_audit::blocks_pass` meets its contract: the blocks passed are in order, and the test of the others is still to come. Assumes nothing.
use native.Mathlib.Omega.{arith}
use Prim.Native.Nat.{◌+◌, ◌-◌}
use Rattle.machine.proofs.Tests.{so}
use Rattle.machine.proofs.Audits.{all_on, all_off, all_end}
use Rattle.part_audit.proofs.blocks_pass.Goals as goal

pub loop-b-preserved : goal.loop-b-preserved
loop-b-preserved g c =
    (c.loop-b.invariant.0, all_on _ _ _ _ c.loop-b.invariant.1 _ (omega arith) (so c.block_passes.ensures c.if-not-block_passes.false))

pub returns-then-not-block_passes : goal.returns-then-not-block_passes
returns-then-not-block_passes g c =
    all_off _ _ _ _ c.loop-b.invariant.1 (c.registers-b-end.result.blocks + 2 - (c.loop-b.b + 1)) (omega arith) (so c.block_passes.ensures c.if-not-block_passes.true)

pub returns : goal.returns
returns g c = all_end _ _ _ _ c.loop-b.invariant.1 (omega arith)
