-- `part_put::barrier` meets its contract: a law of the definition for each way out. Assumes nothing.
use Rattle.machine.proofs.Blocks.{block_as}
use Rattle.machine.proofs.Storing.{barrier_on, barrier_off}
use Rattle.part_put.proofs.barrier.Goals as goal

pub grey_white-head-requires : goal.grey_white-head-requires
grey_white-head-requires c = λ n. block_as c.requires.0 (c.requires.1 n)

pub returns-then-r-eq-MARKING : goal.returns-then-r-eq-MARKING
returns-then-r-eq-MARKING c = λ ws bs. barrier_on _ _ _ c.if-r-eq-MARKING.true (c.grey_white-head.ensures _ c.requires.0)

pub returns-else-r-eq-MARKING : goal.returns-else-r-eq-MARKING
returns-else-r-eq-MARKING c = λ ws bs. barrier_off _ _ c.if-r-eq-MARKING.false
