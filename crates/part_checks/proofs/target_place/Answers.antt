-- `part_checks::target_place` meets its contract: a law of the refusals for each way out. Assumes nothing.
use Rattle.machine.proofs.Tests.{so}
use Rattle.machine.proofs.Refusals.{target_fits, target_off}
use Rattle.part_checks.proofs.target_place.Goals as goal

pub returns-then-is_block_or_none : goal.returns-then-is_block_or_none
returns-then-is_block_or_none c = target_fits _ _ (so c.is_block_or_none.ensures c.if-is_block_or_none.true)

pub returns : goal.returns
returns c = target_off _ _ (so c.is_block_or_none.ensures c.if-is_block_or_none.false)
