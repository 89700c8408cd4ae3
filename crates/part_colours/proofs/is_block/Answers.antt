-- `part_colours::is_block` meets its contract. Assumes nothing.
use borrow.Author.Tests.{lt-leb}
use Rattle.machine.proofs.Blocks.{within_is_block}
use Rattle.machine.specs.Block.{is_block}
use Rattle.part_colours.proofs.is_block.Goals as goal

pub returns-then-b-ge2 : goal.returns-then-b-ge2
returns-then-b-ge2 c = within_is_block _ _ c.if-b-ge2.true

pub returns-else-b-ge2 : goal.returns-else-b-ge2
unfolding is_block
returns-else-b-ge2 c = simp (lt-leb _ _ c.if-b-ge2.false)
