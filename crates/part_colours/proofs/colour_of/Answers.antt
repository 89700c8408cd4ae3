-- `part_colours::colour_of` meets its contract. Assumes nothing.
use Rattle.machine.proofs.Tests.{so}
use Rattle.machine.proofs.Blocks.{is_block_block}
use Rattle.machine.proofs.Colours.{colour_none}
use Rattle.part_colours.proofs.colour_of.Goals as goal

pub colour_at-requires : goal.colour_at-requires
colour_at-requires c = (c.requires.0, c.requires.1, is_block_block _ _ (so c.is_block.ensures c.if-is_block.true))

pub returns-then-is_block : goal.returns-then-is_block
returns-then-is_block c = c.colour_at.ensures

pub returns : goal.returns
returns c = λ g. colour_none _ _ (so c.is_block.ensures c.if-is_block.false)
