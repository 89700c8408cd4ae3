-- `part_block::colour_of` meets its contract. Assumes nothing.
use Rattle.machine.proofs.Tests.{so}
use Rattle.machine.proofs.Blocks.{is_block_block}
use Rattle.machine.proofs.Colours.{colour_none}
use Rattle.machine.specs.Heap.{colouring}
use Rattle.part_block.proofs.colour_of.Goals as goal

pub colour-requires : goal.colour-requires
colour-requires g c = rw c.registers-m.ensures.told at (is_block_block _ _ (so c.is_block.ensures c.if-is_block.true))

pub returns : goal.returns
returns g c =
    colour_none (colouring (g.B.Blocks.held c.args.blocks.now)) _ (rw c.registers-m.ensures.told at (so c.is_block.ensures c.if-is_block.false))
