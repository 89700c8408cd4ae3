-- `part_image_audit::sections::Sections::colour` meets its contract. Assumes nothing.
use Rattle.machine.specs.Image.{colours_in}
use Rattle.machine.proofs.Blocks.{block_is_block}
use Rattle.machine.proofs.Colours.{colour_as}
use Rattle.part_image_audit.proofs.sections.SectionsBlocks.colour.Goals as goal

pub returns : goal.returns
returns c =
    let s = c.args.self.now in
    colour_as s.regs.blocks s.regs.grey (colours_in s.sections.now) c.args.b (block_is_block _ _ c.requires) c.colour_word.ensures c.colour.ensures
