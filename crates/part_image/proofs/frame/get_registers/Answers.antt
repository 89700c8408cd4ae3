-- `part_image::frame::get_registers` meets its contract. Assumes nothing.
use Rattle.part_image.proofs.Framing.{registers_read}
use Rattle.part_image.proofs.frame.get_registers.Goals as goal

pub returns : goal.returns
returns c = registers_read _ c.requires.0 c.get_items.ensures c.get_mark.ensures
