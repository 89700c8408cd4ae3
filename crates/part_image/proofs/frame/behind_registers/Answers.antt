-- `part_image::frame::behind_registers` meets its contract. Assumes nothing.
use Rattle.part_image.proofs.Framing.{behind_as}
use Rattle.part_image.proofs.frame.behind_registers.Goals as goal

pub returns : goal.returns
returns c = behind_as _ c.number_at.ensures
