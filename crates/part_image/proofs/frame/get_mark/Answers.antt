-- `part_image::frame::get_mark` meets its contract. Assumes nothing.
use Rattle.part_image.proofs.Framing.{mark_earlier, mark_tenth}
use Rattle.part_image.proofs.frame.get_mark.Goals as goal

pub returns-then-number_at-eq-EARLIER : goal.returns-then-number_at-eq-EARLIER
returns-then-number_at-eq-EARLIER c =
    mark_earlier _ c.number_at.ensures c.if-number_at-eq-EARLIER.true c.number_at-then-number_at-eq-EARLIER.ensures

pub returns : goal.returns
returns c = mark_tenth _ c.requires.0 c.number_at.ensures c.if-number_at-eq-EARLIER.false c.number_at-2.ensures
