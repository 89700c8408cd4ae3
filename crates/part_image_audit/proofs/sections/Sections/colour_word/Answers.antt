-- `part_image_audit::sections::Sections::colour_word` meets its contract. Assumes nothing.
use native.Mathlib.Omega.{arith}
use Rattle.part_image_audit.proofs.Laid.{laid_length, colour_laid}
use Rattle.part_image_audit.proofs.sections.Sections.colour_word.Goals as goal

pub number_at-requires : goal.number_at-requires
number_at-requires c =
    let l = laid_length c.args.self.now.laid in
    omega arith

pub returns : goal.returns
returns c =
    colour_laid c.args.self.now.laid c.requires c.number_at.ensures
