-- `part_image_audit::sections::Sections::word` meets its contract. Assumes nothing.
use native.Mathlib.Omega.{arith}
use Rattle.part_image_audit.proofs.Laid.{laid_length, word_laid}
use Rattle.part_image_audit.proofs.sections.SectionsBlocks.word.Goals as goal

pub number_at-requires : goal.number_at-requires
number_at-requires c =
    let l = laid_length c.args.self.now.laid in
    let e = c.words_at-at.ensures in
    omega arith

pub returns : goal.returns
returns c =
    word_laid c.args.self.now.laid c.requires.1 c.requires.0 c.words_at-at.ensures c.number_at.ensures
