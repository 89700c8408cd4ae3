-- `part_image_audit::sections::Sections::reference_byte` meets its contract. Assumes nothing.
use native.Mathlib.Omega.{arith}
use Rattle.part_image_audit.proofs.Laid.{laid_length, byte_laid}
use Rattle.part_image_audit.proofs.sections.SectionsBlocks.reference_byte.Goals as goal

pub bounds-self-at : goal.bounds-self-at
bounds-self-at c =
    let l = laid_length c.args.self.now.laid in
    let e = c.bytes_at-at.ensures in
    omega arith

pub returns : goal.returns
returns c =
    byte_laid c.args.self.now.laid c.requires c.bytes_at-at.ensures
