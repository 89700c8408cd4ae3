-- `part_image::frame::framed` meets its contract. Assumes nothing.
use Rattle.machine.proofs.Tests.{so}
use Rattle.part_image.proofs.Framing.{bare_off, unknown_off, known_long, framed_as}
use Rattle.part_image.proofs.frame.framed.Goals as goal

pub returns-then-image-lt-BARE : goal.returns-then-image-lt-BARE
returns-then-image-lt-BARE c = bare_off _ c.if-image-lt-BARE.true

pub behind_registers-requires : goal.behind_registers-requires
behind_registers-requires c =
    let e = rw c.number_at.ensures at c.count_known.ensures in
    known_long _ (so e c.if-count_known.true) c.if-image-lt-BARE.false

pub returns-then-count_known : goal.returns-then-count_known
returns-then-count_known c =
    let e = rw c.number_at.ensures at c.count_known.ensures in
    let f = rw (c.number_at-then-count_known.ensures, c.behind_registers.ensures) at c.blocks_framed.ensures in
    framed_as _ (so e c.if-count_known.true) f

pub returns : goal.returns
returns c =
    let e = rw c.number_at.ensures at c.count_known.ensures in
    unknown_off _ (so e c.if-count_known.false)
