-- `call_load::load` meets its contract: one law for each way out. Assumes nothing.
use mathlib.Core.Path.{◌∙◌}
use Rattle.machine.proofs.Tests.{so}
use Rattle.machine.proofs.Frames.{framed_long}
use Rattle.machine.proofs.Saving.{load_bad, load_other}
use Rattle.call_load.proofs.Loading.{length_parts, image_framed, image_most, image_laid, image_same, image_read}
use Rattle.call_load.proofs.load.Goals as goal

pub get_registers-s-requires : goal.get_registers-s-requires
get_registers-s-requires c =
    let i = c.args.image.now in
    let t = so c.is_image.ensures c.if-is_image.true in
    (image_framed i t, image_most i t)

pub behind_registers-sections-requires : goal.behind_registers-sections-requires
behind_registers-sections-requires c =
    let i = c.args.image.now in
    let t = so c.is_image.ensures c.if-is_image.true in
    framed_long i (image_framed i t)

pub read-requires : goal.read-requires
read-requires c =
    let i = c.args.image.now in
    let t = so c.is_image.ensures c.if-is_image.true in
    let p = length_parts _ _ _ _ (so c.lengths_fit.ensures c.if-lengths_fit.true) in
    (image_laid i t c.get_registers-s.ensures c.behind_registers-sections.ensures, p.0, p.1, p.2)

pub returns-then-lengths_fit : goal.returns-then-lengths_fit
returns-then-lengths_fit c =
    let i = c.args.image.now in
    let t = so c.is_image.ensures c.if-is_image.true in
    let e = c.get_registers-s.ensures in
    let l = so (image_same i t e _ c.lengths_fit.ensures) c.if-lengths_fit.true in
    c.done.ensures _ _ _ ∙ image_read i t e _ c.behind_registers-sections.ensures l c.read.ensures

pub returns-then-is_image : goal.returns-then-is_image
returns-then-is_image c =
    let i = c.args.image.now in
    let t = so c.is_image.ensures c.if-is_image.true in
    let e = c.get_registers-s.ensures in
    rw c.into.ensures at (c.refused.ensures c.args.words.now c.args.colours.now c.args.bytes.now)
    ∙ load_other i _ t (so (image_same i t e _ c.lengths_fit.ensures) c.if-lengths_fit.false)

pub returns : goal.returns
returns c =
    rw c.into-2.ensures at (c.refused-2.ensures c.args.words.now c.args.colours.now c.args.bytes.now)
    ∙ load_bad _ _ (so c.is_image.ensures c.if-is_image.false)
