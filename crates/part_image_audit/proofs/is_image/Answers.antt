-- `part_image_audit::is_image` meets its contract. Assumes nothing.
use mathlib.Core.Path.{◌∙◌}
use native.Mathlib.Omega.{arith}
use Rattle.machine.proofs.Tests.{so}
use Rattle.machine.proofs.Frames.{framed_image, unframed_image}
use Rattle.part_image_audit.proofs.is_image.Goals as goal

pub returns-then-framed : goal.returns-then-framed
returns-then-framed c =
    let i = c.args.image.now in
    let byte = c.type_inv.image in
    c.passes.ensures ∙ framed_image i (so c.framed.ensures c.if-framed.true) (λ k. omega (arith, byte k))

pub returns-else-framed : goal.returns-else-framed
returns-else-framed c = c.if-framed.false ∙ unframed_image _ (so c.framed.ensures c.if-framed.false)
