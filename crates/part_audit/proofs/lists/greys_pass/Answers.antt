-- `part_audit::lists::greys_pass` meets its contract. Assumes nothing.
use mathlib.Core.Path.{◌∙◌, refl}
use mathlib.Core.List.{[]}
use Rattle.machine.specs.Heap.{colouring}
use Rattle.machine.specs.Colouring.{word_in, greys_pass}
use Rattle.part_audit.proofs.lists.greys_pass.Goals as goal

pub returns : goal.returns
unfolding greys_pass
returns g c =
    let h = g.B.Blocks.held c.args.blocks.now in
    c.walk.ensures (word_in (colouring h)) (λ b x k p. p) ∙ rw (c.count-n.ensures, c.first_grey-head.ensures 0 [], c.registers.ensures.told) refl
