-- `part_audit::greys` meets its contract. Assumes nothing.
use mathlib.Core.Path.{◌∙◌, ap}
use Rattle.machine.specs.declared.Regs.{Regs}
use Rattle.machine.proofs.Passing.{layout_greys, layout_plain}
use Rattle.part_audit.proofs.greys.Goals as goal

pub returns-then-registers-ne-MARKING : goal.returns-then-registers-ne-MARKING
returns-then-registers-ne-MARKING g c =
    λ d a. layout_plain _ (λ z. c.if-registers-ne-MARKING.true (ap (λ (r : Regs). r.phase) c.registers.ensures.told ∙ z)) d a

pub returns : goal.returns
returns g c = λ d a. layout_greys _ a c.greys_pass.ensures
