-- `part_block::ask_grey` meets its contract. Assumes nothing.
use mathlib.Core.Path.{refl, sym, ◌∙◌}
use Rattle.machine.proofs.Passing.{grey_off, grey_named}
use Rattle.part_block.specs.Asked.{answered}
use Rattle.part_block.proofs.ask_grey.Goals as goal

pub returns-then-phase-ne-MARKING : goal.returns-then-phase-ne-MARKING
unfolding answered
returns-then-phase-ne-MARKING c = λ r k part byte b p. grey_off r k part byte b (λ z. c.if-phase-ne-MARKING.true (sym p ∙ z))

pub returns : goal.returns
unfolding answered
returns c = λ r k part byte b p. grey_named r k part byte b _ (p ∙ c.if-phase-ne-MARKING.false) refl
