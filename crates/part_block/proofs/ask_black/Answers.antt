-- `part_block::ask_black` meets its contract. Assumes nothing.
use mathlib.Core.Path.{refl, sym, ◌∙◌}
use borrow.Author.Tests.{eq-eqb, ne_eqb}
use Rattle.machine.specs.Registers.{marking}
use Rattle.machine.proofs.Tests.{so}
use Rattle.machine.proofs.Passing.{black_off, black_as}
use Rattle.part_block.specs.Asked.{answered}
use Rattle.part_block.proofs.ask_black.Goals as goal

pub returns-then-phase-eq-MARKING : goal.returns-then-phase-eq-MARKING
unfolding answered
returns-then-phase-eq-MARKING c =
    λ r k part byte p q.
    let e = eq-eqb r.phase marking (p ∙ c.if-phase-eq-MARKING.true) in
    black_as r k part byte _ _ (so (c.may_be_black.ensures r p q) c.if-may_be_black.true) (rw e refl)

pub returns-then-may_be_black : goal.returns-then-may_be_black
unfolding answered
returns-then-may_be_black c =
    λ r k part byte p q.
    let e = ne_eqb r.phase marking (λ z. c.if-phase-eq-MARKING.false (sym p ∙ z)) in
    black_as r k part byte _ _ (so (c.may_be_black.ensures r p q) c.if-may_be_black.true) (rw e refl)

pub returns : goal.returns
unfolding answered
returns c = λ r k part byte p q. black_off r k part byte _ (so (c.may_be_black.ensures r p q) c.if-may_be_black.false)
