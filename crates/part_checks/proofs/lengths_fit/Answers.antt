-- `part_checks::lengths_fit` meets its contract. Assumes nothing.
use borrow.Author.Tests.{eq-eqb, ne_eqb}
use Rattle.machine.specs.Entry.{lengths_fit}
use Rattle.part_checks.proofs.lengths_fit.Goals as goal

pub returns-then-colours-n : goal.returns-then-colours-n
unfolding lengths_fit
returns-then-colours-n c = simp (eq-eqb _ _ c.if-words-n.true, eq-eqb _ _ c.if-colours-n.true)

pub returns-else-colours-n : goal.returns-else-colours-n
unfolding lengths_fit
returns-else-colours-n c = simp (eq-eqb _ _ c.if-words-n.true, ne_eqb _ _ c.if-colours-n.false)

pub returns-else-words-n : goal.returns-else-words-n
unfolding lengths_fit
returns-else-words-n c = simp (ne_eqb _ _ c.if-words-n.false)
