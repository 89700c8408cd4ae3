-- `part_checks::marking_legal` meets its contract. Assumes nothing.
use borrow.Author.Tests.{eq-eqb, ne_eqb}
use Rattle.part_checks.proofs.marking_legal.Goals as goal

pub returns-then-g-eq-NO_GREY : goal.returns-then-g-eq-NO_GREY
returns-then-g-eq-NO_GREY c = simp (eq-eqb _ _ c.if-position-eq0.true, eq-eqb _ _ c.if-g-eq-NO_GREY.true)

pub returns-else-g-eq-NO_GREY : goal.returns-else-g-eq-NO_GREY
returns-else-g-eq-NO_GREY c = simp (eq-eqb _ _ c.if-position-eq0.true, ne_eqb _ _ c.if-g-eq-NO_GREY.false) c.is_block.ensures

pub returns-else-position-eq0 : goal.returns-else-position-eq0
returns-else-position-eq0 c = simp (ne_eqb _ _ c.if-position-eq0.false)
