-- `part_checks::sweeping_legal` meets its contract. Assumes nothing.
use borrow.Author.Tests.{eq-eqb, ne_eqb, le-leb, lt-leb}
use Rattle.part_checks.proofs.sweeping_legal.Goals as goal

pub returns-then-position-ge-FIRST : goal.returns-then-position-ge-FIRST
returns-then-position-ge-FIRST c = simp (eq-eqb _ _ c.if-g-eq-NO_GREY.true, le-leb _ _ c.if-position-ge-FIRST.true)

pub returns-else-position-ge-FIRST : goal.returns-else-position-ge-FIRST
returns-else-position-ge-FIRST c = simp (eq-eqb _ _ c.if-g-eq-NO_GREY.true, lt-leb _ _ c.if-position-ge-FIRST.false)

pub returns-else-g-eq-NO_GREY : goal.returns-else-g-eq-NO_GREY
returns-else-g-eq-NO_GREY c = simp (ne_eqb _ _ c.if-g-eq-NO_GREY.false)
