-- `part_several::fits_at` meets its contract: the end of the list, or the test of the block. Assumes nothing.
use borrow.Author.Tests.{eq-eqb, ne_eqb}
use Rattle.part_several.specs.Walk.{fits_at}
use Rattle.part_several.proofs.fits_at.Goals as goal

pub can_be_taken-requires : goal.can_be_taken-requires
can_be_taken-requires c = (c.requires.0, c.requires.1, c.requires.2, c.requires.3 c.if-a-ne0.true)

pub returns-then-a-ne0 : goal.returns-then-a-ne0
unfolding fits_at
returns-then-a-ne0 c = λ g. simp (ne_eqb _ 0 c.if-a-ne0.true) (c.can_be_taken.ensures g)

pub returns-else-a-ne0 : goal.returns-else-a-ne0
unfolding fits_at
returns-else-a-ne0 c = λ g. simp (eq-eqb _ 0 c.if-a-ne0.false)
