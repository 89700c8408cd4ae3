-- `part_checks::numbers_fit` meets its contract. Assumes nothing.
use borrow.Author.Tests.{le-leb, lt-leb}
use Rattle.machine.specs.Entry.{numbers_fit}
use Rattle.part_checks.proofs.numbers_fit.Goals as goal

pub returns-then-m-le-MOST_BLOCKS : goal.returns-then-m-le-MOST_BLOCKS
unfolding numbers_fit
returns-then-m-le-MOST_BLOCKS c = simp (le-leb _ _ c.if-m-ge1.true, le-leb _ _ c.if-m-le-MOST_BLOCKS.true)

pub returns-else-m-le-MOST_BLOCKS : goal.returns-else-m-le-MOST_BLOCKS
unfolding numbers_fit
returns-else-m-le-MOST_BLOCKS c = simp (le-leb _ _ c.if-m-ge1.true, lt-leb _ _ c.if-m-le-MOST_BLOCKS.false)

pub returns-else-m-ge1 : goal.returns-else-m-ge1
unfolding numbers_fit
returns-else-m-ge1 c = simp (lt-leb _ _ c.if-m-ge1.false)
