-- `part_checks::mark_legal` meets its contract. Assumes nothing.
use Rattle.machine.specs.Entry.{mark_legal}
use borrow.Author.Tests.{le-leb, lt-leb}
use Rattle.part_checks.proofs.mark_legal.Goals as goal

pub returns-then-r-ge1 : goal.returns-then-r-ge1
unfolding mark_legal
returns-then-r-ge1 c = simp (le-leb _ _ c.if-r-ge1.true)

pub returns-else-r-ge1 : goal.returns-else-r-ge1
unfolding mark_legal
returns-else-r-ge1 c = simp (lt-leb _ _ c.if-r-ge1.false)
