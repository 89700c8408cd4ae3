-- `part_checks::legal` meets its contract. Assumes nothing.
use mathlib.Core.Path.{◌∙◌}
use borrow.Author.Tests.{le-leb, lt-leb}
use Rattle.machine.proofs.Tests.{so}
use Rattle.machine.proofs.Entering.{legal_as, illegal_phase, illegal_free, illegal_count, illegal_mark}
use Rattle.part_checks.proofs.legal.Goals as goal

pub returns-then-is_block_or_none : goal.returns-then-is_block_or_none
returns-then-is_block_or_none c =
    legal_as c.args.r (le-leb _ _ c.if-r.true) (so c.mark_legal.ensures c.if-mark_legal.true) (so c.phase_legal.ensures c.if-phase_legal.true) (so c.is_block_or_none.ensures c.if-is_block_or_none.true) c.is_block_or_none-then-is_block_or_none.ensures

pub returns-else-is_block_or_none : goal.returns-else-is_block_or_none
returns-else-is_block_or_none c =
    c.if-is_block_or_none.false ∙ illegal_free c.args.r (so c.is_block_or_none.ensures c.if-is_block_or_none.false)

pub returns-else-phase_legal : goal.returns-else-phase_legal
returns-else-phase_legal c = c.if-phase_legal.false ∙ illegal_phase c.args.r (so c.phase_legal.ensures c.if-phase_legal.false)

pub returns-else-mark_legal : goal.returns-else-mark_legal
returns-else-mark_legal c = c.if-mark_legal.false ∙ illegal_mark c.args.r (so c.mark_legal.ensures c.if-mark_legal.false)

pub returns-else-r : goal.returns-else-r
returns-else-r c = lt-leb _ _ c.if-r.false ∙ illegal_count c.args.r (lt-leb _ _ c.if-r.false)
