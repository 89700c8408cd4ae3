-- `part_checks::is_block_or_none` meets its contract. Assumes nothing.
use mathlib.Core.Path.{◌∙◌}
use borrow.Author.Tests.{lt-leb}
use Rattle.machine.proofs.Entering.{none_or_high, none_above}
use Rattle.part_checks.proofs.is_block_or_none.Goals as goal

pub returns-then-b-m : goal.returns-then-b-m
returns-then-b-m c = none_or_high _ _ c.if-b-m.true

pub returns-else-b-m : goal.returns-else-b-m
returns-else-b-m c = lt-leb _ _ c.if-b-m.false ∙ none_above _ _ c.if-b-m.false
