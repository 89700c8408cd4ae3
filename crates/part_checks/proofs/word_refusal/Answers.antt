-- `part_checks::word_refusal` meets its contract: a law of the refusals for each way out. Assumes nothing.
use Rattle.machine.proofs.Tests.{so}
use Rattle.machine.proofs.Refusals.{word_fits, word_high, word_no_block}
use Rattle.part_checks.proofs.word_refusal.Goals as goal
use Rattle.part_checks.proofs.word_refusal.Goals.{else-is_block-via-then-is_block+else-w-le7, else-is_block-via-else-is_block}

pub returns-then-w-le7 : goal.returns-then-w-le7
returns-then-w-le7 c = word_fits _ _ _ (so c.is_block.ensures c.if-is_block.true) c.if-w-le7.true

pub returns : goal.returns
returns c =
    elim c.else-is_block.branch [
      | else-is_block-via-then-is_block+else-w-le7 w ↦ word_high _ _ _ (so c.is_block.ensures w.if-is_block.true) w.if-w-le7.false
      | else-is_block-via-else-is_block w ↦ word_no_block _ _ _ (so c.is_block.ensures w.if-is_block.false)
    ]
