-- `part_field::field_place` meets its contract: a law of the definition for each way out. Assumes nothing.
use Rattle.machine.proofs.Tests.{so}
use Rattle.machine.proofs.Fields.{field_fits, field_high, field_no_block}
use Rattle.part_field.proofs.field_place.Goals as goal
use Rattle.part_field.proofs.field_place.Goals.{else-is_block-via-then-is_block+else-k-le-LAST_FIELD, else-is_block-via-else-is_block}

pub returns-then-k-le-LAST_FIELD : goal.returns-then-k-le-LAST_FIELD
returns-then-k-le-LAST_FIELD c = field_fits _ _ _ (so c.is_block.ensures c.if-is_block.true) c.if-k-le-LAST_FIELD.true

pub returns : goal.returns
returns c =
    elim c.else-is_block.branch [
      | else-is_block-via-then-is_block+else-k-le-LAST_FIELD w ↦ field_high _ _ _ (so c.is_block.ensures w.if-is_block.true) w.if-k-le-LAST_FIELD.false
      | else-is_block-via-else-is_block w ↦ field_no_block _ _ _ (so c.is_block.ensures w.if-is_block.false)
    ]
