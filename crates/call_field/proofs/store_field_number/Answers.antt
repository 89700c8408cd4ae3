-- `call_field::store_field_number` meets its contract: refused, or the word and its bit written in the block that the walk came to.
-- Assumes nothing.
use mathlib.Core.Path.{ap}
use Rattle.machine.specs.Refusal.{refused_by}
use Rattle.machine.proofs.Refusals.{told_refuses, told_so, unrefused}
use Rattle.machine.proofs.Storing.{word_writable}
use Rattle.machine.proofs.Fields.{field_readable, field_number_refused, field_number_stored}
use Rattle.call_field.proofs.store_field_number.Goals as goal

pub put_number-requires : goal.put_number-requires
put_number-requires c =
    let d = c.find_field.ensures in
    word_writable (field_readable _ _ _ _ (d.found _ c.in-Ok.is) (unrefused d.refused c.in-Ok.is))

pub returns-in-Ok : goal.returns-in-Ok
returns-in-Ok c =
    let d = c.find_field.ensures in
    field_number_stored _ _ _ d.refused _ _ _ (ap refused_by c.in-Ok.is) (d.found _ c.in-Ok.is) (c.done.ensures _ _ _) (c.put_number.ensures _ _)

pub returns-in-Err : goal.returns-in-Err
returns-in-Err c =
    field_number_refused _ _ _ (told_so c.find_field.ensures.refused c.into.ensures c.in-Err.is) _ (told_refuses _ c.into.ensures) (c.refused.ensures _ _ _)
