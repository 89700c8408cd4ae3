-- `call_field::store_field_reference` meets its contract: refused, or the barrier and then the word and its bit written in the block
-- that the walk came to. Assumes nothing.
use mathlib.Core.Path.{ap}
use Rattle.machine.specs.Refusal.{refused_by}
use Rattle.machine.proofs.Refusals.{told_refuses, told_so, unrefused}
use Rattle.machine.proofs.Storing.{word_writable}
use Rattle.machine.proofs.Fields.{field_storable, field_target, field_reference_refused, field_reference_stored}
use Rattle.call_field.proofs.store_field_reference.Goals as goal

pub barrier-s-requires : goal.barrier-s-requires
barrier-s-requires c =
    let d = c.find_to_store.ensures in
    let at = d.found _ c.in-Ok.is in
    let z = unrefused d.refused c.in-Ok.is in
    ((field_storable _ _ _ _ at _ z).ready.colours, field_target _ _ _ _ at _ z)

pub put_reference-requires : goal.put_reference-requires
put_reference-requires c =
    let d = c.find_to_store.ensures in
    word_writable (field_storable _ _ _ _ (d.found _ c.in-Ok.is) _ (unrefused d.refused c.in-Ok.is))

pub returns-in-Ok : goal.returns-in-Ok
returns-in-Ok c =
    let d = c.find_to_store.ensures in
    field_reference_stored _ _ _ _ d.refused _ _ _ (ap refused_by c.in-Ok.is) (d.found _ c.in-Ok.is) (c.done.ensures _ _ _) (c.put_reference.ensures _ _) (c.barrier-s.ensures _ _)

pub returns-in-Err : goal.returns-in-Err
returns-in-Err c =
    field_reference_refused _ _ _ _ (told_so c.find_to_store.ensures.refused c.into.ensures c.in-Err.is) (told_refuses _ c.into.ensures) (c.refused.ensures _ _ _)
