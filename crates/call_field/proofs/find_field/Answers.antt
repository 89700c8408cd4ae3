-- `call_field::find_field` meets its contract: the first test that refuses, or what the walk finds. Assumes nothing.
use Rattle.machine.specs.Field.{field_refusal}
use Rattle.machine.proofs.Tests.{handed_on}
use Rattle.machine.proofs.Entering.{entry_ready}
use Rattle.machine.proofs.Refusals.{unrefused, stops_by, passes_by}
use Rattle.machine.proofs.Fields.{field_zero}
use Rattle.part_field.proofs.Walking.{not_found, finds_on}
use Rattle.call_field.proofs.find_field.Goals as goal

pub returns-in_err-entry : goal.returns-in_err-entry
unfolding field_refusal
returns-in_err-entry c = rw (handed_on c.from_residual.ensures) (not_found (stops_by c.entry.ensures _ c.in_err-entry.was))

pub field_place-requires : goal.field_place-requires
field_place-requires c = (entry_ready _ (unrefused c.entry.ensures c.in_ok-entry.was)).most

pub returns-in_err-field_place : goal.returns-in_err-field_place
unfolding field_refusal
returns-in_err-field_place c =
    rw (handed_on c.from_residual-in_err-field_place.ensures)
    (not_found (passes_by c.entry.ensures c.in_ok-entry.was (stops_by c.field_place.ensures _ c.in_err-field_place.was)))

pub find-requires : goal.find-requires
find-requires c =
    (entry_ready _ (unrefused c.entry.ensures c.in_ok-entry.was), field_zero _ _ _ (unrefused c.field_place.ensures c.in_ok-field_place.was))

pub returns : goal.returns
unfolding field_refusal
returns c =
    finds_on c.find.ensures (λ q. passes_by c.entry.ensures c.in_ok-entry.was (passes_by c.field_place.ensures c.in_ok-field_place.was q))
