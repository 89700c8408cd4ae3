-- `call_field::find_to_store` meets its contract: the first test that refuses, or what the walk finds. Assumes nothing.
use mathlib.Core.Path.{refl, sym, ◌∙◌}
use Rattle.machine.specs.Field.{field_store_refusal}
use Rattle.machine.proofs.Tests.{handed_on}
use Rattle.machine.proofs.Entering.{entry_ready, none_or_block}
use Rattle.machine.proofs.Refusals.{refused_so, unrefused, stops_by, passes_by, target_zero}
use Rattle.machine.proofs.Fields.{field_zero}
use Rattle.part_field.proofs.Walking.{not_found}
use Rattle.call_field.proofs.find_to_store.Goals as goal

pub returns-in_err-entry : goal.returns-in_err-entry
unfolding field_store_refusal
returns-in_err-entry c = rw (handed_on c.from_residual.ensures) (not_found (stops_by c.entry.ensures _ c.in_err-entry.was))

pub field_place-requires : goal.field_place-requires
field_place-requires c = (entry_ready _ (unrefused c.entry.ensures c.in_ok-entry.was)).most

pub returns-in_err-field_place : goal.returns-in_err-field_place
unfolding field_store_refusal
returns-in_err-field_place c =
    rw (handed_on c.from_residual-in_err-field_place.ensures)
    (not_found (passes_by c.entry.ensures c.in_ok-entry.was (stops_by c.field_place.ensures _ c.in_err-field_place.was)))

pub target_place-requires : goal.target_place-requires
target_place-requires c = (entry_ready _ (unrefused c.entry.ensures c.in_ok-entry.was)).most

pub returns-in_err-target_place : goal.returns-in_err-target_place
unfolding field_store_refusal
returns-in_err-target_place c =
    rw (handed_on c.from_residual-in_err-target_place.ensures)
    (not_found (passes_by c.entry.ensures c.in_ok-entry.was
    (passes_by c.field_place.ensures c.in_ok-field_place.was (stops_by c.target_place.ensures _ c.in_err-target_place.was))))

pub find-requires : goal.find-requires
find-requires c =
    (entry_ready _ (unrefused c.entry.ensures c.in_ok-entry.was), field_zero _ _ _ (unrefused c.field_place.ensures c.in_ok-field_place.was))

pub returns-in_err-x : goal.returns-in_err-x
unfolding field_store_refusal
returns-in_err-x c =
    rw (handed_on c.from_residual-in_err-x.ensures)
    (not_found (passes_by c.entry.ensures c.in_ok-entry.was
    (passes_by c.field_place.ensures c.in_ok-field_place.was
    (passes_by c.target_place.ensures c.in_ok-target_place.was (stops_by c.find.ensures.refused _ c.in_err-x.was)))))

pub target_refusal-requires : goal.target_refusal-requires
target_refusal-requires c =
    let d = entry_ready _ (unrefused c.entry.ensures c.in_ok-entry.was) in
    (d.most, d.colours, none_or_block _ _ (target_zero _ _ (unrefused c.target_place.ensures c.in_ok-target_place.was)))

pub returns-in_err-target_refusal : goal.returns-in_err-target_refusal
unfolding field_store_refusal
returns-in_err-target_refusal c =
    rw (handed_on c.from_residual-in_err-target_refusal.ensures)
    (not_found (passes_by c.entry.ensures c.in_ok-entry.was
    (passes_by c.field_place.ensures c.in_ok-field_place.was
    (passes_by c.target_place.ensures c.in_ok-target_place.was
    (passes_by c.find.ensures.refused c.in_ok-x.was (refused_so (c.target_refusal.ensures _ _ _ refl refl refl) c.in_err-target_refusal.was))))))

pub returns : goal.returns
unfolding field_store_refusal
returns c =
    let q = passes_by c.entry.ensures c.in_ok-entry.was
    (passes_by c.field_place.ensures c.in_ok-field_place.was
    (passes_by c.target_place.ensures c.in_ok-target_place.was
    (passes_by c.find.ensures.refused c.in_ok-x.was (sym (unrefused (c.target_refusal.ensures _ _ _ refl refl refl) c.in_ok-target_refusal.was))))) in
    record { refused = q; found = λ y e. c.find.ensures.found y (c.in_ok-x.was ∙ e) }
