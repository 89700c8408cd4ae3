-- `call_export_objects::Objects::find` meets its contract: the first test that refuses, else what the two walks find. Assumes nothing.
use Prim.Native.Nat.{◌-◌, ◌/◌}
use mathlib.Core.Path.{◌≡◌, refl, sym, ◌∙◌, ap}
use native.Mathlib.Omega.{arith}
use Rattle.machine.specs.Refusal.{refused_by}
use Rattle.machine.proofs.Tests.{handed_on}
use Rattle.machine.proofs.Entering.{entry_ready}
use Rattle.machine.proofs.Refusals.{refuses, refused_so, unrefused}
use Rattle.machine.proofs.Fields.{field_zero, way_block}
use Rattle.part_field.proofs.Walking.{not_found}
use Rattle.call_export_objects.proofs.Steps.{fits_range, find_entry, find_place, find_off, find_ends}
use Rattle.call_export_objects.proofs.Objects.find.Goals as goal

pub returns-in_err-self : goal.returns-in_err-self
returns-in_err-self c =
    rw (handed_on c.from_residual.ensures) (not_found (find_entry _ _ _ (refused_so c.args.self.now.entered c.in_err-self.was) (refuses _)))

pub overflow_sub-self : goal.overflow_sub-self
overflow_sub-self c = (fits_range _ _ c.args.self.now.in_range).some

pub field_place-requires : goal.field_place-requires
field_place-requires c = (entry_ready _ (unrefused c.args.self.now.entered c.in_ok-self.was)).most

pub returns-in_err-field_place : goal.returns-in_err-field_place
returns-in_err-field_place c =
    rw (handed_on c.from_residual-in_err-field_place.ensures)
    (not_found (find_place _ _ _ c.args.self.now.entered (ap refused_by c.in_ok-self.was) (refused_so c.field_place.ensures c.in_err-field_place.was) (refuses _)))

pub walk-requires : goal.walk-requires
walk-requires c =
    (entry_ready _ (unrefused c.args.self.now.entered c.in_ok-self.was), field_zero _ _ _ (unrefused c.field_place.ensures c.in_ok-field_place.was))

pub returns-in_err-at : goal.returns-in_err-at
returns-in_err-at c =
    let d = fits_range _ _ c.args.self.now.in_range in
    let link = c.args.self.now.link in
    let fields = c.args.self.now.fields in
    rw (handed_on c.from_residual-in_err-at.ensures)
    (not_found (find_off _ _ _ c.args.self.now.entered (ap refused_by c.in_ok-self.was) c.field_place.ensures (ap refused_by c.in_ok-field_place.was)
    (link / 7) ((fields - 1) / 7 - link / 7) (omega arith) (refused_so c.walk.ensures.refused c.in_err-at.was) (refuses _)))

pub overflow_sub-rest : goal.overflow_sub-rest
overflow_sub-rest c =
    let d = fits_range _ _ c.args.self.now.in_range in omega arith

pub overflow_sub-rest-2 : goal.overflow_sub-rest-2
overflow_sub-rest-2 c =
    let d = fits_range _ _ c.args.self.now.in_range in omega arith

pub walk-requires-2 : goal.walk-requires-2
walk-requires-2 c =
    let z = unrefused c.walk.ensures.refused c.in_ok-at.was in
    let b = field_zero _ _ _ (unrefused c.field_place.ensures c.in_ok-field_place.was) in
    (entry_ready _ (unrefused c.args.self.now.entered c.in_ok-self.was), rw (c.walk.ensures.found _ c.in_ok-at.was) (way_block _ _ _ b z))

pub returns-in_err-walk : goal.returns-in_err-walk
returns-in_err-walk c =
    let d = fits_range _ _ c.args.self.now.in_range in
    let link = c.args.self.now.link in
    let fields = c.args.self.now.fields in
    rw (handed_on c.from_residual-in_err-walk.ensures)
    (not_found (find_ends _ _ _ c.args.self.now.entered (ap refused_by c.in_ok-self.was) c.field_place.ensures (ap refused_by c.in_ok-field_place.was)
    (link / 7) ((fields - 1) / 7 - link / 7) (omega arith) c.walk.ensures.refused (ap refused_by c.in_ok-at.was)
    (c.walk.ensures.found _ c.in_ok-at.was) (refused_so c.walk-2.ensures.refused c.in_err-walk.was)))

pub returns : goal.returns
returns c =
    let d = fits_range _ _ c.args.self.now.in_range in
    let link = c.args.self.now.link in
    let fields = c.args.self.now.fields in
    let at = c.walk.ensures.found _ c.in_ok-at.was in
    let q = find_ends _ _ _ c.args.self.now.entered (ap refused_by c.in_ok-self.was) c.field_place.ensures (ap refused_by c.in_ok-field_place.was)
    (link / 7) ((fields - 1) / 7 - link / 7) (omega arith) c.walk.ensures.refused (ap refused_by c.in_ok-at.was) at
    (sym (unrefused c.walk-2.ensures.refused c.in_ok-walk.was)) in
    record { refused = q; found = λ y e. c.walk.ensures.found y (c.in_ok-at.was ∙ e) }
