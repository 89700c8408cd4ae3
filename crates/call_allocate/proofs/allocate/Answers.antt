-- `call_allocate::allocate` meets its contract: a law for each way out. Assumes nothing.
use mathlib.Core.Path.{sym, ◌∙◌, ap}
use native.Mathlib.Omega.{arith}
use Rattle.machine.specs.Refusal.{refused_by}
use Rattle.machine.specs.Units.{damage_number}
use Rattle.machine.proofs.Refusals.{told_refuses, told_so, unrefused}
use Rattle.machine.proofs.Allocating.{holder_zero, damaged_ends, ended_so, allocate_refused, allocate_goes}
use Rattle.machine.proofs.Entering.{first_zero, entry_ready}
use Rattle.machine.proofs.Kept.{ran_kept}
use Rattle.call_allocate.proofs.allocate.Goals as goal

pub returns-in-Err : goal.returns-in-Err
returns-in-Err c =
    allocate_refused _ _ _ (told_so c.start_refusal.ensures c.into.ensures c.in-Err.is) (told_refuses _ c.into.ensures) (c.refused.ensures _ _ _)

pub units_due-requires : goal.units_due-requires
units_due-requires c =
    let d = entry_ready _ (first_zero _ _ (unrefused c.start_refusal.ensures c.in_default.is)).0 in
    (d.most, d.count)

pub run-ran-requires : goal.run-ran-requires
run-ran-requires c = entry_ready _ (first_zero _ _ (unrefused c.start_refusal.ensures c.in_default.is)).0

pub returns-in_default-end : goal.returns-in_default-end
returns-in_default-end c =
    let n = c.into-in_default-end.ensures in
    let r = ended_so _ _ _ c.run-ran.ensures (ap damage_number c.in_default-end.is) in
    allocate_goes _ _ _ c.start_refusal.ensures (ap refused_by c.in_default.is) c.units_due.ensures r
    (damaged_ends _ _ _ (λ z. absurd (omega arith)) (rw n at (c.answered.ensures c.run-ran.new.words c.run-ran.new.colours c.run-ran.new.bytes)))

pub allocate_after-requires : goal.allocate_after-requires
allocate_after-requires c =
    let z = first_zero _ _ (unrefused c.start_refusal.ensures c.in_default.is) in
    let d = entry_ready _ z.0 in
    let e = ran_kept _ _ _ c.run-ran.ensures d in
    (e, holder_zero _ _ (sym e.colours ∙ c.run-ran.auto.colours ∙ d.colours) z.1)

pub returns : goal.returns
returns c =
    allocate_goes _ _ _ c.start_refusal.ensures (ap refused_by c.in_default.is) c.units_due.ensures
    (ended_so _ _ _ c.run-ran.ensures (ap damage_number c.in-Ok.is)) c.allocate_after.ensures
