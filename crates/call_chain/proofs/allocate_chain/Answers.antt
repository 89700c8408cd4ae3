-- `call_chain::allocate_chain` meets its contract: a law for each way out. Assumes nothing.
use mathlib.Core.Path.{sym, ◌∙◌, ap, refl}
use native.Mathlib.Nat.{mul-le-mul}
use native.Mathlib.Omega.{arith}
use Rattle.machine.specs.Refusal.{refused_by}
use Rattle.machine.specs.Units.{damage_number}
use Rattle.machine.specs.Chain.{chain}
use Rattle.machine.proofs.Entering.{first_zero, entry_ready}
use Rattle.machine.proofs.Kept.{ran_kept}
use Rattle.machine.proofs.Refusals.{told_refuses, told_so, unrefused}
use Rattle.machine.proofs.Allocating.{holder_zero, ended_so}
use Rattle.machine.proofs.Serving.{serves_damaged}
use Rattle.machine.proofs.Chaining.{place_zero, due_most, chain_refused, chain_goes}
use Rattle.call_chain.proofs.allocate_chain.Goals as goal

pub returns-in-Err : goal.returns-in-Err
returns-in-Err c =
    chain_refused _ _ _ _ (told_so c.start_refusal.ensures c.into.ensures c.in-Err.is) (told_refuses _ c.into.ensures) (c.refused.ensures _ _ _)

pub units_due-requires : goal.units_due-requires
units_due-requires c =
    let d = entry_ready _ (first_zero _ _ (unrefused c.start_refusal.ensures c.in_default.is)).0 in
    (d.most, d.count)

pub overflow_mul-n : goal.overflow_mul-n
overflow_mul-n c =
    let z = first_zero _ _ (unrefused c.start_refusal.ensures c.in_default.is) in
    let d = entry_ready _ z.0 in
    let long = (place_zero _ _ _ _ refl z.1).2 in
    let due = due_most c.args.r d.most d.pace in
    let u = c.units_due.ensures in
    omega (arith, mul-le-mul {n₁ = c.args.n} {m₁ = c.units_due.result} {n₂ = 256} {m₂ = 65535} long (omega arith))

pub run-ran-requires : goal.run-ran-requires
run-ran-requires c = entry_ready _ (first_zero _ _ (unrefused c.start_refusal.ensures c.in_default.is)).0

pub returns-in_default-end : goal.returns-in_default-end
returns-in_default-end c =
    let n = c.into-in_default-end.ensures in
    let r = ended_so _ _ _ c.run-ran.ensures (ap damage_number c.in_default-end.is) in
    chain_goes _ _ _ _ c.start_refusal.ensures (ap refused_by c.in_default.is) c.units_due.ensures r
    (serves_damaged chain _ _ _ _ (λ z. absurd (omega arith)) (rw n at (c.answered.ensures c.run-ran.new.words c.run-ran.new.colours c.run-ran.new.bytes)))

pub chain_after-requires : goal.chain_after-requires
chain_after-requires c =
    let z = first_zero _ _ (unrefused c.start_refusal.ensures c.in_default.is) in
    let d = entry_ready _ z.0 in
    let e = ran_kept _ _ _ c.run-ran.ensures d in
    let p = place_zero _ _ _ _ refl z.1 in
    (e, holder_zero _ _ (sym e.colours ∙ c.run-ran.auto.colours ∙ d.colours) p.0, p.1)

pub returns : goal.returns
returns c =
    chain_goes _ _ _ _ c.start_refusal.ensures (ap refused_by c.in_default.is) c.units_due.ensures
    (ended_so _ _ _ c.run-ran.ensures (ap damage_number c.in-Ok.is)) c.chain_after.ensures
