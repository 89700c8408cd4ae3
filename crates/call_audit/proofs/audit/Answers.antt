-- `call_audit::audit` meets its contract: the answer is the machine's, and 1 exactly on a well-formed heap. Assumes nothing.
use mathlib.Core.Path.{◌≡◌, refl, ◌∙◌}
use native.Mathlib.Omega.{arith}
use Rattle.machine.proofs.Tests.{so, clash, by_test}
use Rattle.machine.proofs.Passing.{audit_one, audit_none}
use Rattle.theory_audit.proofs.Audit.{audit_meaning}
use Rattle.call_audit.proofs.audit.Goals as goal

pub returns : goal.returns
returns c =
    by_test c.passes.result
    (λ e.
    let v : c.from.result ≡ 1 = c.from.ensures ∙ rw e refl in
    let t = so c.passes.ensures e in
    record { answered = rw v (audit_one _ t); meaning = (λ i. (audit_meaning _).0 t, λ f. v) })
    (λ e.
    let v : c.from.result ≡ 0 = c.from.ensures ∙ rw e refl in
    let t = so c.passes.ensures e in
    record { answered = rw v (audit_none _ t); meaning = (λ i. absurd (omega arith), λ f. clash ((audit_meaning _).1 f) t) })
