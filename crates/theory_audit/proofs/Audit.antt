-- The audit's meaning.
--     audit_meaning        the audit's test is true exactly where the heap is well-formed, for every heap
--     audit_means          the call: 1 exactly there, else 0; no refusal, no units, the heap as it was
-- The audit's test is a conjunction, each part of which says sentences of well-formed.
-- Assumes nothing.
use mathlib.Core.Path.{◌≡◌, refl}
use mathlib.Core.Logic.{◌↔◌}
use mathlib.Core.Bool.{true, false, ◌&&◌}
use native.Mathlib.Omega.{arith}
use lib.Dec.{eqb}
use borrow.Author.Tests.{eqb-true, eq-eqb}
use Rattle.machine.specs.Registers.{marking}
use Rattle.machine.specs.Heap.{Heap, colouring}
use Rattle.machine.specs.Entry.{entry}
use Rattle.machine.specs.Audit.{all_from, layout_passes, may_name, block_passes, frees_pass, passes, audit}
use Rattle.machine.specs.WellFormed.{WellFormed}
use Rattle.machine.proofs.Tests.{both_true, both, by_test, clash}
use Rattle.theory_audit.specs.Meaning.{AuditMeans}
use Rattle.theory_audit.proofs.Formed.{Tests, tests_formed, formed_tests}

module _ (h : Heap) where
  -- the audit's test in its parts
  passes_parts : passes h ≡ true → Tests h
  unfolding passes
  passes_parts e =
      let r = h.regs in
      let frees = frees_pass r h.words (colouring h) in
      let root = may_name r (colouring h) (eqb r.phase marking) r.root in
      let blocks = all_from (block_passes h) r.blocks 2 in
      let layout = layout_passes (colouring h) in
      let a = both_true (eqb (entry h) 0) (layout && (blocks && (root && frees))) e in
      let b = both_true layout (blocks && (root && frees)) a.1 in
      let c = both_true blocks (root && frees) b.1 in
      let d = both_true root frees c.1 in
      record { entered = eqb-true (entry h) 0 a.0; layout = b.0; blocks = c.0; root = d.0; frees = d.1 }

  parts_pass : Tests h → passes h ≡ true
  unfolding passes
  parts_pass t = both (eq-eqb (entry h) 0 t.entered) (both t.layout (both t.blocks (both t.root t.frees)))

  pub audit_meaning : (passes h ≡ true) ↔ WellFormed h
  audit_meaning = (λ e. tests_formed h (passes_parts e), λ w. parts_pass (formed_tests h w))

  value_one : (audit h).answer.value ≡ 1 → passes h ≡ true
  unfolding audit
  value_one e = by_test (passes h) (λ t. t) (λ t. let z = (rw t at e) in absurd (omega arith))

  one_value : passes h ≡ true → (audit h).answer.value ≡ 1
  unfolding audit
  one_value t = rw t refl

  value_none : (audit h).answer.value ≡ 0 → passes h ≡ false
  unfolding audit
  value_none e = by_test (passes h) (λ t. let z = (rw t at e) in absurd (omega arith)) (λ t. t)

  none_value : passes h ≡ false → (audit h).answer.value ≡ 0
  unfolding audit
  none_value t = rw t refl

  pub audit_means : AuditMeans h
  unfolding audit
  audit_means =
      record {
        test = audit_meaning;
        one = (λ e. audit_meaning.0 (value_one e), λ w. one_value (audit_meaning.1 w));
        none = (
          λ n. none_value (by_test (passes h) (λ t. absurd (n (audit_meaning.0 t))) (λ t. t)),
          λ e w. clash (audit_meaning.1 w) (value_none e),
        );
        refusal = refl;
        units = refl;
        heap = refl;
      }
