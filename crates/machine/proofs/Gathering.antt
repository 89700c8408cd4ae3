-- Laws of the tests before several blocks are taken, one for each way through the code, and what they establish.
--     several_head, several_few, several_unwalked, several_repeats, several_good     the tests of the first n of the free list
--     Gathered, gathered       what refusal number 0 establishes
-- Assumes nothing.
use Prim.Native.Nat.{ℕ, ◌≤◌, ◌<◌}
use mathlib.Core.Path.{◌≡◌, refl}
use mathlib.Core.Logic.{◌≢◌}
use mathlib.Core.Bool.{true, false}
use native.Mathlib.Omega.{arith}
use lib.Dec.{leb, eqb}
use borrow.Author.Tests.{ne_eqb, le-leb, lt-leb, leb-true}
use Rattle.std.specs.Prelude.{if◌then◌else◌}
use Rattle.machine.specs.Heap.{Heap}
use Rattle.machine.specs.State.{holder_refusal}
use Rattle.machine.specs.Several.{first_frees, list_walks, distinct, head_refusal, several_refusal, take_several_refusal}
use Rattle.machine.proofs.Tests.{both_true}
use Rattle.machine.proofs.Entering.{first_zero, choose_zero}
use Rattle.machine.proofs.Refusals.{stops, passes}

module _ (h : Heap) (n : ℕ) {e : ℕ} (q : e ≡ head_refusal h.regs.free h.regs.count) where
  pub several_head : e ≢ 0 → e ≡ several_refusal n h
  unfolding several_refusal
  several_head z = stops _ q z

  module _ (z : e ≡ 0) where
    pub several_few : h.regs.count < n → 7 ≡ several_refusal n h
    unfolding several_refusal
    several_few l = passes q z (simp (lt-leb n h.regs.count l) (stops _ refl (λ y. absurd (omega arith))))

    module _ (l : n ≤ h.regs.count) where
      pub several_unwalked : list_walks n h.regs.free h ≡ false → 8 ≡ several_refusal n h
      unfolding several_refusal
      several_unwalked w = passes q z (simp (le-leb n h.regs.count l) (passes refl refl (simp w)))

      module _ (w : list_walks n h.regs.free h ≡ true) where
        pub several_repeats : distinct (first_frees n h) ≡ false → 8 ≡ several_refusal n h
        unfolding several_refusal
        several_repeats d = passes q z (simp (le-leb n h.regs.count l) (passes refl refl (simp (w, d))))

        pub several_good : distinct (first_frees n h) ≡ true → 0 ≡ several_refusal n h
        unfolding several_refusal
        several_good d = passes q z (simp (le-leb n h.regs.count l) (passes refl refl (simp (w, d))))

-- what the tests establish where none refuses
pub record Gathered (n b : ℕ) (h : Heap) : Type 0 where
  pub holder : b ≢ 0 → holder_refusal h b ≡ 0
  pub count : n ≤ h.regs.count
  pub walks : list_walks n h.regs.free h ≡ true
  pub different : distinct (first_frees n h) ≡ true

pub gathered : (n b : ℕ) (h : Heap) → take_several_refusal n b h ≡ 0 → Gathered n b h
unfolding take_several_refusal several_refusal
gathered n b h e =
    let a = first_zero (if eqb b 0 then 0 else holder_refusal h b) (several_refusal n h) e in
    let c = first_zero (head_refusal h.regs.free h.regs.count) _ a.1 in
    let d = first_zero (if leb n h.regs.count then 0 else 7) _ c.1 in
    let k = both_true (list_walks n h.regs.free h) (distinct (first_frees n h)) (choose_zero _ 8 (omega arith) d.1) in
    record {
      holder = λ z. simp (ne_eqb b 0 z) at a.0;
      count = leb-true n h.regs.count (choose_zero (leb n h.regs.count) 7 (omega arith) d.0);
      walks = k.0;
      different = k.1;
    }
