-- The first number at which a block may be black, by phase p and position q.
--     at_marking, at_sweeping, at_idle     what it is in each phase
--     first_test           whether a number is at or above it is whether that block may be black
-- Assumes nothing.
use Prim.Native.Nat.{ℕ, ◌<◌}
use mathlib.Core.Path.{◌≡◌, refl, ◌∙◌}
use mathlib.Core.Logic.{◌≢◌}
use native.Mathlib.Omega.{arith}
use lib.Dec.{eqb, leb}
use borrow.Author.Tests.{eq-eqb, ne_eqb, le-leb, lt-leb}
use Rattle.machine.specs.declared.Regs.{Regs}
use Rattle.std.specs.Prelude.{if◌then◌else◌}
use Rattle.machine.specs.Registers.{marking, sweeping}
use Rattle.machine.specs.State.{ahead, may_be_black}
use Rattle.machine.proofs.Tests.{by_eq}

abbrev first : ℕ → ℕ → ℕ
first p q = if eqb p marking then 0 else if eqb p sweeping then q else 4_294_967_296

module _ (p q : ℕ) where
  pub at_marking : p ≡ marking → first p q ≡ 0
  at_marking m = simp (eq-eqb p marking m)

  pub at_sweeping : p ≡ sweeping → first p q ≡ q
  at_sweeping s = simp (ne_eqb p marking (λ m. absurd (omega arith)), eq-eqb p sweeping s)

  pub at_idle : p ≢ marking → p ≢ sweeping → first p q ≡ 4_294_967_296
  at_idle m s = simp (ne_eqb p marking m, ne_eqb p sweeping s)

-- the test of a number against it is the test for black
module _ (r : Regs) (b n : ℕ) {p q : ℕ} (f : r.phase ≡ p) (g : r.position ≡ q) (e : n ≡ first p q) where
  in_regs : n ≡ first r.phase r.position
  in_regs = rw f (rw g e)

  pub first_test : b < 4_294_967_296 → leb n b ≡ may_be_black r b
  unfolding may_be_black ahead
  first_test u =
      by_eq r.phase marking
      (λ m. let k = in_regs in let a = at_marking r.phase r.position m in simp (eq-eqb r.phase marking m, le-leb n b (omega arith)))
      (λ m.
      by_eq r.phase sweeping
      (λ s. let k : n ≡ r.position = in_regs ∙ at_sweeping r.phase r.position s in simp (ne_eqb r.phase marking m, eq-eqb r.phase sweeping s) (rw k refl))
      (λ s.
      let k : n ≡ 4_294_967_296 = in_regs ∙ at_idle r.phase r.position m s in
      simp (ne_eqb r.phase marking m, ne_eqb r.phase sweeping s, lt-leb n b (omega arith))))
