-- Ways to split a proof, and to end one.
--     never           from a clash of constructors, anything
--     by_test         a case split on a test, kept with its equation
--     by_eq           a case split on whether two numbers are equal
--     by_le           a case split on the order of two numbers
-- Assumes nothing.
use Prim.Native.Nat.{ℕ, ◌≤◌, ◌<◌}
use mathlib.Core.Path.{◌≡◌, refl}
use mathlib.Core.Logic.{◌≢◌}
use mathlib.Core.Bool.{Bool, true, false}
use native.Mathlib.Omega.{arith}
use lib.Dec.{eqb, leb}
use borrow.Author.Tests.{eqb-true, eqb-false, leb-true, leb-false}

pub never : {A : Type 0} → ◌≡◌ {A = ℕ} 0 1 → A
never e = absurd (omega arith)

pub by_test : {A : Type 0} (t : Bool) → (t ≡ true → A) → (t ≡ false → A) → A
by_test true p q = p refl
by_test false p q = q refl

pub by_eq : {A : Type 0} (a b : ℕ) → (a ≡ b → A) → (a ≢ b → A) → A
by_eq a b p q = by_test (eqb a b) (λ e. p (eqb-true a b e)) (λ e. q (eqb-false a b e))

pub by_le : {A : Type 0} (a b : ℕ) → (a ≤ b → A) → (b < a → A) → A
by_le a b p q = by_test (leb a b) (λ e. p (leb-true a b e)) (λ e. q (leb-false a b e))
