-- Laws of tests: what a conjunction or a choice says, and facts read off a test that came out true or false.
--     both_true, both          a && b is true exactly where both are
--     if_ind                   what holds of both choices holds of the choice, each with the test that leads to it
--     if_true, if_false        a choice whose test is known
--     clash                    a test that is true and false
--     by_test, by_eq           a case split on a test, on whether two numbers are equal
--     differ, agree            what a test for a difference says
--     so                       an answer, by its contract, and what a test said of it
--     handed_on                what a `?` hands on is the error that it met
-- Assumes nothing.
use Prim.Native.Nat.{ℕ}
use mathlib.Core.Path.{◌≡◌, refl, sym, ◌∙◌}
use mathlib.Core.Bool.{Bool, true, false, ◌&&◌, ◌||◌, not, true≢false}
use mathlib.Core.Logic.{◌⊎◌, inl, inr}
use lib.Dec.{eqb}
use borrow.Author.Tests.{eqb-true, eqb-false}
use Rattle.std.specs.Prelude.{Result, Ok, Err, IsErr, IsErrAnd, if◌then◌else◌}

pub clash : {A : Type 0} {t : Bool} → t ≡ true → t ≡ false → A
clash {t} p q = absurd (true≢false (cc))

pub both_true : (a b : Bool) → (a && b) ≡ true → (a ≡ true) × (b ≡ true)
both_true true b e = (refl, e)
both_true false b e = clash e refl

pub both : {a b : Bool} → a ≡ true → b ≡ true → (a && b) ≡ true
both {a} {b} p q = rw (p, q) refl

pub either_true : (a b : Bool) → (a || b) ≡ true → (a ≡ true) ⊎ (b ≡ true)
either_true true b e = inl refl
either_true false b e = inr e

pub if_true : {A : Type 0} {t : Bool} (a b : A) → t ≡ true → (if t then a else b) ≡ a
if_true a b e = rw e refl

pub if_false : {A : Type 0} {t : Bool} (a b : A) → t ≡ false → (if t then a else b) ≡ b
if_false a b e = rw e refl

pub if_ind : {A : Type 0} (P : A → Type 0) (t : Bool) {a b : A} → (t ≡ true → P a) → (t ≡ false → P b) → P (if t then a else b)
if_ind P true p q = p refl
if_ind P false p q = q refl

-- a case split on a test, kept with its equation
pub by_test : {A : Type 0} (t : Bool) → (t ≡ true → A) → (t ≡ false → A) → A
by_test true p q = p refl
by_test false p q = q refl

-- a case split on two numbers
pub by_eq : {A : Type 0} (a b : ℕ) → (a ≡ b → A) → ((a ≡ b → ⊥) → A) → A
by_eq a b p q = by_test (eqb a b) (λ e. p (eqb-true a b e)) (λ e. q (eqb-false a b e))

-- what a test of a field for a difference says
pub differ : (a b : ℕ) → not (eqb a b) ≡ true → (a ≡ b → ⊥)
differ a b e = by_test (eqb a b) (λ t. absurd (true≢false (sym e ∙ rw t refl))) (λ t. eqb-false a b t)

pub agree : (a b : ℕ) → not (eqb a b) ≡ false → a ≡ b
agree a b e = by_test (eqb a b) (λ t. eqb-true a b t) (λ t. absurd (true≢false (sym (rw t refl) ∙ e)))

-- what a function answered, by its contract, and what a test then said of the answer
pub so : {A : Type 0} {r s t : A} → r ≡ s → r ≡ t → s ≡ t
so p q = sym p ∙ q

-- at the exit of a `?`: the error met is the one that is answered
pub handed_on : {A E : Type 0} {e : E} {r : Result A E} → IsErr r × IsErrAnd r (λ y. y ≡ e) → r ≡ Err e
handed_on {r = Ok x} h = absurd h.1
handed_on {r = Err y} h = rw h.1 refl
