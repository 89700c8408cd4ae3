-- Which step a unit takes, a law for each way through the match.
--     begins, begins_not, turns, marking_as, sweeping_as, nowhere     the step, by phase, grey head and colour word
--     high_marks               a colour word above every block number while marking
--     other_sweeps             a colour word that is none of the three while sweeping
--     step_cases               what holds in each case holds of the step
-- Assumes nothing.
use Prim.Native.Nat.{ℕ, ◌+◌, ◌≤◌}
use mathlib.Core.Path.{◌≡◌, refl, ap}
use mathlib.Core.Logic.{◌≢◌}
use mathlib.Core.Bool.{Bool, true, false}
use native.Mathlib.Omega.{arith}
use lib.Dec.{leb}
use borrow.Author.Tests.{eq-eqb, ne_eqb, leb-true, leb-false}
use Rattle.machine.specs.declared.Colour.{Colour}
use Rattle.machine.specs.declared.Colour.TheVariants.{White, Grey, Black, Free, Outside}
use Rattle.machine.specs.declared.Step.{Step}
use Rattle.machine.specs.declared.Step.TheVariants.{Begin, Mark, Turn, Reclaim, Whiten, Pass, Damage}
use Rattle.machine.specs.Registers.{idle, marking, sweeping}
use Rattle.machine.specs.Colouring.{white, black, freed, colour}
use Rattle.machine.specs.OneUnit.{mark_step, sweep_step, step}
use Rattle.machine.proofs.Tests.{by_eq}
use Rattle.machine.proofs.Colours.{is_black, is_free_lem, is_grey_lem, is_outside}

module _ (m p g word : ℕ) where
  pub begins : p ≡ idle → word ≡ white → Begin ≡ step m p g word
  unfolding step
  begins i w = simp (eq-eqb p idle i, eq-eqb word white w)

  pub begins_not : p ≡ idle → word ≢ white → Damage ≡ step m p g word
  unfolding step
  begins_not i w = simp (eq-eqb p idle i, ne_eqb word white w)

  pub turns : p ≡ marking → g ≡ 1 → Turn ≡ step m p g word
  unfolding step
  turns k e = rw (k, e) refl

  pub marking_as : {c : Colour} → p ≡ marking → g ≢ 1 → c ≡ colour m word → mark_step c ≡ step m p g word
  unfolding step
  marking_as k n e = rw (k, e) (simp (ne_eqb g 1 n))

  pub sweeping_as : {c : Colour} → p ≡ sweeping → c ≡ colour m word → sweep_step c ≡ step m p g word
  unfolding step
  sweeping_as s e = rw (s, e) refl

  pub nowhere : p ≢ idle → p ≢ marking → p ≢ sweeping → Damage ≡ step m p g word
  unfolding step
  nowhere i k s = simp (ne_eqb p idle i, ne_eqb p marking k, ne_eqb p sweeping s)

pub high_marks : (m word : ℕ) → m + 2 ≤ word → Damage ≡ mark_step (colour m word)
high_marks m word l =
    by_eq word black (λ e. ap mark_step (is_black m word e)) (λ n.
    by_eq word freed (λ e. ap mark_step (is_free_lem m word e)) (λ f.
    ap mark_step (is_outside m word (omega arith) n f (omega arith))))

pub other_sweeps : (m word : ℕ) → word ≢ white → word ≢ black → word ≢ freed → Damage ≡ sweep_step (colour m word)
other_sweeps m word w k f = go (leb word (m + 1)) refl
  where
    go : (t : Bool) → leb word (m + 1) ≡ t → Damage ≡ sweep_step (colour m word)
    go true e = ap sweep_step (is_grey_lem m word w k f (leb-true word (m + 1) e))
    go false e = ap sweep_step (is_outside m word w k f (leb-false word (m + 1) e))

-- from a clash of constructors, anything
pub never : {A : Type 0} → ◌≡◌ {A = ℕ} 0 1 → A
never e = absurd (omega arith)

-- what holds of the step in each case of phase, grey head and colour holds of the step
pub step_cases : (P : Step → Type 0) (m p g word : ℕ)
    → (p ≡ idle → word ≡ white → P Begin)
    → (p ≡ marking → g ≡ 1 → P Turn)
    → (p ≡ marking → g ≢ 1 → colour m word ≡ Grey → P Mark)
    → (p ≡ sweeping → colour m word ≡ White → P Reclaim)
    → (p ≡ sweeping → colour m word ≡ Black → P Whiten)
    → (p ≡ sweeping → colour m word ≡ Free → P Pass)
    → P Damage
    → P (step m p g word)
step_cases P m p g word begin turn mark reclaim whiten pass damaged =
    by_eq p idle
    (λ i. by_eq word white (λ w. rw (← begins m p g word i w) (begin i w)) (λ w. rw (← begins_not m p g word i w) damaged))
    (λ i. by_eq p marking
    (λ k. by_eq g 1
    (λ o. rw (← turns m p g word k o) (turn k o))
    (λ o. rw (← marking_as m p g word k o refl) (marked k o (colour m word) refl)))
    (λ k. by_eq p sweeping
    (λ s. rw (← sweeping_as m p g word s refl) (swept s (colour m word) refl))
    (λ s. rw (← nowhere m p g word i k s) damaged)))
  where
    marked : p ≡ marking → g ≢ 1 → (c : Colour) → colour m word ≡ c → P (mark_step c)
    marked k o White e = damaged
    marked k o Grey e = mark k o e
    marked k o Black e = damaged
    marked k o Free e = damaged
    marked k o Outside e = damaged

    swept : p ≡ sweeping → (c : Colour) → colour m word ≡ c → P (sweep_step c)
    swept s White e = reclaim s e
    swept s Grey e = damaged
    swept s Black e = whiten s e
    swept s Free e = pass s e
    swept s Outside e = damaged
