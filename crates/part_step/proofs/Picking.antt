-- What the step that was picked tells of the phase, and the step that is left where a match found none of those that a phase can take.
--     picks_mark               marking a block: the phase is marking, and a block is grey
--     picks_sweep              freeing, whitening or passing a block: the phase is sweeping
--     marks_or, sweeps_or      in the phase, a step that is none of these is damage
-- A `match` tells of its other arms that the variant's number is one of theirs.
-- Assumes nothing.
use Prim.Native.Nat.{ℕ}
use mathlib.Core.Path.{◌≡◌, refl, sym, ◌∙◌}
use mathlib.Core.Logic.{◌≢◌, ⊎_elim}
use mathlib.Core.Bool.{Bool, true, false, ◌||◌}
use mathlib.Core.List.{List, [], ◌∷◌}
use native.Mathlib.Omega.{arith}
use lib.Dec.{eqb}
use borrow.Author.Tests.{eq-eqb}
use types.Run.{OneOf}
use denote.Enum.Declared.{tag_of}
use Rattle.machine.specs.contracts.Step.{the_type}
use Rattle.machine.specs.declared.Step.{Step}
use Rattle.machine.specs.declared.Step.TheVariants.{Mark, Damage}
use Rattle.machine.specs.Registers.{marking, sweeping}
use Rattle.machine.specs.OneUnit.{step}
use Rattle.machine.proofs.Tests.{clash}
use Rattle.machine.proofs.Steps.{never, step_cases}

-- the step is one of the others, by their numbers
abbrev Other : List ℕ → Step → Type 0
Other ks s = OneOf ks (tag_of the_type s)

-- whether x is among ks
abbrev among : List ℕ → ℕ → Bool
among [] x = false
among (k ∷ ks) x = eqb x k || among ks x

among_later : (t u : Bool) → u ≡ true → (t || u) ≡ true
among_later true u e = refl
among_later false u e = e

one_among : (ks : List ℕ) (x : ℕ) → OneOf ks x → among ks x ≡ true
one_among [] x o = absurd o
one_among (k ∷ []) x o = simp (eq-eqb x k o)
one_among (k ∷ (j ∷ ks)) x o = ⊎_elim (λ e. simp (eq-eqb x k e)) (λ p. among_later (eqb x k) (among (j ∷ ks) x) (one_among (j ∷ ks) x p)) o

-- the numbers of the steps that a phase can't take, and of those that a sweep takes
abbrev pub not_mark : List ℕ
not_mark = 0 ∷ 2 ∷ 3 ∷ 4 ∷ 5 ∷ 6 ∷ []

abbrev pub not_sweep : List ℕ
not_sweep = 0 ∷ 1 ∷ 2 ∷ 6 ∷ []

abbrev pub sweeps : List ℕ
sweeps = 3 ∷ 4 ∷ 5 ∷ []

module _ (m p g word : ℕ) {s : Step} (e : s ≡ step m p g word) where
  pub picks_mark : s ≡ Mark → (p ≡ marking) × (g ≢ 1)
  picks_mark q =
      step_cases (λ t. t ≡ Mark → (p ≡ marking) × (g ≢ 1)) m p g word
      (λ i w z. never (cc))
      (λ k x z. never (cc))
      (λ k x c z. (k, x))
      (λ k c z. never (cc))
      (λ k c z. never (cc))
      (λ k c z. never (cc))
      (λ z. never (cc))
      (sym e ∙ q)

  pub picks_sweep : Other sweeps s → p ≡ sweeping
  picks_sweep =
      rw e
      (step_cases (λ t. Other sweeps t → p ≡ sweeping) m p g word
      (λ i w o. clash (one_among sweeps 0 o) refl)
      (λ k x o. clash (one_among sweeps 2 o) refl)
      (λ k x c o. clash (one_among sweeps 1 o) refl)
      (λ k c o. k)
      (λ k c o. k)
      (λ k c o. k)
      (λ o. clash (one_among sweeps 6 o) refl))

  pub marks_or : p ≡ marking → g ≢ 1 → Other not_mark s → s ≡ Damage
  marks_or k n =
      rw e
      (step_cases (λ t. Other not_mark t → t ≡ Damage) m p g word
      (λ i w o. absurd (omega arith))
      (λ z x o. absurd (n x))
      (λ z x c o. clash (one_among not_mark 1 o) refl)
      (λ z c o. absurd (omega arith))
      (λ z c o. absurd (omega arith))
      (λ z c o. absurd (omega arith))
      (λ o. refl))

  pub sweeps_or : p ≡ sweeping → Other not_sweep s → s ≡ Damage
  sweeps_or k =
      rw e
      (step_cases (λ t. Other not_sweep t → t ≡ Damage) m p g word
      (λ i w o. absurd (omega arith))
      (λ z x o. absurd (omega arith))
      (λ z x c o. absurd (omega arith))
      (λ z c o. clash (one_among not_sweep 3 o) refl)
      (λ z c o. clash (one_among not_sweep 4 o) refl)
      (λ z c o. clash (one_among not_sweep 5 o) refl)
      (λ o. refl))
