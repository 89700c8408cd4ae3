-- Laws of what a letter and numbers ask for: a law for each count of numbers.
--     meant_0 .. meant_3, meant_more     no number, one, two, three, more
--     by_count             all of them
-- Assumes nothing.
use Prim.Native.Nat.{ℕ, ◌<◌}
use mathlib.Core.Path.{◌≡◌, refl}
use mathlib.Core.List.{List, [], ◌∷◌}
use native.Mathlib.Omega.{arith}
use lib.Dec.{eqb}
use lib.ListN.{length, get_or}
use Rattle.std.specs.Prelude.{Some, None, if◌then◌else◌}
use Rattle.text_commands.specs.declared.Command.TheVariants.{Format, Read, StoreNumber, StoreReference, SetRoot, Allocate, Work, Audit}
use Rattle.text_commands.specs.Command.{meant}

module _ (l : ℕ) where
  pub meant_0 : (ns : List ℕ) → length ns ≡ 0 → meant l ns ≡ (if eqb l 67 then Some Audit else None)
  unfolding meant
  meant_0 [] e = refl
  meant_0 (x ∷ ns) e = absurd (omega arith)

  pub meant_1 : (ns : List ℕ) → length ns ≡ 1 → meant l ns ≡ (if eqb l 84 then Some (SetRoot (get_or ns 0 0)) else if eqb l 87 then Some (Work (get_or ns 0 0)) else None)
  unfolding meant
  meant_1 [] e = absurd (omega arith)
  meant_1 (x ∷ []) e = refl
  meant_1 (x ∷ y ∷ ns) e = absurd (omega arith)

  pub meant_2 :
      (ns : List ℕ) → length ns ≡ 2
      → meant l ns ≡ (if eqb l 70 then Some (Format (get_or ns 0 0) (get_or ns 1 0)) else if eqb l 82 then Some (Read (get_or ns 0 0) (get_or ns 1 0)) else if eqb l 65 then Some (Allocate (get_or ns 0 0) (get_or ns 1 0)) else None)
  unfolding meant
  meant_2 [] e = absurd (omega arith)
  meant_2 (x ∷ []) e = absurd (omega arith)
  meant_2 (x ∷ y ∷ []) e = refl
  meant_2 (x ∷ y ∷ z ∷ ns) e = absurd (omega arith)

  pub meant_3 :
      (ns : List ℕ) → length ns ≡ 3
      → meant l ns ≡ (if eqb l 78 then Some (StoreNumber (get_or ns 0 0) (get_or ns 1 0) (get_or ns 2 0)) else if eqb l 83 then Some (StoreReference (get_or ns 0 0) (get_or ns 1 0) (get_or ns 2 0)) else None)
  unfolding meant
  meant_3 [] e = absurd (omega arith)
  meant_3 (x ∷ []) e = absurd (omega arith)
  meant_3 (x ∷ y ∷ []) e = absurd (omega arith)
  meant_3 (x ∷ y ∷ z ∷ []) e = refl
  meant_3 (x ∷ y ∷ z ∷ t ∷ ns) e = absurd (omega arith)

  pub meant_more : (ns : List ℕ) → 3 < length ns → meant l ns ≡ None
  unfolding meant
  meant_more [] e = absurd (omega arith)
  meant_more (x ∷ []) e = absurd (omega arith)
  meant_more (x ∷ y ∷ []) e = absurd (omega arith)
  meant_more (x ∷ y ∷ z ∷ []) e = absurd (omega arith)
  meant_more (x ∷ y ∷ z ∷ t ∷ ns) e = refl

pub ruleset by_count = (meant_0, meant_1, meant_2, meant_3, meant_more)
