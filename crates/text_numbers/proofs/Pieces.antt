-- Laws of a text parted at its spaces, by place.
--     later_space, later_end     the pieces after a space, after the end
--     later_past           a piece without spaces is passed
--     piece_stops          past a piece stands a space, or the end
-- Assumes nothing.
use Prim.Native.Nat.{ℕ, ◌+◌, ◌≤◌, ◌<◌}
use mathlib.Core.Path.{◌≡◌, refl, sym, ◌∙◌, ap}
use mathlib.Core.Bool.{Bool, true, false}
use mathlib.Core.List.{List, [], ◌∷◌}
use native.Mathlib.Omega.{arith}
use native.Mathlib.Numerals.{add-one}
use lib.Dec.{eqb}
use lib.ListN.{length, get_or, drop, length-drop, drop_of_length-le}
use lib.Seq.{drop-cons, drop-drop, get_or-drop}
use borrow.Author.Tests.{eq-eqb, eqb-true}
use Rattle.text_numbers.specs.Numbers.{space, piece, later}

past : (xs : List ℕ) → later xs ≡ later (drop (length (piece xs)) xs)
unfolding piece later
past [] = refl
past (x ∷ xs) = go (past xs) (eqb x space) refl
  where
    go : later xs ≡ later (drop (length (piece xs)) xs) → (t : Bool) → eqb x space ≡ t → later (x ∷ xs) ≡ later (drop (length (piece (x ∷ xs))) (x ∷ xs))
    go i true e = simp e
    go i false e = simp e i

stops : (xs : List ℕ) → length (piece xs) < length xs → get_or xs (length (piece xs)) 0 ≡ space
unfolding piece
stops [] = λ l. absurd (omega arith)
stops (x ∷ xs) = go (stops xs) (eqb x space) refl
  where
    go : (length (piece xs) < length xs → get_or xs (length (piece xs)) 0 ≡ space) → (t : Bool) → eqb x space ≡ t → length (piece (x ∷ xs)) < length (x ∷ xs) → get_or (x ∷ xs) (length (piece (x ∷ xs))) 0 ≡ space
    go i true e l = simp e (eqb-true x space e)
    go i false e l = simp e (i (let h = simp e at l in omega arith))

module _ (text : List ℕ) (at : ℕ) where
  pub later_space : at < length text → get_or text at 0 ≡ space → later (drop at text) ≡ piece (drop (at + 1) text) ∷ later (drop (at + 1) text)
  unfolding later
  later_space l e = rw (add-one, drop-cons text at 0 l) (simp (eq-eqb (get_or text at 0) 32 e))

  pub later_end : length text ≤ at → later (drop at text) ≡ []
  unfolding later
  later_end l = rw (drop_of_length-le text l) refl

  pub later_past : later (drop at text) ≡ later (drop (at + length (piece (drop at text))) text)
  later_past = past (drop at text) ∙ ap later (drop-drop (length (piece (drop at text))) at text)

  pub piece_stops :
      at + length (piece (drop at text)) < length text → get_or text (at + length (piece (drop at text))) 0 ≡ space
  piece_stops l =
      sym (get_or-drop at text (length (piece (drop at text))) 0)
      ∙ stops (drop at text) (simp length-drop (omega arith))
