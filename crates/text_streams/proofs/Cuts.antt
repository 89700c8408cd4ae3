-- Laws of cutting a line out of what was read.
--     passes               the bytes before the first byte 10 are the line's
--     cuts                 the line goes on with as many of them as there is room for
-- Assumes nothing.
use Prim.Native.Nat.{ℕ, ◌+◌, ◌-◌, ◌≤◌, min}
use mathlib.Core.Path.{◌≡◌, refl, sym, ◌∙◌, ap}
use mathlib.Core.Bool.{Bool, true, false, cond}
use mathlib.Core.List.{List, [], ◌∷◌, ◌++◌}
use native.Mathlib.Omega.{arith}
use lib.Dec.{eqb, ltb}
use lib.ListN.{length, take, drop, length-take, length-drop}
use lib.Seq.{take_all}
use borrow.Author.Tests.{ltb-true, ltb-false, lt-ltb, le-ltb}
use mir.Val.{bool_byte}
use Rattle.std.proofs.Math.Seq.{take-append-add}
use Rattle.std.proofs.lemmas.List.{take-take}
use Rattle.std.specs.Prelude.{Option, Some, None, is_some, if◌then◌else◌}
use Rattle.std.specs.List.{position_or_len}
use Rattle.std.specs.Option.{unwrap_or}
use Rattle.text_streams.specs.Streams.{line_of, CutOut}

place_is : (xs : List ℕ) → position_or_len (λ x. eqb x 10) xs ≡ length (line_of xs)
unfolding line_of
place_is [] = refl
place_is (x ∷ xs) = go (place_is xs) (eqb x 10) refl
  where
    go : position_or_len (λ y. eqb y 10) xs ≡ length (line_of xs) → (t : Bool) → eqb x 10 ≡ t → position_or_len (λ y. eqb y 10) (x ∷ xs) ≡ length (line_of (x ∷ xs))
    go i true e = simp e
    go i false e = simp e (omega arith)

line_taken : (xs : List ℕ) → take (length (line_of xs)) xs ≡ line_of xs
unfolding line_of
line_taken [] = refl
line_taken (x ∷ xs) = go (line_taken xs) (eqb x 10) refl
  where
    go : take (length (line_of xs)) xs ≡ line_of xs → (t : Bool) → eqb x 10 ≡ t → take (length (line_of (x ∷ xs))) (x ∷ xs) ≡ line_of (x ∷ xs)
    go i true e = simp e
    go i false e = simp e (ap (λ (ys : List ℕ). x ∷ ys) i)

line_short : (xs : List ℕ) → length (line_of xs) ≤ length xs
line_short xs = let h = ap length (line_taken xs) in let t = length-take (length (line_of xs)) xs in omega arith

-- what looking for byte 10 found
record Passes (xs : List ℕ) (o : Option ℕ) (n : ℕ) : Type 0 where
  passed : n ≡ length (line_of xs)
  ended : is_some o ≡ ltb (length (line_of xs)) (length xs)

passes :
    (xs : List ℕ) (o : Option ℕ) (n : ℕ) → o ≡ cond (ltb (position_or_len (λ x. eqb x 10) xs) (length xs)) (Some (position_or_len (λ x. eqb x 10) xs)) None
    → n ≡ unwrap_or o (length xs) → Passes xs o n
passes xs o n e f = go (ltb (length (line_of xs)) (length xs)) refl
  where
    g : o ≡ cond (ltb (length (line_of xs)) (length xs)) (Some (length (line_of xs))) None
    g = rw (place_is xs) at e

    go : (t : Bool) → ltb (length (line_of xs)) (length xs) ≡ t → Passes xs o n
    go true q = let h = simp q at g in record { passed = f ∙ rw h refl; ended = rw (h, q) refl }
    go false q =
        let h = simp q at g in
        let l = ltb-false (length (line_of xs)) (length xs) q in
        let s = line_short xs in
        record { passed = f ∙ rw h (omega arith); ended = rw (h, q) refl }

-- both ends moved alike
below : (a b c d : ℕ) → d ≡ c + b → ltb a b ≡ ltb (c + a) d
below a b c d e = go (ltb a b) refl
  where
    go : (t : Bool) → ltb a b ≡ t → ltb a b ≡ ltb (c + a) d
    go true q = let l = ltb-true a b q in q ∙ sym (lt-ltb (c + a) d (omega arith))
    go false q = let l = ltb-false a b q in q ∙ sym (le-ltb (c + a) d (omega arith))

inside : (t : Bool) (one a b c : ℕ) → t ≡ ltb a b → one ≡ bool_byte t → c ≡ a → a ≤ b → c + one ≤ b
inside true one a b c e w f l = let h = ltb-true a b (sym e) in omega arith
inside false one a b c e w f l = omega arith

-- as much of a line as there is room for
kept_of : (rest : List ℕ) (room most : ℕ) → room ≡ min (length (line_of rest)) most → take most (line_of rest) ≡ take room rest
kept_of rest room most e = go (ltb most (length (line_of rest))) refl
  where
    go : (t : Bool) → ltb most (length (line_of rest)) ≡ t → take most (line_of rest) ≡ take room rest
    go true q =
        let l = ltb-true most (length (line_of rest)) q in
        let r : room ≡ most = omega arith in
        ap (take most) (sym (line_taken rest)) ∙ take-take most (length (line_of rest)) rest (omega arith) ∙ ap (λ (k : ℕ). take k rest) (sym r)
    go false q =
        let l = ltb-false most (length (line_of rest)) q in
        let r : room ≡ length (line_of rest) = omega arith in
        take_all most (line_of rest) l ∙ sym (line_taken rest) ∙ ap (λ (k : ℕ). take k rest) (sym r)

one_of : (t : Bool) → bool_byte t ≡ (if t then 1 else 0)
one_of true = refl
one_of false = refl

pub cuts :
    (input line after rest : List ℕ) (from kept : ℕ) (o : Option ℕ) (passed one room : ℕ) (ended : Bool) → from ≤ length input → kept ≤ length line → rest ≡ drop from input
    → o ≡ cond (ltb (position_or_len (λ x. eqb x 10) rest) (length rest)) (Some (position_or_len (λ x. eqb x 10) rest)) None
    → passed ≡ unwrap_or o (length rest) → ended ≡ is_some o → one ≡ bool_byte ended → room ≡ min passed (length line - kept)
    → length after ≡ length line → take (kept + room) after ≡ take kept line ++ take room rest
    → CutOut input from line kept (record { at = from + passed + one; length = kept + room; ended = ended }) after
cuts input line after rest from kept o passed one room ended h k z e p d w r s t =
    let f = passes rest o passed e p in
    let n = f.passed in
    let x = ap length z ∙ length-drop from input in
    let y = line_short rest in
    let g = d ∙ f.ended in
    let lines : line_of rest ≡ line_of (drop from input) = ap line_of z in
    let m : ltb (length (line_of rest)) (length rest) ≡ ltb (from + length (line_of rest)) (length input) = below (length (line_of rest)) (length rest) from (length input) (omega arith) in
    record {
      ended = rw (← lines) (g ∙ m);
      place = rw (← lines, f.passed, w, one_of ended) refl;
      within = inside ended one (from + length (line_of rest)) (length input) (from + passed) (g ∙ m) w (omega arith) (omega arith);
      fits = omega arith;
      bytes =
          t
          ∙ ap (λ (xs : List ℕ). take kept line ++ xs) (sym (kept_of rest room (length line - kept) (r ∙ omega arith)))
          ∙ sym (take-append-add (take kept line) (line_of rest) (length line - kept))
          ∙ ap (λ (j : ℕ). take j (take kept line ++ line_of rest)) (let l = length-take kept line in omega arith)
          ∙ ap (λ (xs : List ℕ). take (length line) (take kept line ++ xs)) lines;
    }
