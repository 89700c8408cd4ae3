-- Laws of finding a piece and of reading it byte by byte: what is read so far, and what is still to come.
--     piece_found          the bytes before the first space
--     Reading              what holds from digit to digit: the piece's digits and its value are those still to come, after n
--     reads_on, reads_off, reads_all     a digit more, another byte, the end
--     empty_piece, long_piece, no_digits     pieces that are no number
--     no_text, rest_is, number_is     a place past the text, what stands from a place on, the number there
-- Assumes nothing.
use Prim.Native.Nat.{ℕ, suc, ◌+◌, ◌-◌, ◌*◌, ◌^◌, ◌≤◌, ◌<◌}
use mathlib.Core.Path.{◌≡◌, refl, sym, ◌∙◌, ap}
use mathlib.Core.Bool.{Bool, true, false, cond}
use mathlib.Core.List.{List, [], ◌∷◌}
use native.Mathlib.Omega.{arith}
use native.Mathlib.Numerals.{add-one}
use lib.Dec.{eqb, leb, ltb}
use lib.ListN.{length, get_or, take, drop, length-drop, drop_of_length-le}
use lib.Seq.{drop-cons, take_all}
use borrow.Author.Tests.{le-leb, lt-leb, leb-true, leb-false, ltb-false}
use Rattle.std.proofs.Math.Nat.{pow-succ'}
use Rattle.std.proofs.lemmas.Bool.{false≢true}
use mathlib.Core.Logic.{◌≢◌}
use Rattle.std.specs.Prelude.{Option, Some, None, if◌then◌else◌}
use Rattle.std.specs.List.{position_or_len, slice_range}
use Rattle.std.specs.Option.{unwrap_or}
use Rattle.text_numbers.specs.Numbers.{piece, is_digit, all_digits, value, is_number, number_at}

before_space : (xs : List ℕ) → take (position_or_len (λ x. eqb x 32) xs) xs ≡ piece xs
unfolding piece
before_space [] = refl
before_space (x ∷ xs) = go (before_space xs) (eqb x 32) refl
  where
    go : take (position_or_len (λ y. eqb y 32) xs) xs ≡ piece xs → (t : Bool) → eqb x 32 ≡ t → take (position_or_len (λ y. eqb y 32) (x ∷ xs)) (x ∷ xs) ≡ piece (x ∷ xs)
    go i true e = simp e
    go i false e =
        let one : 1 + position_or_len (λ y. eqb y 32) xs ≡ suc (position_or_len (λ y. eqb y 32) xs) = omega arith in
        simp e (ap (λ (k : ℕ). take k (x ∷ xs)) one ∙ ap (λ (ys : List ℕ). x ∷ ys) i)

pub piece_found :
    (xs : List ℕ) (r : Option ℕ) (n : ℕ) → r ≡ cond (ltb (position_or_len (λ x. eqb x 32) xs) (length xs)) (Some (position_or_len (λ x. eqb x 32) xs)) None → n ≡ unwrap_or r (length xs)
    → take n xs ≡ piece xs
piece_found xs r n e f = go (ltb place (length xs)) refl
  where
    place : ℕ
    place = position_or_len (λ x. eqb x 32) xs

    go : (t : Bool) → ltb (position_or_len (λ x. eqb x 32) xs) (length xs) ≡ t → take n xs ≡ piece xs
    go true q = let g = simp q at e in rw (f, g) (before_space xs)
    go false q =
        let g = simp q at e in
        rw (f, g) (take_all (length xs) xs (omega arith) ∙ sym (take_all (position_or_len (λ x. eqb x 32) xs) xs (ltb-false _ _ q)) ∙ before_space xs)

never_none : {n : ℕ} → Some n ≡ None → ⊥
never_none e = cc

eqb_digit : {x : ℕ} → is_digit x ≡ true → (48 ≤ x) × (x ≤ 57)
unfolding is_digit
eqb_digit {x} e = go (leb 48 x) refl (leb x 57) refl
  where
    go : (a : Bool) → leb 48 x ≡ a → (b : Bool) → leb x 57 ≡ b → (48 ≤ x) × (x ≤ 57)
    go true p true q = (leb-true 48 x p, leb-true x 57 q)
    go true p false q = let z = simp (p, q) at e in absurd (false≢true z)
    go false p b q = let z = simp p at e in absurd (false≢true z)

pub record Reading (whole : List ℕ) (i n : ℕ) : Type 0 where
  pub digits : all_digits whole ≡ all_digits (drop i whole)
  pub worth : value 0 whole ≡ value n (drop i whole)
  pub bound : n < 10 ^ i

module _ (xs : List ℕ) (i n : ℕ) (r : Reading xs i n) where
  pub reads_on : {d : ℕ} → i < length xs → is_digit (get_or xs i 0) ≡ true → d ≡ get_or xs i 0 - 48 → Reading xs (i + 1) (10 * n + d)
  unfolding all_digits value is_digit
  reads_on {d} l t e =
      record {
        digits = r.digits ∙ ap all_digits (drop-cons xs i 0 l) ∙ simp t (rw add-one refl);
        worth = r.worth ∙ ap (value n) (drop-cons xs i 0 l) ∙ rw (e, add-one) refl;
        bound =
            let p : 10 ^ suc i ≡ 10 * 10 ^ i = pow-succ' 10 i in
            rw add-one (omega (arith, p, r.bound, eqb_digit {x = get_or xs i 0} t, e));
      }

  pub reads_off : i < length xs → is_digit (get_or xs i 0) ≡ false → all_digits xs ≡ false
  unfolding all_digits
  reads_off l t = r.digits ∙ ap all_digits (drop-cons xs i 0 l) ∙ simp t

  pub reads_all : (o : Option ℕ) → length xs ≤ i → length xs ≢ 0 → length xs ≤ 10 → (n < 2 ^ 32 → o ≡ Some n) → (2 ^ 32 ≤ n → o ≡ None) → o ≡ (if is_number xs then Some (value 0 xs) else None)
  unfolding all_digits value is_number
  reads_all o l a b f g = go (leb n 4294967295) refl
    where
      digits : all_digits xs ≡ true
      digits = r.digits ∙ ap all_digits (drop_of_length-le xs l)

      worth : value 0 xs ≡ n
      worth = r.worth ∙ ap (value n) (drop_of_length-le xs l)

      go : (t : Bool) → leb n 4294967295 ≡ t → o ≡ (if is_number xs then Some (value 0 xs) else None)
      go true q = f (let h = leb-true n 4294967295 q in omega arith) ∙ simp (digits, worth, le-leb 1 (length xs) (omega arith), le-leb (length xs) 10 b, q)
      go false q = g (let h = leb-false n 4294967295 q in omega arith) ∙ simp (digits, worth, le-leb 1 (length xs) (omega arith), le-leb (length xs) 10 b, q)

pub empty_piece : (xs : List ℕ) → length xs ≡ 0 → None ≡ (if is_number xs then Some (value 0 xs) else None)
unfolding is_number all_digits
empty_piece [] e = refl
empty_piece (x ∷ xs) e = absurd (omega arith)

pub long_piece : (xs : List ℕ) → 10 < length xs → None ≡ (if is_number xs then Some (value 0 xs) else None)
unfolding is_number
long_piece xs l = go (all_digits xs) refl
  where
    go : (t : Bool) → all_digits xs ≡ t → None ≡ (if is_number xs then Some (value 0 xs) else None)
    go true q = simp (q, le-leb 1 (length xs) (omega arith), lt-leb (length xs) 10 l)
    go false q = simp q

pub no_digits : (xs : List ℕ) → all_digits xs ≡ false → None ≡ (if is_number xs then Some (value 0 xs) else None)
unfolding is_number
no_digits xs e = simp e

-- a number at a place
module _ (text : List ℕ) (at : ℕ) where
  pub no_text : length text < at → None ≡ number_at text at
  unfolding number_at piece is_number all_digits
  no_text l = let m : length text ≤ at = omega arith in rw (drop_of_length-le text m) refl

  pub rest_is : {r : List ℕ} → r ≡ slice_range text at (length text) → r ≡ drop at text
  rest_is e = e ∙ take_all (length text - at) (drop at text) (let d = length-drop at text in omega arith)

  pub number_is :
      (xs : List ℕ) (o : Option ℕ) → xs ≡ piece (drop at text) → o ≡ (if is_number xs then Some (value 0 xs) else None)
      → (o ≡ None → None ≡ number_at text at) × ((v : ℕ) → o ≡ Some v → Some (record { value = v; end = record { at = at + length xs } }) ≡ number_at text at)
  unfolding number_at
  number_is xs o e f = go (is_number xs) refl
    where
      go : (t : Bool) → is_number xs ≡ t → (o ≡ None → None ≡ number_at text at) × ((v : ℕ) → o ≡ Some v → Some (record { value = v; end = record { at = at + length xs } }) ≡ number_at text at)
      go true q = let g = simp q at f in (λ h. absurd (never_none (sym g ∙ h)), λ v h. rw (← e) (simp q (ap (λ (w : ℕ). Some (record { value = w; end = record { at = at + length xs } })) (cc))))
      go false q = let g = simp q at f in (λ _. rw (← e) (simp q), λ v h. absurd (never_none (sym h ∙ g)))
