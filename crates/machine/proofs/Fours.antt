-- Laws of numbers as four bytes, and of sections.
--     number_four, four_number         a number's four bytes say it, and the four bytes of what they say are those
--     front                            bytes begin with the four bytes of the number that they begin with
--     from_fours, fours_from           the same of numbers one after another
--     four_length, fours_length, from_length, numbers_length, singles_length      their lengths
--     fours_append                     the bytes of two lists of numbers
--     from_at                          the number at a place
--     number_below, from_below, drop_below, take_below     what is read from bytes is in range
--     numbers_count, numbers_in_lem, past_numbers_lem      a section of numbers at the front: its count, what it holds, what is behind it
--     singles_count, singles_in_lem, past_singles_lem      a section of single bytes
--     numbers_back, singles_back       bytes that begin with a section are that section and what is behind it
-- Assumes nothing.
use Prim.Native.Nat.{ℕ, zero, suc, ◌+◌, ◌*◌, ◌/◌, ◌%◌, ◌^◌, ◌≤◌, ◌<◌}
use mathlib.Core.Path.{◌≡◌, refl, ap}
use mathlib.Core.List.{List, [], ◌∷◌, ◌++◌, append_assoc}
use native.Mathlib.Nat.{div-div-eq-div-mul}
use native.Mathlib.Omega.{arith}
use lib.ListN.{length, get_or, take, drop, length-append, length-drop, take-append-drop}
use lib.Seq.{length-take-le, drop-drop, drop_at, take_at, get_or-drop}
use Rattle.machine.specs.Image.{four, fours_of, numbers, singles, number, numbers_from, numbers_in, singles_in, past_numbers, past_singles, Below}

-- a number by its digits to the base 256, the quotients named
digits : (n a b c r s t u : ℕ) → n ≡ 256 * a + r → a ≡ 256 * b + s → b ≡ 256 * c + t → c ≡ u → r + 256 * s + 65536 * t + 16777216 * u ≡ n
digits n a b c r s t u e f g h = omega arith

parted : (n : ℕ) → n ≡ 256 * (n / 256) + n % 256
parted n = omega arith

pub number_four : (n : ℕ) (rest : List ℕ) → n < 2 ^ 32 → number (four n ++ rest) ≡ n
unfolding number four
number_four n rest l =
    let e : n / 256 / 256 ≡ n / 65536 = div-div-eq-div-mul n 256 256 in
    let f : n / 65536 / 256 ≡ n / 16777216 = div-div-eq-div-mul n 65536 256 in
    digits n (n / 256) (n / 65536) (n / 16777216) _ _ _ _
    (parted n) (rw e at (parted (n / 256))) (rw f at (parted (n / 65536))) (omega arith)

pub four_number : (a b c d : ℕ) (rest : List ℕ) → a < 256 → b < 256 → c < 256 → d < 256
    → four (number (a ∷ b ∷ c ∷ d ∷ rest)) ≡ a ∷ b ∷ c ∷ d ∷ []
unfolding number four
four_number a b c d rest la lb lc ld =
    let n = a + 256 * b + 65536 * c + 16777216 * d in
    let p : n / 256 ≡ b + 256 * c + 65536 * d = omega arith in
    let q : n / 65536 ≡ c + 256 * d = omega arith in
    let e : n % 256 ≡ a = omega arith in
    let f : (b + 256 * c + 65536 * d) % 256 ≡ b = omega arith in
    let g : (c + 256 * d) % 256 ≡ c = omega arith in
    let t : n / 16777216 ≡ d = omega arith in
    let h : d % 256 ≡ d = omega arith in
    rw (e, p, f, q, g, t, h) refl

-- the first four bytes, as a number and back
pub front : (i : List ℕ) → Below 256 i → 4 ≤ length i → four (number i) ++ drop 4 i ≡ i
front [] b l = absurd (omega arith)
front (a ∷ []) b l = absurd (omega arith)
front (a ∷ x ∷ []) b l = absurd (omega arith)
front (a ∷ x ∷ y ∷ []) b l = absurd (omega arith)
front (a ∷ x ∷ y ∷ z ∷ rest) b l = rw (four_number a x y z rest (b 0) (b 1) (b 2) (b 3)) refl

pub fours_length : (xs : List ℕ) → length (fours_of xs) ≡ 4 * length xs
unfolding fours_of four
fours_length [] = refl
fours_length (x ∷ xs) = let e = fours_length xs in omega arith

pub fours_append : (xs ys : List ℕ) → fours_of (xs ++ ys) ≡ fours_of xs ++ fours_of ys
unfolding fours_of four
fours_append [] ys = refl
fours_append (x ∷ xs) ys = rw (fours_append xs ys) refl

pub from_length : (n : ℕ) (i : List ℕ) → length (numbers_from n i) ≡ n
unfolding numbers_from
from_length zero i = refl
from_length (suc n) i = ap suc (from_length n (drop 4 i))

pub from_fours : (xs rest : List ℕ) → Below (2 ^ 32) xs → numbers_from (length xs) (fours_of xs ++ rest) ≡ xs
unfolding numbers_from fours_of four
from_fours [] rest b = refl
from_fours (x ∷ xs) rest b = rw (number_four x (fours_of xs ++ rest) (b 0), from_fours xs rest (λ k. b (suc k))) refl

pub drop_below : (m n : ℕ) (i : List ℕ) → Below m i → Below m (drop n i)
drop_below m n i b k = rw get_or-drop (b (n + k))

pub fours_from : (n : ℕ) (i : List ℕ) → Below 256 i → 4 * n ≤ length i → fours_of (numbers_from n i) ++ drop (4 * n) i ≡ i
unfolding numbers_from fours_of
fours_from zero i b l = refl
fours_from (suc n) i b l =
    let e : 4 * suc n ≡ 4 + 4 * n = omega arith in
    let d = fours_from n (drop 4 i) (drop_below 256 4 i b) (simp length-drop (omega arith)) in
    rw (append_assoc, e, ← drop-drop (4 * n) 4 i, d) (front i b (omega arith))

pub from_at : (n k : ℕ) (i : List ℕ) → k < n → get_or (numbers_from n i) k 0 ≡ number (drop (4 * k) i)
unfolding numbers_from
from_at zero k i l = absurd (omega arith)
from_at (suc n) zero i l = refl
from_at (suc n) (suc k) i l =
    let e : 4 * suc k ≡ 4 + 4 * k = omega arith in
    rw (e, ← drop-drop (4 * k) 4 i) (from_at n k (drop 4 i) (omega arith))

pub number_below : (i : List ℕ) → Below 256 i → number i < 2 ^ 32
unfolding number
number_below i b = omega (arith, b 0, b 1, b 2, b 3)

pub from_below : (n : ℕ) (i : List ℕ) → Below 256 i → Below (2 ^ 32) (numbers_from n i)
unfolding numbers_from
from_below zero i b k = omega arith
from_below (suc n) i b zero = number_below i b
from_below (suc n) i b (suc k) = from_below n (drop 4 i) (drop_below 256 4 i b) k

pub take_below : (m n : ℕ) (i : List ℕ) → 0 < m → Below m i → Below m (take n i)
take_below m zero i z b k = z
take_below m (suc n) [] z b k = z
take_below m (suc n) (x ∷ i) z b zero = b 0
take_below m (suc n) (x ∷ i) z b (suc k) = take_below m n i z (λ j. b (suc j)) k

past_four : (n : ℕ) (rest : List ℕ) → drop 4 (four n ++ rest) ≡ rest
unfolding four
past_four n rest = refl

pub four_length : (n : ℕ) → length (four n) ≡ 4
unfolding four
four_length n = refl

pub numbers_length : (xs : List ℕ) → length (numbers xs) ≡ 4 + 4 * length xs
numbers_length xs = simp (length-append, four_length, fours_length)

pub singles_length : (xs : List ℕ) → length (singles xs) ≡ 4 + length xs
singles_length xs = simp (length-append, four_length)

module _ (xs rest : List ℕ) (few : length xs < 2 ^ 32) where
  pub numbers_count : number (numbers xs ++ rest) ≡ length xs
  numbers_count = rw append_assoc (number_four (length xs) (fours_of xs ++ rest) few)

  pub numbers_in_lem : Below (2 ^ 32) xs → numbers_in (numbers xs ++ rest) ≡ xs
  numbers_in_lem b = rw (numbers_count, append_assoc, past_four) (from_fours xs rest b)

  pub past_numbers_lem : past_numbers (numbers xs ++ rest) ≡ rest
  past_numbers_lem = rw numbers_count (drop_at (numbers xs) rest (4 + 4 * length xs) (numbers_length xs))

  pub singles_count : number (singles xs ++ rest) ≡ length xs
  singles_count = rw append_assoc (number_four (length xs) (xs ++ rest) few)

  pub singles_in_lem : singles_in (singles xs ++ rest) ≡ xs
  singles_in_lem = rw (singles_count, append_assoc, past_four) (take_at xs rest (length xs) refl)

  pub past_singles_lem : past_singles (singles xs ++ rest) ≡ rest
  past_singles_lem = rw singles_count (drop_at (singles xs) rest (4 + length xs) (singles_length xs))

module _ (i : List ℕ) (b : Below 256 i) where
  pub numbers_back : 4 + 4 * number i ≤ length i → numbers (numbers_in i) ++ past_numbers i ≡ i
  numbers_back l =
      let n = number i in
      let e = fours_from n (drop 4 i) (drop_below 256 4 i b) (simp length-drop (omega arith)) in
      rw (from_length n (drop 4 i), append_assoc, ← drop-drop (4 * n) 4 i, e) (front i b (omega arith))

  pub singles_back : 4 + number i ≤ length i → singles (singles_in i) ++ past_singles i ≡ i
  singles_back l =
      let n = number i in
      let e = length-take-le n (drop 4 i) (simp length-drop (omega arith)) in
      rw (e, append_assoc, ← drop-drop n 4 i, take-append-drop) (front i b (omega arith))
