-- Laws of the loop that fills a buffer from an image.
--     filled_all                   all is filled
--     fours_more, bytes_more       one number more, one byte more
-- Assumes nothing.
use Prim.Native.Nat.{ℕ, zero, suc, ◌+◌, ◌*◌, ◌≤◌, ◌<◌}
use mathlib.Core.Path.{◌≡◌, refl, ◌∙◌}
use mathlib.Core.List.{List, [], ◌∷◌, ◌++◌, append_assoc, append-nil}
use native.Mathlib.Numerals.{add-one}
use native.Mathlib.Omega.{arith}
use lib.ListN.{length, get_or, take, drop, set, drop_of_length-le}
use lib.Seq.{length-take-le, take-suc, drop-cons, drop-drop, set_at}
use Rattle.machine.specs.Image.{number, numbers_from}
use Rattle.machine.proofs.Fours.{from_length}

-- one element more of a list that is filled from the front
filled_more : (k v : ℕ) (xs to : List ℕ) {now : List ℕ} → k < length to → length xs ≡ k → now ≡ xs ++ drop k to
    → set now k v ≡ (xs ++ (v ∷ [])) ++ drop (k + 1) to
filled_more k v xs to l n i =
    rw (i, drop-cons to k 0 l, set_at xs (get_or to k 0) (drop (suc k) to) v k n, add-one k, append_assoc xs (v ∷ []) (drop (suc k) to)) refl

pub filled_all : (k : ℕ) (to : List ℕ) {xs now : List ℕ} → length to ≤ k → now ≡ xs ++ drop k to → now ≡ xs
filled_all k to {xs} l i = i ∙ rw (drop_of_length-le to l, append-nil) refl

from_suc : (k : ℕ) (j : List ℕ) → numbers_from (suc k) j ≡ numbers_from k j ++ (number (drop (4 * k) j) ∷ [])
unfolding numbers_from
from_suc zero j = refl
from_suc (suc k) j =
    let e : 4 * suc k ≡ 4 + 4 * k = omega arith in
    rw (e, ← drop-drop (4 * k) 4 j, ← from_suc k (drop 4 j)) refl

pub fours_more : (k : ℕ) (i to : List ℕ) {v : ℕ} {now : List ℕ} → k < length to → v ≡ number (drop (4 * k) i)
    → now ≡ numbers_from k i ++ drop k to → set now k v ≡ numbers_from (k + 1) i ++ drop (k + 1) to
fours_more k i to {v} l e f =
    let g = filled_more k v (numbers_from k i) to l (from_length k i) f in
    let s : numbers_from (k + 1) i ≡ numbers_from k i ++ (v ∷ []) = rw (add-one k, from_suc k i, e) refl in
    rw s g

pub bytes_more : (k : ℕ) (i to : List ℕ) {now : List ℕ} → k < length to → k < length i → now ≡ take k i ++ drop k to
    → set now k (get_or i k 0) ≡ take (k + 1) i ++ drop (k + 1) to
bytes_more k i to l n f =
    let g = filled_more k (get_or i k 0) (take k i) to l (length-take-le k i (omega arith)) f in
    let s : take (k + 1) i ≡ take k i ++ (get_or i k 0 ∷ []) = rw (add-one k, take-suc i k 0 n) refl in
    rw s g
