-- Laws of bytes written into others.
--     placed_none              nothing written
--     placed_length            what is written into stays as long
--     placed_on                bytes written behind others
--     placed_front             bytes written from the start;     placed_behind: others behind them
--     put_placed, rest_placed  a part that was lent and written, and all from a place on, when it is back
--     number_placed            the number that four bytes of a list say
--     fours_on, fours_all      a loop that writes numbers: one more, and all
--     bytes_on, bytes_all      a loop that writes single bytes
--     section                  a count and what it counts
-- Assumes nothing.
use Prim.Native.Nat.{ℕ, ◌+◌, ◌-◌, ◌*◌, ◌≤◌, ◌<◌}
use mathlib.Core.Path.{◌≡◌, refl, sym, ◌∙◌}
use mathlib.Core.List.{List, [], ◌∷◌, ◌++◌, append_assoc, append-nil}
use native.Mathlib.Numerals.{add-one}
use native.Mathlib.Omega.{arith}
use lib.ListN.{length, get_or, take, drop, set, length-append, length-drop, take-append-drop, drop_of_length-le}
use lib.Seq.{length-take-le, take-suc, take_all, take_at, drop_at, drop-drop, get_or-drop, set_split}
use Rattle.machine.specs.Image.{four, fours_of, number}
use Rattle.machine.proofs.Fours.{four_length, fours_length, fours_append}
use Rattle.part_image.specs.Placing.{placed}

pub placed_none : (at : ℕ) (out : List ℕ) → out ≡ placed at [] out
unfolding placed
placed_none at out = let e : at + 0 ≡ at = omega arith in rw (e, take-append-drop) refl

pub placed_front : (xs out : List ℕ) → placed 0 xs out ≡ xs ++ drop (length xs) out
unfolding placed
placed_front xs out = let e : 0 + length xs ≡ length xs = omega arith in rw e refl

module _ (at : ℕ) (xs out : List ℕ) where
  pub placed_length : at + length xs ≤ length out → length (placed at xs out) ≡ length out
  unfolding placed
  placed_length l = simp (length-append, length-take-le at out (omega arith), length-drop) (omega arith)

  -- what is in front of the place behind xs
  ahead : at ≤ length out → length (take at out ++ xs) ≡ at + length xs
  ahead l = rw (length-append, length-take-le at out l) refl

  pub placed_on : (ys : List ℕ) → at ≤ length out → placed (at + length xs) ys (placed at xs out) ≡ placed at (xs ++ ys) out
  unfolding placed
  placed_on ys l =
      let n = at + length xs in
      let p = take at out ++ xs in
      let q = drop n out in
      let e : take at out ++ (xs ++ q) ≡ p ++ q = sym (append_assoc (take at out) xs q) in
      let f : drop (n + length ys) (p ++ q) ≡ drop (n + length ys) out =
      rw (← drop-drop (length ys) n (p ++ q), drop_at p q n (ahead l), drop-drop) refl in
      let g : at + (length xs + length ys) ≡ n + length ys = omega arith in
      rw (e, take_at p q n (ahead l), f, length-append xs ys, g, append_assoc (take at out) xs, append_assoc xs ys) refl

pub placed_behind : (xs ys out : List ℕ) (p : ℕ) {now then : List ℕ} → p ≡ length xs → now ≡ xs ++ drop (length xs) out
    → then ≡ placed p ys now → then ≡ (xs ++ ys) ++ drop (length (xs ++ ys)) out
placed_behind xs ys out p n i e =
    let z : 0 + length xs ≡ length xs = omega arith in
    let o = placed_on 0 xs out ys (omega arith) in
    rw (e, n, i, ← placed_front xs out) ((rw z at o) ∙ placed_front (xs ++ ys) out)

-- a part written from the place at on, when it is back
pub put_placed : (at k : ℕ) (ys out : List ℕ) → length ys ≡ k → take at out ++ (ys ++ drop k (drop at out)) ≡ placed at ys out
unfolding placed
put_placed at k ys out e = rw (← e, drop-drop) refl

-- all from the place at on, into which was written at its front
pub rest_placed : (at : ℕ) (ys out : List ℕ)
    → take at out ++ (placed 0 ys (take (length out - at) (drop at out)) ++ drop (length out - at) (drop at out)) ≡ placed at ys out
unfolding placed
rest_placed at ys out =
    let q = drop at out in
    let l : length q ≤ length out - at = omega (arith, length-drop at out) in
    let z : 0 + length ys ≡ length ys = omega arith in
    rw (take_all (length out - at) q l, drop_of_length-le q {i = length out - at} l, append-nil, z, drop-drop) refl

one_placed : (at v : ℕ) (out : List ℕ) → at < length out → set out at v ≡ placed at (v ∷ []) out
unfolding placed
one_placed at v out l = rw (add-one at) (set_split out at v l)

pub number_placed : (at : ℕ) (i : List ℕ)
    → get_or i at 0 + 256 * get_or i (at + 1) 0 + 65536 * get_or i (at + 2) 0 + 16777216 * get_or i (at + 3) 0 ≡ number (drop at i)
unfolding number
number_placed at i = let e : at + 0 ≡ at = omega arith in simp (get_or-drop, e)

module _ (k : ℕ) (xs out : List ℕ) {now : List ℕ} where
  pub fours_on : {then : List ℕ} → k < length xs → now ≡ placed 0 (fours_of (take k xs)) out
      → then ≡ placed (4 * k) (four (get_or xs k 0)) now → then ≡ placed 0 (fours_of (take (k + 1) xs)) out
  unfolding fours_of
  fours_on l i e =
      let n : length (fours_of (take k xs)) ≡ 4 * k = fours_length (take k xs) ∙ rw (length-take-le k xs (omega arith)) refl in
      let z : 0 + length (fours_of (take k xs)) ≡ 4 * k = omega arith in
      let t : fours_of (take (k + 1) xs) ≡ fours_of (take k xs) ++ four (get_or xs k 0) =
      rw (add-one k, take-suc xs k 0 l, fours_append, append-nil) refl in
      rw (e, i, t, ← z) (placed_on 0 (fours_of (take k xs)) out (four (get_or xs k 0)) (omega arith))

  pub fours_all : length xs ≤ k → now ≡ placed 0 (fours_of (take k xs)) out → now ≡ placed 0 (fours_of xs) out
  fours_all l i = i ∙ rw (take_all k xs l) refl

  pub bytes_on : k < length xs → k < length out → now ≡ placed 0 (take k xs) out → set now k (get_or xs k 0) ≡ placed 0 (take (k + 1) xs) out
  bytes_on l r i =
      let n : length (take k xs) ≡ k = length-take-le k xs (omega arith) in
      let z : 0 + length (take k xs) ≡ k = omega arith in
      let s : k < length (placed 0 (take k xs) out) = rw (placed_length 0 (take k xs) out (omega arith)) r in
      rw (i, one_placed k (get_or xs k 0) (placed 0 (take k xs) out) s, add-one k, take-suc xs k 0 l) (rw z at (placed_on 0 (take k xs) out (get_or xs k 0 ∷ []) (omega arith)))

  pub bytes_all : length xs ≤ k → now ≡ placed 0 (take k xs) out → now ≡ placed 0 xs out
  bytes_all l i = i ∙ rw (take_all k xs l) refl

pub section : (at : ℕ) (bs out : List ℕ) (n : ℕ) {now then : List ℕ} → at ≤ length out → now ≡ placed at (four n) out
    → then ≡ placed (at + 4) bs now → then ≡ placed at (four n ++ bs) out
section at bs out n room e f = let k = four_length n in rw (f, e) (rw k at (placed_on at (four n) out bs room))
