-- Laws of the walk from a block back to the root.
--     hops n came x            how many pairs such a walk has, of n at most
--     back n came x            the pairs of a walk that has n of them, in the path's order
--     hops_most                how large it is
--     hops_start, hops_more, hops_out, hops_end     the loop that counts: its start, a pair more, its two ends
--     path_length, path-back   the path's length, and the path, by the count
--     hops_left, hops_next     the pairs left to write: all of them, and one less, where the block was come to by a word
--     to_come, write_start, write_step, write_end     the loop that writes the path from its last pair on: what the buffer is going to be
--     path_most, put_back      how long the path is; the buffer with zeros behind it
-- Assumes nothing.
use Prim.Native.Nat.{ℕ, zero, suc, ◌+◌, ◌-◌, ◌*◌, ◌/◌, ◌%◌, ◌≤◌, ◌<◌}
use mathlib.Core.Path.{◌≡◌, refl, sym, ◌∙◌, ap}
use mathlib.Core.List.{List, [], ◌∷◌, ◌++◌, append_assoc, append-nil}
use native.Mathlib.Omega.{arith}
use native.Mathlib.Numerals.{add-one}
use lib.Dec.{leb}
use lib.ListN.{length, get_or, take, drop, set, replicate, length-drop, drop_of_length-le}
use lib.Seq.{length-take-le, drop-cons, drop-set-add, take_at}
use borrow.Author.Tests.{leb-true, leb-false, le-leb, lt-leb}
use Rattle.std.specs.Prelude.{if◌then◌else◌}
use Rattle.machine.specs.Search.{came_to, Hop, last_hop, path_from, path_to, path_numbers}
use Rattle.machine.specs.Why.{padded}
use Rattle.machine.proofs.Tests.{by_test}

-- ---- lists
numbers_append : (hs is : List Hop) → path_numbers (hs ++ is) ≡ path_numbers hs ++ path_numbers is
unfolding path_numbers
numbers_append [] is = refl
numbers_append (h ∷ hs) is = ap (λ (ns : List ℕ). h.block ∷ h.word ∷ ns) (numbers_append hs is)

numbers_length : (hs : List Hop) → length (path_numbers hs) ≡ 2 * length hs
unfolding path_numbers
numbers_length [] = refl
numbers_length (h ∷ hs) = let r = numbers_length hs in omega arith

two_written : (path : List ℕ) (i a b : ℕ) → i + 2 ≤ length path → drop i (set (set path i a) (i + 1) b) ≡ a ∷ b ∷ drop (i + 2) path
two_written path i a b l =
    let z : i + 0 ≡ i = omega arith in
    let first : drop i (set path i a) ≡ set (drop i path) 0 a = rw z at (drop-set-add i path 0 a) in
    let one : drop i path ≡ get_or path i 0 ∷ drop (suc i) path = drop-cons path i 0 (omega arith) in
    let two : drop (suc i) path ≡ get_or path (suc i) 0 ∷ drop (suc (suc i)) path = drop-cons path (suc i) 0 (omega arith) in
    let e : suc (suc i) ≡ i + 2 = omega arith in
    drop-set-add i (set path i a) 1 b ∙ rw (first, one, two, e) refl

-- ---- the walk
module _ (came : List ℕ) where
  unfoldable pub hops : ℕ → ℕ → ℕ
  hops zero x = 0
  hops (suc n) x = if leb (came_to came x) 1 then 0 else suc (hops n (came_to came x / 8))

  unfoldable pub back : ℕ → ℕ → List Hop → List Hop
  back zero x rest = rest
  back (suc n) x rest = back n (came_to came x / 8) (last_hop came x ∷ rest)

  pub hops_most : (n x : ℕ) → hops n x ≤ n
  unfolding hops
  hops_most zero x = omega arith
  hops_most (suc n) x = by_test (leb (came_to came x) 1)
      (λ t. rw t (omega arith))
      (λ t. let r = hops_most n (came_to came x / 8) in rw t (omega arith))

  hops_none : (n x : ℕ) → came_to came x ≤ 1 → hops n x ≡ 0
  unfolding hops
  hops_none zero x l = refl
  hops_none (suc n) x l = simp (le-leb _ _ l)

  hops_suc : (n x : ℕ) → 1 < came_to came x → hops (suc n) x ≡ suc (hops n (came_to came x / 8))
  unfolding hops
  hops_suc n x l = simp (lt-leb _ _ l)

  path_hops : (n x : ℕ) (rest : List Hop) → path_from n came x rest ≡ back (hops n x) x rest
  unfolding hops back path_from
  path_hops zero x rest = refl
  path_hops (suc n) x rest = by_test (leb (came_to came x) 1)
      (λ t. rw t refl)
      (λ t. rw t (path_hops n (came_to came x / 8) (last_hop came x ∷ rest)))

  back_length : (n x : ℕ) (rest : List Hop) → length (back n x rest) ≡ n + length rest
  unfolding back
  back_length zero x rest = omega arith
  back_length (suc n) x rest = let r = back_length n (came_to came x / 8) (last_hop came x ∷ rest) in omega arith

  back_append : (n x : ℕ) (rest : List Hop) → back n x rest ≡ back n x [] ++ rest
  unfolding back
  back_append zero x rest = refl
  back_append (suc n) x rest =
      let y = came_to came x / 8 in
      back_append n y (last_hop came x ∷ rest)
      ∙ sym (ap (λ (hs : List Hop). hs ++ rest) (back_append n y (last_hop came x ∷ [])) ∙ append_assoc (back n y []) (last_hop came x ∷ []) rest)

  pub path_length : (m x : ℕ) → length (path_to m came x) ≡ hops m x
  path_length m x = ap (λ (hs : List Hop). length hs) (path_hops m x []) ∙ back_length (hops m x) x [] ∙ omega arith

  -- ---- the count
  pub hops_start : (m x : ℕ) → hops m x ≡ 0 + hops (m - 0) x
  hops_start m x = let z : m - 0 ≡ m = omega arith in rw z (omega arith)

  module _ (m n x : ℕ) {all : ℕ} where
    pub hops_more : all ≡ n + hops (m - n) x → n < m → 1 < came_to came x → all ≡ n + 1 + hops (m - (n + 1)) (came_to came x / 8)
    hops_more e l g =
        let s : m - n ≡ suc (m - (n + 1)) = omega arith in
        let r : hops (m - n) x ≡ suc (hops (m - (n + 1)) (came_to came x / 8)) = rw s (hops_suc (m - (n + 1)) x g) in
        omega arith

    pub hops_out : all ≡ n + hops (m - n) x → m ≤ n → n ≡ all
    hops_out e l = let r = hops_most (m - n) x in omega arith

    pub hops_end : all ≡ n + hops (m - n) x → came_to came x ≤ 1 → n ≡ all
    hops_end e l = let r = hops_none (m - n) x l in omega arith

  -- ---- n pairs in all, of which some are left
  pub hops_left : (m n x : ℕ) → n ≡ hops m x → n ≡ hops (m - (n - n)) x
  hops_left m n x e = let z : m - (n - n) ≡ m = omega arith in e ∙ rw z refl

  pub hops_next : (m n left x : ℕ) → left ≤ n → 0 < left → left ≡ hops (m - (n - left)) x
      → (1 < came_to came x) × (left - 1 ≡ hops (m - (n - (left - 1))) (came_to came x / 8))
  hops_next m n left x l o e = go (m - (n - left)) e (omega arith)
    where
      go : (f : ℕ) → left ≡ hops f x → f - 1 ≡ m - (n - (left - 1)) → (1 < came_to came x) × (left - 1 ≡ hops (m - (n - (left - 1))) (came_to came x / 8))
      go zero e s = absurd (omega (arith, hops_most zero x))
      go (suc f) e s = by_test (leb (came_to came x) 1)
          (λ t. absurd (omega (arith, hops_none (suc f) x (leb-true _ _ t))))
          (λ t. let g = leb-false _ _ t in
          let z : suc f - 1 ≡ f = omega arith in
          let r = hops_suc f x g in
          (g, rw (← s, z) (omega arith)))

  -- ---- the loop that writes
  -- what the buffer is going to be, with n pairs left to write, the last of them how x was come to
  abbrev pub to_come : ℕ → ℕ → List ℕ → List ℕ
  to_come n x path = path_numbers (back n x []) ++ drop (2 * n) path

  pub write_start : (m n x : ℕ) (path : List ℕ) → n ≡ hops m x → path_numbers (path_to m came x) ++ drop (2 * n) path ≡ to_come n x path
  write_start m n x path e = rw (path_hops m x [], e) refl

  pub write_step : (n k x : ℕ) (path : List ℕ) {v : ℕ} {all : List ℕ} → n ≡ k + 1 → 2 * n ≤ length path → v ≡ came_to came x
      → all ≡ to_come n x path → all ≡ to_come k (v / 8) (set (set path (2 * k) (v / 8)) (2 * k + 1) (v % 8))
  unfolding back path_numbers
  write_step n k x path s l e w =
      let way = came_to came x in
      let n_is : n ≡ suc k = s ∙ add-one k in
      let twice : 2 * suc k ≡ 2 * k + 2 = omega arith in
      let last = last_hop came x ∷ [] in
      let pairs = back k (way / 8) [] in
      w ∙ rw (e, n_is, back_append k (way / 8) last, numbers_append pairs last, two_written path (2 * k) (way / 8) (way % 8) (omega arith), twice)
      (append_assoc (path_numbers pairs) (way / 8 ∷ way % 8 ∷ []) (drop (2 * k + 2) path))

  pub write_end : (n x : ℕ) (path : List ℕ) {all : List ℕ} → n ≤ 0 → all ≡ to_come n x path → path ≡ all
  unfolding back path_numbers
  write_end n x path l w = let z : n ≡ 0 = omega arith in sym (w ∙ rw z refl)

-- ---- the path, and zeros behind it
pub path_most : (came : List ℕ) (m x : ℕ) {n : ℕ} → n ≡ length (path_to m came x) → n ≤ m
path_most came m x e = let k = path_length came m x in let l = hops_most came m x in omega arith

-- the part behind the path, when it is back
pub put_back : (came : List ℕ) (m x : ℕ) (path path₁ : List ℕ) {n : ℕ} {zs : List ℕ} → n ≡ length (path_to m came x)
    → path₁ ≡ path_numbers (path_to m came x) ++ drop (2 * n) path → length path₁ ≡ length path
    → zs ≡ replicate (length (take (length path₁ - 2 * n) (drop (2 * n) path₁))) 0
    → take (2 * n) path₁ ++ (zs ++ drop (length path₁ - 2 * n) (drop (2 * n) path₁)) ≡ padded (path_numbers (path_to m came x)) (length path)
unfolding padded
put_back came m x path path₁ {n} c e l z =
    let ns = path_numbers (path_to m came x) in
    let left = length path₁ - 2 * n in
    let size : length ns ≡ 2 * n = numbers_length (path_to m came x) ∙ rw c refl in
    let rest : length (drop (2 * n) path₁) ≡ left = length-drop (2 * n) path₁ in
    let cut : length (take left (drop (2 * n) path₁)) ≡ left = length-take-le left (drop (2 * n) path₁) (omega arith) in
    let none : drop left (drop (2 * n) path₁) ≡ [] = drop_of_length-le (drop (2 * n) path₁) {i = left} (omega arith) in
    let front : take (2 * n) path₁ ≡ ns = rw e (take_at ns (drop (2 * n) path) (2 * n) size) in
    rw (none, z, cut, front, append-nil, size, l) refl
