-- Laws of the copying: words one by one, and block by block.
--     copy_on, copy_ends       a turn of the loop that copies word by word, and its end
--     block_back               the row when the lent part is back, with a block's first words in it
--     chained_first, chained_rest, chained_next     the first block of a chain, and the rest
--     fields_start, fields_on, fields_end     the loop that copies block by block: its start, a turn of it, and its end
-- Assumes nothing.
use Prim.Native.Nat.{ℕ, suc, ◌+◌, ◌-◌, ◌≤◌, ◌<◌}
use mathlib.Core.Path.{◌≡◌, refl, sym, ◌∙◌, ap}
use mathlib.Core.List.{List, [], ◌∷◌, ◌++◌, append_assoc, append-nil}
use native.Mathlib.Omega.{arith}
use native.Mathlib.Numerals.{add-one}
use lib.ListN.{length, set, get_or, take, drop, length-append, length-take, length-drop, drop_of_length-le}
use lib.Seq.{take_all, take-suc, take-suc-set, take_at}
use Rattle.machine.specs.Block.{base, word_of}
use Rattle.machine.specs.Chain.{link}
use Rattle.part_rows.specs.Rows.{with_row}
use Rattle.part_rows.proofs.Copying.{row_back}
use Rattle.part_copy.specs.Chains.{Within, Chained, last, more, chain_words}

-- ---- word by word
pub copy_on : (to from : List ℕ) (i : ℕ) → i < length to → i < length from → take i to ≡ take i from → take (i + 1) (set to i (get_or from i 0)) ≡ take (i + 1) from
copy_on to from i l m e =
    rw (add-one i) (take-suc-set to i (get_or from i 0) l ∙ ap (λ (r : List ℕ). r ++ (get_or from i 0 ∷ [])) e ∙ sym (take-suc from i 0 m))

pub copy_ends : (to from : List ℕ) (i : ℕ) → length to ≤ i → length to ≡ length from → take i to ≡ take i from → to ≡ from
copy_ends to from i l m e = sym (take_all i to l) ∙ e ∙ take_all i from (omega arith)

-- ---- block by block
module _ (ws row : List ℕ) (b i n : ℕ) (d : Within b ws) (l : n ≤ 7) where
  part_length : length (take n (drop (base b) ws)) ≡ n
  part_length = let h = d.high in simp (length-take, length-drop) (omega arith)

  pub block_back : {xs : List ℕ} (end : ℕ) → i + n ≡ end → xs ≡ take (base b + n - base b) (drop (base b) ws)
      → take i row ++ (xs ++ drop (end - i) (drop i row)) ≡ with_row i (take n (drop (base b) ws)) row
  block_back end s e =
      let k : base b + n - base b ≡ n = omega arith in
      row_back row (take n (drop (base b) ws)) i end (e ∙ (rw k refl)) (omega (arith, part_length))

pub fields_start : {ws : List ℕ} {links b : ℕ} (row : List ℕ) (n : ℕ) → Chained links b ws → Chained (links - 0) b ws × (chain_words links n b ws ≡ take 0 row ++ chain_words (links - 0) (n - 0) b ws)
fields_start {links = links} row n c =
    let k : links - 0 ≡ links = omega arith in
    let z : n - 0 ≡ n = omega arith in
    rw (k, z) (c, refl)

pub chained_first : {j b : ℕ} {ws : List ℕ} → Chained j b ws → Within b ws
chained_first (last d) = d
chained_first (more d c) = d

pub chained_rest : {j b : ℕ} {ws : List ℕ} → Chained (suc j) b ws → Chained j (word_of ws b link) ws
chained_rest (more d c) = c

-- a chain that goes on
module _ (ws : List ℕ) (left b k : ℕ) (e : left ≡ k + 1) where
  some : left ≡ suc k
  some = e ∙ add-one k

  pub chained_next : Chained left b ws → Chained k (word_of ws b link) ws
  chained_next c = chained_rest (rw some at c)

  module _ (n i m : ℕ) (f : i + 7 ≡ m) (row row' whole : List ℕ) (r : row' ≡ with_row i (take 7 (drop (base b) ws)) row) (d : Within b ws) (l : i + 7 ≤ length row) where
    front : take m row' ≡ take i row ++ take 7 (drop (base b) ws)
    unfolding with_row
    front =
        let s = take 7 (drop (base b) ws) in
        let p : length (take i row ++ s) ≡ i + 7 = simp length-append (omega (arith, part_length ws row b i 7 d (omega arith), front_length)) in
        rw (r, ← append_assoc (take i row) s (drop (i + length s) row)) (take_at (take i row ++ s) (drop (i + length s) row) m (p ∙ f))
      where
        front_length : length (take i row) ≡ i
        front_length = simp length-take (omega arith)

    pub fields_on : whole ≡ take i row ++ chain_words left (n - i) b ws → whole ≡ take m row' ++ chain_words k (n - m) (word_of ws b link) ws
    unfolding chain_words
    fields_on w =
        let s = take 7 (drop (base b) ws) in
        let z : n - i - 7 ≡ n - m = omega arith in
        rw front (w ∙ (rw (some, z) (sym (append_assoc (take i row) s (chain_words k (n - m) (word_of ws b link) ws)))))

pub fields_end : (ws : List ℕ) (left b n i : ℕ) (row row' whole : List ℕ) → left ≡ 0 → Within b ws → length row ≡ n → i ≤ n → n ≤ i + 7
    → row' ≡ with_row i (take (length row - i) (drop (base b) ws)) row → whole ≡ take i row ++ chain_words left (n - i) b ws → row' ≡ whole
unfolding with_row chain_words
fields_end ws left b n i row row' whole z d m l o r w =
    let s = take (length row - i) (drop (base b) ws) in
    let k : length s ≡ length row - i = part_length ws row b i (length row - i) d (omega arith) in
    let e : drop (i + length s) row ≡ [] = drop_of_length-le row {i = i + length s} (omega arith) in
    r ∙ (rw (e, append-nil s, w, z, m) refl)
