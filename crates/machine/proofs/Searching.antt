-- Laws of the search.
--     meet_new, meet_old, meet_none     what a word names: a block that wasn't found yet, one that was, no block
--     visit_on, visit_end      a block's words from set bit to set bit of its byte: the lowest one, and the end
--     onward_on, onward_end    the blocks found visited one after another: a block, and the end
--     begun_root, begun_none   where the search begins
--     meet_searched, visit_searched, begun_searched, onward_searched, search_searched     what holds at every step
--     searched_most, searched_room     no more blocks are found than there are entries, and an entry that is 0 leaves room for a block
-- Assumes nothing.
use Prim.Native.Nat.{ℕ, zero, suc, ◌+◌, ◌-◌, ◌*◌, ◌/◌, ◌%◌, ◌^◌, ◌≤◌, ◌<◌}
use mathlib.Core.Path.{◌≡◌, refl, sym, ◌∙◌, subst}
use mathlib.Core.Logic.{◌≢◌}
use mathlib.Core.Bool.{true, false, ◌&&◌}
use mathlib.Core.List.{List, [], ◌∷◌, ◌++◌}
use native.Mathlib.Omega.{arith}
use lib.Count.{count_trailing_zeros}
use lib.Dec.{eqb, ltb}
use lib.ListN.{get_or, set, length, replicate, length-append, length-set, length-replicate, get_or-replicate, get_or-append, get_or-eq_default}
use lib.Seq.{get_or-set_same, get_or-set_other, get_or-append_seam, set_out}
use borrow.Author.Tests.{eqb-true, eq-eqb, ne_eqb, lt-ltb, ltb-true, ltb-false, le-ltb}
use Rattle.machine.specs.Block.{is_block, index, bit, references_from}
use Rattle.machine.specs.WellFormed.{Block}
use Rattle.machine.specs.Search.{named_in, Found, found, came_to, meet, visit_from, visit, onward, begun, search}
use Rattle.machine.specs.Searched.{non_zeros, Ways, Searched}
use Rattle.machine.proofs.Tests.{by_test, by_eq, if_ind, both_true}
use Rattle.machine.proofs.Blocks.{is_block_block, below_is_block}
use Rattle.machine.proofs.Bytes.{below_eight}
use Rattle.machine.proofs.LowestBit.{lowest_within, word_first, none_left}

-- ---- how many numbers aren't 0
non_zeros_none : (n : ℕ) → non_zeros (replicate n 0) ≡ 0
unfolding non_zeros
non_zeros_none zero = refl
non_zeros_none (suc n) = non_zeros_none n

non_zeros_more : (ns : List ℕ) (i v : ℕ) → i < length ns → get_or ns i 0 ≡ 0 → v ≢ 0 → non_zeros (set ns i v) ≡ non_zeros ns + 1
unfolding non_zeros
non_zeros_more [] i v l e n = absurd (omega arith)
non_zeros_more (zero ∷ ns) zero zero l e n = absurd (n refl)
non_zeros_more (zero ∷ ns) zero (suc v) l e n = omega arith
non_zeros_more (suc k ∷ ns) zero v l e n = absurd (omega arith)
non_zeros_more (zero ∷ ns) (suc i) v l e n = non_zeros_more ns i v (omega arith) e n
non_zeros_more (suc k ∷ ns) (suc i) v l e n = let r = non_zeros_more ns i v (omega arith) e n in omega arith

non_zeros_most : (ns : List ℕ) → non_zeros ns ≤ length ns
unfolding non_zeros
non_zeros_most [] = omega arith
non_zeros_most (zero ∷ ns) = let r = non_zeros_most ns in omega arith
non_zeros_most (suc k ∷ ns) = let r = non_zeros_most ns in omega arith

non_zeros_room : (ns : List ℕ) (i : ℕ) → i < length ns → get_or ns i 0 ≡ 0 → non_zeros ns < length ns
non_zeros_room ns i l e =
    let r = non_zeros_more ns i 1 l e (λ z. absurd (omega arith)) in
    let s = non_zeros_most (set ns i 1) in
    let t = length-set ns i 1 in
    omega arith

-- ---- what a word names
module _ (m b w x : ℕ) (f : Found) where
  pub meet_new : is_block m x ≡ true → came_to f.came x ≡ 0
      → meet m b w x f ≡ found (f.blocks ++ (x ∷ [])) (set f.came (index x) (8 * b + w))
  unfolding meet
  meet_new k e = simp (k, eq-eqb _ _ e)

  pub meet_old : is_block m x ≡ true → came_to f.came x ≢ 0 → meet m b w x f ≡ f
  unfolding meet
  meet_old k n = simp (k, ne_eqb _ _ n)

  pub meet_none : is_block m x ≡ false → meet m b w x f ≡ f
  unfolding meet
  meet_none k = simp k

-- ---- a block's words, from set bit to set bit of its byte
module _ (m b : ℕ) (part : List ℕ) where
  unfoldable meet_all : List ℕ → Found → Found
  meet_all [] f = f
  meet_all (w ∷ ws) f = meet_all ws (meet m b w (get_or part w 0) f)

  -- the words themselves, as a block's references whose words hold their own numbers
  abbrev eight : List ℕ
  eight = 0 ∷ 1 ∷ 2 ∷ 3 ∷ 4 ∷ 5 ∷ 6 ∷ 7 ∷ []

  eight_at : (w : ℕ) → w < 8 → get_or eight w 0 ≡ w
  eight_at = below_eight (λ v. get_or eight v 0 ≡ v) refl refl refl refl refl refl refl refl

  over_words : (n w byte : ℕ) (f : Found) → w + n ≤ 8 → visit_from n w m b (named_in part byte) f ≡ meet_all (references_from n w eight byte) f
  unfolding visit_from meet_all references_from named_in
  over_words zero w byte f l = refl
  over_words (suc n) w byte f l = by_test (bit byte w)
      (λ t. rw (t, eight_at w (omega arith)) (over_words n (w + 1) byte (meet m b w (get_or part w 0) f) (omega arith)))
      (λ t. rw (t, meet_none m b w 0 f (below_is_block m 0 (omega arith))) (over_words n (w + 1) byte f (omega arith)))

  pub visit_end : (rest : ℕ) (f : Found) → rest ≡ 0 → visit m b (named_in part rest) f ≡ f
  unfolding meet_all
  visit_end rest f z = over_words 8 0 rest f (omega arith) ∙ rw (none_left eight rest z) refl

  module _ (rest t : ℕ) (l : rest < 256) (n : rest ≢ 0) (e : t ≡ count_trailing_zeros 32 rest) where
    pub visit_on : (f : Found) → visit m b (named_in part rest) f ≡ visit m b (named_in part (rest - 1 * 2 ^ t % 4294967296)) (meet m b t (get_or part t 0) f)
    unfolding meet_all
    visit_on f =
        let left = rest - 1 * 2 ^ t % 4294967296 in
        over_words 8 0 rest f (omega arith)
        ∙ rw (word_first eight rest t l n e, eight_at t (lowest_within rest t l n e)) (sym (over_words 8 0 left (meet m b t (get_or part t 0) f) (omega arith)))

-- ---- the blocks found, one after another
module _ (m : ℕ) (names : ℕ → ℕ → ℕ) (n i : ℕ) (f : Found) where
  pub onward_on : i < length f.blocks
      → onward (suc n) i m names f ≡ onward n (i + 1) m names (visit m (get_or f.blocks i 0) (names (get_or f.blocks i 0)) f)
  unfolding onward
  onward_on l = simp (lt-ltb _ _ l)

pub onward_end : (m : ℕ) (names : ℕ → ℕ → ℕ) (n i : ℕ) (f : Found) → length f.blocks ≤ i → onward n i m names f ≡ f
unfolding onward
onward_end m names zero i f l = refl
onward_end m names (suc n) i f l = simp (le-ltb _ _ l)

module _ (m root : ℕ) where
  pub begun_root : is_block m root ≡ true → begun m root ≡ found (root ∷ []) (set (replicate m 0) (index root) 1)
  unfolding begun
  begun_root e = simp e

  pub begun_none : is_block m root ≡ false → begun m root ≡ found [] (replicate m 0)
  unfolding begun
  begun_none e = simp e

-- ---- what holds at every step
module _ (m : ℕ) where
  ways_set : (came : List ℕ) (i v : ℕ) → Ways m came → (1 < v → Block m (v / 8)) → Ways m (set came i v)
  ways_set came i v ways k j l = by_test (ltb i (length came))
      (λ t. by_eq j i
      (λ e. let s : get_or (set came i v) j 0 ≡ v = rw e (get_or-set_same came i v 0 (ltb-true i _ t)) in rw s (k (rw s at l)))
      (λ n. let s : get_or (set came i v) j 0 ≡ get_or came j 0 = get_or-set_other came i j v 0 n in rw s (ways j (rw s at l))))
      (λ t. subst (Ways m) (sym (set_out came i v (ltb-false i _ t))) ways j l)

  -- one block more, and its entry
  one_more : (f : Found) (x v : ℕ) → Block m x → came_to f.came x ≡ 0 → v ≢ 0 → (1 < v → Block m (v / 8)) → Searched m f
      → Searched m (found (f.blocks ++ (x ∷ [])) (set f.came (index x) v))
  one_more f x v b e n k s =
      let low = b.low in
      let high = b.high in
      let size = s.entries in
      let longer = length-append f.blocks (x ∷ []) in
      let more = non_zeros_more f.came (index x) v (omega arith) e n in
      record {
        entries = length-set f.came (index x) v ∙ size;
        counted = omega (arith, s.counted);
        blocks = λ i l. by_eq i (length f.blocks)
            (λ z. let g : get_or (f.blocks ++ (x ∷ [])) i 0 ≡ x = rw z (get_or-append_seam f.blocks x [] 0) in rw g b)
            (λ z. let j : i < length f.blocks = omega arith in rw (get_or-append f.blocks (x ∷ []) 0 i j) (s.blocks i j));
        ways = ways_set f.came (index x) v s.ways k;
      }

  pub meet_searched : (b w x : ℕ) (f : Found) → Block m b → w < 8 → Searched m f → Searched m (meet m b w x f)
  unfolding meet
  meet_searched b w x f k l s =
      let low = k.low in
      let here : (8 * b + w) / 8 ≡ b = omega arith in
      if_ind (Searched m) (is_block m x && eqb (came_to f.came x) 0)
      (λ t. let (j, e) = both_true (is_block m x) (eqb (came_to f.came x) 0) t in
      one_more f x (8 * b + w) (is_block_block m x j) (eqb-true _ _ e) (λ z. absurd (omega arith)) (λ g. rw here k) s)
      (λ t. s)

  visits : (n w b : ℕ) (names : ℕ → ℕ) (f : Found) → Block m b → w + n ≤ 8 → Searched m f → Searched m (visit_from n w m b names f)
  unfolding visit_from
  visits zero w b names f k l s = s
  visits (suc n) w b names f k l s = visits n (w + 1) b names (meet m b w (names w) f) k (omega arith) (meet_searched b w (names w) f k (omega arith) s)

  pub visit_searched : (b : ℕ) (names : ℕ → ℕ) (f : Found) → Block m b → Searched m f → Searched m (visit m b names f)
  visit_searched b names f k s = visits 8 0 b names f k (omega arith) s

  pub begun_searched : (root : ℕ) → Searched m (begun m root)
  unfolding begun
  begun_searched root =
      let zeros : Searched m (found [] (replicate m 0)) = record {
        entries = length-replicate m 0;
        counted = sym (non_zeros_none m);
        blocks = λ i l. absurd (omega arith);
        ways = λ i l. absurd (no_way i l);
      } in
      if_ind (Searched m) (is_block m root)
      (λ t. let k = is_block_block m root t in
      one_more (found [] (replicate m 0)) root 1 k (none_yet (index root)) (λ z. absurd (omega arith)) (λ g. absurd (omega arith)) zeros)
      (λ t. zeros)
    where
      none_yet : (i : ℕ) → ◌≡◌ {A = ℕ} (get_or (replicate m 0) i 0) 0
      none_yet i = by_test (ltb i m)
          (λ t. get_or-replicate m i 0 0 (ltb-true i m t))
          (λ t. get_or-eq_default (replicate m 0) 0 (rw (length-replicate {A = ℕ} m 0) (ltb-false i m t)))

      no_way : (i : ℕ) → 1 < get_or (replicate m 0) i 0 → ⊥
      no_way i l = let e = none_yet i in omega arith

  pub onward_searched : (n i : ℕ) (names : ℕ → ℕ → ℕ) (f : Found) → Searched m f → Searched m (onward n i m names f)
  unfolding onward
  onward_searched zero i names f s = s
  onward_searched (suc n) i names f s =
      let b = get_or f.blocks i 0 in
      if_ind (Searched m) (ltb i (length f.blocks))
      (λ t. onward_searched n (i + 1) names (visit m b (names b) f) (visit_searched b (names b) f (s.blocks i (ltb-true i _ t)) s))
      (λ t. s)

  pub search_searched : (root : ℕ) (names : ℕ → ℕ → ℕ) → Searched m (search m root names)
  unfolding search
  search_searched root names = onward_searched m 0 names (begun m root) (begun_searched root)

  -- the blocks found are no more than there are entries
  pub searched_most : {f : Found} → Searched m f → length f.blocks ≤ m
  searched_most {f} s = let l = non_zeros_most f.came in let e = s.entries in let c = s.counted in omega arith

  -- an entry that is 0 leaves room for a block
  pub searched_room : {f : Found} (i : ℕ) → Searched m f → i < m → get_or f.came i 0 ≡ 0 → length f.blocks < m
  searched_room {f} i s l e = let n = s.entries in let r = non_zeros_room f.came i (omega arith) e in let c = s.counted in omega arith
