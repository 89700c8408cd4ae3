-- Laws of a search in two buffers.
--     so_far_length, given     as many blocks lie in the queue as were found; what lies there is what is given
--     found_block, room        the block at a place of the queue that is in use; an entry that is 0 leaves a place
--     met_new, met_old, met_none     a word looked at: what it names is found, was found before, is no block
--     lies_again               what a function gave lies in the buffers
--     visit_step               a turn of the loop over a block's words
--     zeros_as, zeros_length   a buffer that was cleared
--     begins, begins_nowhere   where the search begins
--     whole                    the whole search
--     search_start, search_step, search_end     the loop over the queue: its start, a turn of it, and its end
-- Assumes nothing.
use Prim.Native.Nat.{ℕ, suc, ◌+◌, ◌-◌, ◌*◌, ◌%◌, ◌^◌, ◌≤◌, ◌<◌}
use mathlib.Core.Path.{◌≡◌, refl, sym, ◌∙◌, subst}
use mathlib.Core.Logic.{◌≢◌}
use mathlib.Core.Bool.{true, false}
use mathlib.Core.List.{List, [], ◌∷◌}
use native.Mathlib.Omega.{arith}
use native.Mathlib.Numerals.{add-one}
use lib.Count.{count_trailing_zeros}
use lib.ListN.{length, get_or, take, set, replicate, length-append, length-replicate}
use lib.Seq.{length-take-le, take-suc-set, get_or-take}
use Rattle.machine.specs.Block.{is_block, eight_words, byte_of}
use Rattle.machine.specs.WellFormed.{Block}
use Rattle.machine.specs.Search.{named_in, Found, meet, visit, onward, begun, search}
use Rattle.machine.specs.Searched.{Searched}
use Rattle.machine.proofs.Blocks.{is_block_block, wrapped_block, wrapped_none}
use Rattle.machine.proofs.Searching.{meet_new, meet_old, meet_none, visit_on, onward_on, onward_end, begun_root, begun_none, searched_most, searched_room}
use Rattle.part_search.specs.Lying.{so_far, Lies, Gives, named_by}

module _ {m n : ℕ} {queue came : List ℕ} (l : Lies m n queue came) where
  pub so_far_length : length (take n queue) ≡ n
  so_far_length = let p = l.places in let w = l.within in length-take-le n queue (omega arith)

  pub given : {f : Found} → so_far n queue came ≡ f → Gives n queue came f
  given e = (subst (λ (f : Found). n ≡ length f.blocks) e (sym so_far_length), e)

  pub found_block : (i : ℕ) → i < n → Block m (get_or queue i 0)
  found_block i h = rw (get_or-take n queue i 0 h) at (l.searched.blocks i (omega (arith, so_far_length)))

  pub room : (i : ℕ) → i < m → get_or came i 0 ≡ 0 → n < m
  room i h e = let r = searched_room m i l.searched h e in omega (arith, so_far_length)

  -- x - 2 in 32 bits is i
  module _ (b w x i : ℕ) (f : x < 4294967296) (h : m ≤ 16384) (e : i ≡ (x + 4294967294) % 4294967296) where
    pub met_new : i < m → get_or came i 0 ≡ 0 → Gives (n + 1) (set queue n x) (set came i (8 * b + w)) (meet m b w x (so_far n queue came))
    met_new g z =
        let (o, k, at) = wrapped_block m x i f h e g in
        let r = room i g z in
        let p = l.places in
        let q = take-suc-set queue n x (omega arith) in
        rw (meet_new m b w x (so_far n queue came) k (rw at at z), at, add-one n, q) ((rw (length-append (take n queue) (x ∷ [])) (omega (arith, so_far_length))), refl)

    pub met_old : i < m → get_or came i 0 ≢ 0 → Gives n queue came (meet m b w x (so_far n queue came))
    met_old g z =
        let (o, k, at) = wrapped_block m x i f h e g in
        given (sym (meet_old m b w x (so_far n queue came) k (rw at at z)))

    pub met_none : m ≤ i → Gives n queue came (meet m b w x (so_far n queue came))
    met_none g = given (sym (meet_none m b w x (so_far n queue came) (wrapped_none m x i f h e g)))

pub lies_again : {m n : ℕ} {queue came : List ℕ} {f : Found} → length queue ≡ m → Gives n queue came f → Searched m f → Lies m n queue came
lies_again {m} {n} {queue} {came} p g s = record {
  places = p;
  within = let k = searched_most m s in let q = g.0 in omega arith;
  searched = subst (Searched m) (sym g.1) s;
}

-- ---- a block's words, from set bit to set bit
module _ (m b : ℕ) (part : List ℕ) (rest t : ℕ) (l : rest < 256) (n : rest ≢ 0) (e : t ≡ count_trailing_zeros 32 rest) where
  pub visit_step : (f : Found) {g h : Found} → h ≡ visit m b (named_in part rest) f → g ≡ meet m b t (get_or part t 0) f
      → h ≡ visit m b (named_in part (rest - 1 * 2 ^ t % 4294967296)) g
  visit_step f i j = i ∙ visit_on m b part rest t l n e f ∙ rw j refl

-- ---- the blocks found, one after another
module _ {m n : ℕ} {came : List ℕ} (e : came ≡ replicate n 0) (k : n ≡ m) where
  pub zeros_as : came ≡ replicate m 0
  zeros_as = rw (e, k) refl

  pub zeros_length : length came ≡ m
  zeros_length = rw (zeros_as, length-replicate {A = ℕ} m 0) refl

module _ (m root : ℕ) (queue : List ℕ) (k : length queue ≡ m) where
  pub begins : {came : List ℕ} → is_block m root ≡ true → came ≡ replicate m 0
      → Gives 1 (set queue 0 root) (set came (root - 2) 1) (begun m root)
  begins i e =
      let b = is_block_block m root i in
      let low = b.low in
      let high = b.high in
      rw (begun_root m root i, e, take-suc-set queue 0 root (omega arith)) (refl, refl)

  pub begins_nowhere : {came : List ℕ} → is_block m root ≡ false → came ≡ replicate m 0 → Gives 0 queue came (begun m root)
  begins_nowhere i e = rw (begun_none m root i, e) (refl, refl)

module _ (m root : ℕ) (words bytes : List ℕ) where
  abbrev pub whole : Found
  whole = search m root (named_by words bytes)

  pub search_start : {f : Found} → f ≡ begun m root → whole ≡ onward (m - 0) 0 m (named_by words bytes) f
  unfolding search
  search_start e = let z : m - 0 ≡ m = omega arith in rw (z, e) refl

module _ (m : ℕ) (words bytes : List ℕ) (n i : ℕ) {queue came : List ℕ} (l : Lies m n queue came) where
  abbrev names : ℕ → ℕ → ℕ
  names = named_by words bytes

  pub search_step : {part : List ℕ} {g h : Found} → h ≡ onward (m - i) i m names (so_far n queue came) → i < n → part ≡ eight_words words (get_or queue i 0)
      → g ≡ visit m (get_or queue i 0) (named_in part (byte_of bytes (get_or queue i 0))) (so_far n queue came)
      → h ≡ onward (m - (i + 1)) (i + 1) m names g
  search_step e o p v =
      let w = l.within in
      let s : m - i ≡ suc (m - (i + 1)) = omega arith in
      let at : get_or (take n queue) i 0 ≡ get_or queue i 0 = get_or-take n queue i 0 o in
      rw (e, s, onward_on m names (m - (i + 1)) i (so_far n queue came) (omega (arith, so_far_length l)), at, v, p) refl

  pub search_end : {h : Found} → h ≡ onward (m - i) i m names (so_far n queue came) → n ≤ i → Gives n queue came h
  search_end e o = given l (sym (e ∙ onward_end m names (m - i) i (so_far n queue came) (omega (arith, so_far_length l))))
