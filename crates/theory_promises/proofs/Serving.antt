-- Several free blocks taken in a form are acts: each block is taken for the one that names it, and then filled in.
--     act_live                 a live block stays live
--     take_new                 a block taken is live
--     barrier_none             the barrier does nothing for no target
--     Fills, form_filled       acts that fill in words of a live block
--     Orderly, chain_orderly   each block of a form is named by an earlier one, and words are words; a chain is so
--     Stage, one_served         n blocks are still to be taken; the heap after one of them
--     stage_first, stage_block, stage_allows, stage_next     how it starts; its next block, which may be taken, and how it goes on
--     served                   the acts are the taking, and each of them is allowed when it is done
--     form_takes               they take n blocks
-- The block that is taken as the block i of the form is the number i of the list xs: what was taken and filled in before has left the
-- links of the free blocks as they were. So the block that names it is one that was taken before, and is live.
-- Assumes nothing.
use Prim.Native.Nat.{ℕ, zero, suc, ◌+◌, ◌≤◌, ◌<◌}
use mathlib.Core.Path.{◌≡◌, refl, sym, ◌∙◌, ap, subst}
use mathlib.Core.Logic.{◌≢◌, inl}
use mathlib.Core.Bool.{◌&&◌}
use mathlib.Core.List.Memᴰ
use mathlib.Core.List.{List, [], ◌∷◌, ◌++◌, map, Memᴰ}
use native.Mathlib.Omega.{arith}
use lib.Dec.{eqb}
use lib.ListN.{get_or, length}
use borrow.Author.Tests.{eq-eqb, ne_eqb}
use Rattle.machine.specs.declared.Regs.{Regs}
use Rattle.machine.specs.declared.Colour.TheVariants.{Free}
use Rattle.std.specs.Prelude.{if◌then◌else◌}
use Rattle.machine.specs.Tests.{◌▷◌}
use Rattle.machine.specs.Registers.{marking}
use Rattle.machine.specs.Block.{word_of}
use Rattle.machine.specs.Heap.{Heap}
use Rattle.machine.specs.State.{state_of, holder_refusal, target_refusal}
use Rattle.machine.specs.Entry.{holder_place, target_place, is_block_or_none}
use Rattle.machine.specs.Read.{read_refusal}
use Rattle.machine.specs.Store.{barrier, put_number, put_reference, store_refusal}
use Rattle.machine.specs.Allocate.{taken, held, take_refusal}
use Rattle.machine.specs.Several.{Form, link_of, frees, first_frees, nulled, zeroed, filled, holder_of, by_word, serve}
use Rattle.machine.specs.Chain.{chain}
use Rattle.machine.specs.WellFormed.{Block, Coloured, Live, WellFormed}
use Rattle.machine.proofs.Tests.{by_eq, by_test, if_ind}
use Rattle.machine.proofs.Blocks.{block_is_block}
use Rattle.machine.proofs.Refusals.{passes, entered, word_fits, holder_as, live_unrefused}
use Rattle.machine.proofs.Allocating.{holder_zero}
use Rattle.theory_moves.specs.Heaps as heaps
use Rattle.theory_moves.proofs.Mutating.{fresh_live}
use Rattle.theory_moves.proofs.Acting.{acts_live}
use Rattle.theory_promises.specs.View.{view}
use Rattle.theory_promises.specs.Deeds.{Act, a_number, a_reference, a_take, acted, Allows, takes, an_act, deed, after, takes_in}
use Rattle.theory_promises.specs.Plans.{fill_acts, form_acts}
use Rattle.theory_promises.proofs.Viewing.{wf_shape, live_view, view_live}
use Rattle.machine.proofs.Chains.{First, first_of, not_again}
use Rattle.theory_promises.proofs.Buffers.{word_kept}
use Rattle.theory_promises.proofs.Greys.{greying_none}
use Rattle.theory_promises.proofs.TakingMoves.{take_root_lem, take_held_lem, take_count, take_next, take_links, list_first, head_count}
use Rattle.theory_promises.proofs.DeedMoves.{act_run, deed_formed}
use Rattle.theory_promises.proofs.Planning.{Made, made_join}
use Rattle.theory_promises.proofs.FirstFrees.{frees_same, frees_in}
use Rattle.machine.specs.Lists.{Distinct}
use Rattle.machine.proofs.Listing.{listed_distinct}

takes_append : (ys zs : List Act) → takes_in (map an_act (ys ++ zs)) ≡ takes_in (map an_act ys) + takes_in (map an_act zs)
takes_append [] zs = omega arith
takes_append (a ∷ ys) zs = omega (arith, takes_append ys zs)

-- what an act keeps
pub act_live : (k : Heap) → WellFormed k → (a : Act) → Allows a k → (y : ℕ) → Live k y → Live (acted a k) y
act_live k f a l y q =
    let v = act_run k (wf_shape k f) a l in
    view_live (acted a k) (subst (λ (m : ℕ). heaps.Live m (view (acted a k)) y) (sym v.blocks) (acts_live v.run v.still (live_view k q)))

pub take_new : (k : Heap) → WellFormed k → (b w : ℕ) → Allows (a_take b w) k → Live (acted (a_take b w) k) k.regs.free
unfolding acted
take_new k f b w a =
    let p = wf_shape k f in
    let v = act_run k p (a_take b w) a in
    let x = k.regs.free in
    let l = holder_zero b w refl a.0 in
    view_live (acted (a_take b w) k)
    (subst (λ (m : ℕ). heaps.Live m (view (acted (a_take b w) k)) x) (sym v.blocks)
    (by_eq b 0
    (λ z. let t = take_root_lem k p b w a.1 z in fresh_live t.steady t.taken.block t.taken.fresh)
    (λ z. let t = take_held_lem k p b w a.1 z (l z).0 (l z).1 in fresh_live t.steady t.taken.block t.taken.fresh)))

pub barrier_none : (h : Heap) → barrier 0 h ≡ h
unfolding barrier
barrier_none h = by_test (eqb h.regs.phase marking) (λ e. simp (e, greying_none)) (λ e. simp e)

pub live_holder : (k : Heap) (b : ℕ) → Live k b → holder_refusal k b ≡ 0
live_holder k b v = sym (holder_as k b 0 (state_of k b) refl (sym (live_unrefused 5 (state_of k b) v.live)))

-- words of a live block may be written
module _ (k : Heap) (f : WellFormed k) (b w : ℕ) (v : Live k b) (i : w ≤ 7) where
  pub null_allowed : Allows (a_reference b w 0) k
  unfolding store_refusal target_place target_refusal is_block_or_none
  null_allowed =
      sym (passes (entered k f.fitting f.registers) refl
      (passes (word_fits k.regs.blocks b w (block_is_block _ b v.block) i) refl
      (passes refl refl (passes (sym (live_holder k b v)) refl refl))))

  pub number_allowed : (n : ℕ) → Allows (a_number b w n) k
  unfolding read_refusal
  number_allowed n =
      sym (passes (entered k f.fitting f.registers) refl
      (passes (word_fits k.regs.blocks b w (block_is_block _ b v.block) i) refl (sym (live_holder k b v))))

  place_at : holder_place k.regs.blocks b w ≡ 0
  unfolding holder_place
  place_at = if_ind (λ (x : ℕ). x ≡ 0) (eqb b 0 && eqb w 0) (λ t. refl) (λ t. sym (word_fits k.regs.blocks b w (block_is_block _ b v.block) i))

-- acts that write words of x, from k to j
pub record Fills (x : ℕ) (ys : List Act) (k j : Heap) : Type 0 where
  pub made : Made ys k j
  pub formed : WellFormed j
  pub regs : j.regs ≡ k.regs
  pub links : (y : ℕ) → y ≢ x → Block k.regs.blocks y → link_of j y ≡ link_of k y
  pub lives : (y : ℕ) → Live k y → Live j y

fill_none : (x : ℕ) (k : Heap) → WellFormed k → Fills x [] k k
unfolding after
fill_none x k f = record { made = record { allowed = tt; whole = refl }; formed = f; regs = refl; links = λ y n l. refl; lives = λ y q. q }

fill_join : {x : ℕ} {ys zs : List Act} {k i j : Heap} → Fills x ys k i → Fills x zs i j → Fills x (ys ++ zs) k j
fill_join s t =
    record {
      made = made_join s.made t.made;
      formed = t.formed;
      regs = t.regs ∙ s.regs;
      links = λ y n l. t.links y n (subst (λ (r : Regs). Block r.blocks y) (sym s.regs) l) ∙ s.links y n l;
      lives = λ y q. t.lives y (s.lives y q);
    }

-- one act
fill_one : (x : ℕ) (a : Act) (k j : Heap) → WellFormed k → Allows a k → acted a k ≡ j → j.regs ≡ k.regs
    → ((y : ℕ) → y ≢ x → Block k.regs.blocks y → link_of j y ≡ link_of k y) → Fills x (a ∷ []) k j
unfolding after deed
fill_one x a k j f l e r s =
    record {
      made = record { allowed = (l, tt); whole = sym e };
      formed = subst WellFormed e (deed_formed k f (an_act a) l);
      regs = r;
      links = s;
      lives = λ y q. subst (λ (i : Heap). Live i y) e (act_live k f a l y q);
    }

-- one act for each word of a list
fill_all : (x : ℕ) (act : ℕ → Act) (put : ℕ → Heap → Heap) (go : List ℕ → Heap → Heap)
    → ((k : Heap) → go [] k ≡ k) → ((w : ℕ) (ws : List ℕ) (k : Heap) → go (w ∷ ws) k ≡ go ws (put w k))
    → ((w : ℕ) (k : Heap) → w ≤ 7 → WellFormed k → Live k x → Fills x (act w ∷ []) k (put w k))
    → (ws : List ℕ) → ((w : ℕ) → Memᴰ w ws → w ≤ 7) → (k : Heap) → WellFormed k → Live k x → Fills x (map act ws) k (go ws k)
fill_all x act put go z c one [] low k f v = subst (Fills x [] k) (sym (z k)) (fill_none x k f)
fill_all x act put go z c one (w ∷ ws) low k f v =
    let s = one w k (low w (Memᴰ.head refl)) f v in
    subst (Fills x (map act (w ∷ ws)) k) (sym (c w ws k))
    (fill_join {ys = act w ∷ []} {zs = map act ws} s (fill_all x act put go z c one ws (λ u i. low u (Memᴰ.tail i)) (put w k) s.formed (s.lives x v)))

module _ (x : ℕ) where
  fill_null : (w : ℕ) (k : Heap) → w ≤ 7 → WellFormed k → Live k x → Fills x (a_reference x w 0 ∷ []) k (put_reference x w 0 k)
  unfolding acted put_reference
  fill_null w k i f v =
      fill_one x (a_reference x w 0) k (put_reference x w 0 k) f (null_allowed k f x w v i) (ap (put_reference x w 0) (barrier_none k)) refl
      (λ y n l. word_kept v.block k.words w 0 y 0 i (omega arith) l (inl n))

  fill_number : (w : ℕ) (k : Heap) → w ≤ 7 → WellFormed k → Live k x → Fills x (a_number x w 0 ∷ []) k (put_number x w 0 k)
  unfolding acted put_number
  fill_number w k i f v =
      fill_one x (a_number x w 0) k (put_number x w 0 k) f (number_allowed k f x w v i 0) refl refl
      (λ y n l. word_kept v.block k.words w 0 y 0 i (omega arith) l (inl n))

  fill_nulls : (ws : List ℕ) → ((w : ℕ) → Memᴰ w ws → w ≤ 7) → (k : Heap) → WellFormed k → Live k x → Fills x (map (λ w. a_reference x w 0) ws) k (nulled ws x k)
  unfolding nulled
  fill_nulls = fill_all x (λ w. a_reference x w 0) (λ w k. put_reference x w 0 k) (λ ws k. nulled ws x k) (λ k. refl) (λ w ws k. refl) fill_null

  fill_zeros : (ws : List ℕ) → ((w : ℕ) → Memᴰ w ws → w ≤ 7) → (k : Heap) → WellFormed k → Live k x → Fills x (map (λ w. a_number x w 0) ws) k (zeroed ws x k)
  unfolding zeroed
  fill_zeros = fill_all x (λ w. a_number x w 0) (λ w k. put_number x w 0 k) (λ ws k. zeroed ws x k) (λ k. refl) (λ w ws k. refl) fill_number

-- each block is named by an earlier one, and the words named are words of a block
pub record Orderly (f : Form) : Type 0 where
  pub parent : (i : ℕ) → i ≢ 0 → f.parent i < i
  pub word : (i : ℕ) → f.word i ≤ 7
  pub nulls : (i w : ℕ) → Memᴰ w (f.nulls i) → w ≤ 7
  pub zeros : (i w : ℕ) → Memᴰ w (f.zeros i) → w ≤ 7

pub chain_orderly : Orderly chain
chain_orderly =
    record {
      parent = λ i n. omega arith;
      word = λ i. omega arith;
      nulls = λ i w m. let e = Memᴰ.eq_of_singleton m in omega arith;
      zeros = λ i w m. absurd (Memᴰ.not-nil m);
    }

-- x, the first free block, was taken and filled in by the acts ys, from k to j
record Next (x : ℕ) (ys : List Act) (k j : Heap) : Type 0 where
  made : Made ys k j
  formed : WellFormed j
  count : j.regs.count + 1 ≡ k.regs.count
  free : j.regs.free ≡ link_of k x
  links : (y : ℕ) → Coloured k Free y → y ≢ x → link_of j y ≡ link_of k y
  lives : (y : ℕ) → Live k y → Live j y
  new : Live j x

-- the free blocks after the first
module _ (k : Heap) (g : WellFormed k) (n : ℕ) (c : suc n ≤ k.regs.count) where
  abbrev x : ℕ
  x = k.regs.free

  some : x ≢ 0
  some z = absurd (omega (arith, head_count k (wf_shape k g) z))

  first : First (λ y. word_of k.words y 0) 0 x g.frees.blocks
  first = first_of g.frees.listed some

  short : n ≤ length first.rest
  short = omega (arith, g.counted, ap length first.whole)

  later : (y : ℕ) → Memᴰ y (frees n (link_of k x) k) → Memᴰ y first.rest
  later y i = frees_in k n first.listed short y i

  later_free : (y : ℕ) → Memᴰ y (frees n (link_of k x) k) → Coloured k Free y
  later_free y i = (g.frees.members y).0 (subst (λ (l : List ℕ). Memᴰ y l) (sym first.whole) (Memᴰ.tail (later y i)))

  later_apart : (y : ℕ) → Memᴰ y (frees n (link_of k x) k) → y ≢ x
  later_apart y i e =
      not_again (subst Distinct first.whole (listed_distinct g.frees.listed)) (subst (λ (z : ℕ). Memᴰ z first.rest) e (later y i))

  -- they are the free blocks once the first was taken
  rest_same : {ys : List Act} {j : Heap} → Next x ys k j → frees n j.regs.free j ≡ frees n (link_of k x) k
  rest_same {ys} {j} t =
      subst (λ (z : ℕ). frees n z j ≡ frees n (link_of k x) k) (sym t.free)
      (frees_same n (link_of k x) k j (λ y i. t.links y (later_free y i) (later_apart y i)))

-- n more are to be taken, of which the first is the block i of a form and stands at i in xs; b and w are the call's own holder
pub record Stage (b w : ℕ) (xs : List ℕ) (n i : ℕ) (k : Heap) : Type 0 where
  pub formed : WellFormed k
  pub enough : n ≤ k.regs.count
  pub spot : (j : ℕ) → j < n → get_or xs (i + j) 0 ≡ get_or (frees n k.regs.free k) j 0
  pub early : (j : ℕ) → j < i → Live k (get_or xs j 0)
  pub first : i ≡ 0 → (holder_place k.regs.blocks b w ≡ 0) × ((if eqb b 0 then 0 else holder_refusal k b) ≡ 0)

-- the heap after one of them
abbrev pub one_served : Form → ℕ → ℕ → List ℕ → ℕ → Heap → Heap
one_served f b w xs i k = filled f i k.regs.free (held (holder_of f b xs i) (by_word f w i) k.regs.free (taken k))

pub stage_block : (b w : ℕ) (xs : List ℕ) (n i : ℕ) (k : Heap) → Stage b w xs (suc n) i k → get_or xs i 0 ≡ k.regs.free
unfolding frees
stage_block b w xs n i k s = ap (λ (j : ℕ). get_or xs j 0) (omega arith) ∙ s.spot 0 (omega arith)

pub stage_first : (b w n : ℕ) (k : Heap) → WellFormed k → n ≤ k.regs.count → holder_place k.regs.blocks b w ≡ 0
    → (if eqb b 0 then 0 else holder_refusal k b) ≡ 0 → Stage b w (first_frees n k) n 0 k
unfolding first_frees
stage_first b w n k g c place holder =
    record {
      formed = g;
      enough = c;
      spot = λ j l. ap (λ (u : ℕ). get_or (frees n k.regs.free k) u 0) (omega arith);
      early = λ j l. absurd (omega arith);
      first = λ z. (place, holder);
    }

module _ (f : Form) (o : Orderly f) where
  pub form_filled : (i x : ℕ) (k : Heap) → WellFormed k → Live k x → Fills x (fill_acts f i x) k (filled f i x k)
  form_filled i x k g v =
      let s = fill_nulls x (f.nulls i) (o.nulls i) k g v in
      fill_join s (fill_zeros x (f.zeros i) (o.zeros i) (nulled (f.nulls i) x k) s.formed (s.lives x v))

  next_one : (i : ℕ) (k : Heap) → WellFormed k → (c v : ℕ) → Allows (a_take c v) k
      → Next k.regs.free (a_take c v ∷ fill_acts f i k.regs.free) k (filled f i k.regs.free (held c v k.regs.free (taken k)))
  unfolding after deed acted
  next_one i k g c v a =
      let p = wf_shape k g in
      let x = k.regs.free in
      let r = act_run k p (a_take c v) a in
      let new = take_new k g c v a in
      let s = form_filled i x (held c v x (taken k)) (deed_formed k g (an_act (a_take c v)) a) new in
      record {
        made = record { allowed = (a, s.made.allowed); whole = s.made.whole };
        formed = s.formed;
        count = ap (λ (q : Regs). q.count + 1) s.regs ∙ take_count k p c v a.1;
        free = ap (λ (q : Regs). q.free) s.regs ∙ take_next k p c v a.1;
        links = λ y fr n. s.links y n (subst (λ (m : ℕ). Block m y) (sym r.blocks) fr.block) ∙ take_links k p c v a.1 (holder_zero c v refl a.0) y fr n;
        lives = λ y q. s.lives y (act_live k g (a_take c v) a y q);
        new = s.lives x new;
      }

  module _ (b w : ℕ) (xs : List ℕ) where
    module _ (n i : ℕ) (k : Heap) (s : Stage b w xs (suc n) i k) where
      -- the holder of block i is there
      pub stage_allows : Allows (a_take (holder_of f b xs i) (by_word f w i)) k
      unfolding take_refusal ◌▷◌
      stage_allows =
          let list = list_first k (wf_shape k s.formed) (λ z. absurd (omega (arith, s.enough))) in
          by_eq i 0
          (λ e. let t = s.first e in simp (eq-eqb i 0 e) (t.0, simp (t.1, list)))
          (λ e.
          let x = get_or xs (f.parent i) 0 in
          let v = s.early (f.parent i) (o.parent i e) in
          let z : x ≢ 0 = λ q. let d = v.block.low in absurd (omega arith) in
          simp (ne_eqb i 0 e) (place_at k s.formed x (f.word i) v (o.word i), simp (ne_eqb x 0 z, live_holder k x v, list)))

      stage_taken : Next k.regs.free (a_take (holder_of f b xs i) (by_word f w i) ∷ fill_acts f i k.regs.free) k (one_served f b w xs i k)
      stage_taken = next_one i k s.formed (holder_of f b xs i) (by_word f w i) stage_allows

      pub stage_next : Stage b w xs n (i + 1) (one_served f b w xs i k)
      unfolding frees
      stage_next =
          let t = stage_taken in
          let e = stage_block b w xs n i k s in
          let same = rest_same k s.formed n s.enough t in
          record {
            formed = t.formed;
            enough = omega (arith, t.count, s.enough);
            spot = λ j l. ap (λ (u : ℕ). get_or xs u 0) (omega arith) ∙ s.spot (suc j) (omega arith) ∙ ap (λ (ys : List ℕ). get_or ys j 0) (sym same);
            early = λ j l. by_eq j i
                (λ q. subst (Live (one_served f b w xs i k)) (sym (ap (λ (u : ℕ). get_or xs u 0) q ∙ e)) t.new)
                (λ q. t.lives _ (s.early j (omega arith)));
            first = λ z. absurd (omega arith);
          }

    serves : (n i : ℕ) (k : Heap) → Stage b w xs n i k → Made (form_acts f b w xs n i) k (serve f b w xs n i k)
    unfolding form_acts serve after
    serves zero i k s = record { allowed = tt; whole = refl }
    serves (suc n) i k s =
        subst (λ (z : ℕ). Made ((a_take (holder_of f b xs i) (by_word f w i) ∷ fill_acts f i z) ++ form_acts f b w xs n (i + 1)) k (serve f b w xs n (i + 1) (one_served f b w xs i k)))
        (sym (stage_block b w xs n i k s))
        (made_join (stage_taken n i k s).made (serves n (i + 1) (one_served f b w xs i k) (stage_next n i k s)))

  pub served : (b w n : ℕ) (k : Heap) → WellFormed k → n ≤ k.regs.count → holder_place k.regs.blocks b w ≡ 0
      → (if eqb b 0 then 0 else holder_refusal k b) ≡ 0
      → Made (form_acts f b w (first_frees n k) n 0) k (serve f b w (first_frees n k) n 0 k)
  served b w n k g c place holder = serves b w (first_frees n k) n 0 k (stage_first b w n k g c place holder)

-- the blocks taken
none_taken : (act : ℕ → Act) → ((w : ℕ) → takes (act w) ≡ 0) → (ws : List ℕ) → takes_in (map an_act (map act ws)) ≡ 0
none_taken act z [] = refl
none_taken act z (w ∷ ws) = omega (arith, z w, none_taken act z ws)

pub form_takes : (f : Form) (b w : ℕ) (xs : List ℕ) (n i : ℕ) → takes_in (map an_act (form_acts f b w xs n i)) ≡ n
unfolding form_acts
form_takes f b w xs zero i = refl
form_takes f b w xs (suc n) i =
    let x = get_or xs i 0 in
    let nulls = map (λ w. a_reference x w 0) (f.nulls i) in
    let zeros = map (λ w. a_number x w 0) (f.zeros i) in
    omega (
      arith,
      takes_append (fill_acts f i x) (form_acts f b w xs n (i + 1)),
      takes_append nulls zeros,
      none_taken (λ w. a_reference x w 0) (λ w. refl) (f.nulls i),
      none_taken (λ w. a_number x w 0) (λ w. refl) (f.zeros i),
      form_takes f b w xs n (i + 1),
    )
