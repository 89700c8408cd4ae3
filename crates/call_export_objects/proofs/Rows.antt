-- A row that is refused nothing: its blocks, and its words.
--     row_chained              its blocks are within the words
--     row_words                the words of its blocks are its fields
-- Assumes nothing.
use Prim.Native.Nat.{ℕ, zero, suc, ◌+◌, ◌-◌, ◌*◌, ◌/◌, ◌%◌, ◌≤◌, ◌<◌}
use mathlib.Core.Path.{◌≡◌, refl, sym, ◌∙◌, ap, subst}
use mathlib.Core.List.{List, ◌∷◌, ◌++◌}
use native.Mathlib.Omega.{arith}
use lib.ListN.{take, drop}
use lib.Seq.{drop-cons}
use borrow.Author.Tests.{eq-eqb}
use Rattle.machine.specs.Tests.{◌▷◌}
use Rattle.machine.specs.Block.{base, word_of}
use Rattle.machine.specs.Heap.{Heap}
use Rattle.machine.specs.Entry.{entry}
use Rattle.machine.specs.Chain.{link}
use Rattle.machine.specs.State.{holder_refusal}
use Rattle.machine.specs.Read.{read_answer}
use Rattle.machine.specs.Field.{field_place, next_of, field_block, link_refusal, walk_refusal, field_refusal, read_field}
use Rattle.machine.specs.Ready.{Ready}
use Rattle.machine.specs.WellFormed.{Block}
use Rattle.machine.proofs.Entering.{first_zero, entry_ready}
use Rattle.machine.proofs.Fields.{link_zero, field_zero}
use Rattle.part_copy.specs.Chains.{Within, Chained, last, more, chain_words}
use Rattle.part_copy.proofs.Copies.{chained_first, chained_rest}
use Rattle.call_export_objects.specs.Objects.{fields_from, fields_of}
use Rattle.call_export_objects.proofs.Walks.{block_splits, row_field}

module _ (h : Heap) where
  within : Ready h → (b : ℕ) → Block h.regs.blocks b → Within b h.words
  within d b l = record { low = l.low; high = omega arith }

  walk_chained : Ready h → (j b : ℕ) → Block h.regs.blocks b → walk_refusal j b h ≡ 0 → Chained j b h.words
  unfolding walk_refusal
  walk_chained d zero b l e = last (within d b l)
  walk_chained d (suc j) b l e =
      let a = first_zero (holder_refusal h b) (link_refusal b h ▷ walk_refusal j (next_of h b) h) e in
      let p = first_zero (link_refusal b h) (walk_refusal j (next_of h b) h) a.1 in
      more (within d b l) (walk_chained d j (next_of h b) (link_zero h b p.0) p.1)

  pub row_chained : (b n : ℕ) → field_refusal b (n - 1) h ≡ 0 → Chained ((n - 1) / 7) b h.words
  unfolding field_refusal
  row_chained b n e =
      let a = first_zero (entry h) (field_place h.regs.blocks b (n - 1) ▷ walk_refusal ((n - 1) / 7) b h) e in
      let p = first_zero (field_place h.regs.blocks b (n - 1)) (walk_refusal ((n - 1) / 7) b h) a.1 in
      walk_chained (entry_ready h a.0) ((n - 1) / 7) b (field_zero _ _ (n - 1) p.0) p.1

  -- some fields and those behind them
  fields_split : (n m k b : ℕ) → fields_from (n + m) k b h ≡ fields_from n k b h ++ fields_from m (k + n) b h
  unfolding fields_from
  fields_split zero m k b = let z : 0 + m ≡ m = omega arith in let y : k + 0 ≡ k = omega arith in rw (z, y) refl
  fields_split (suc n) m k b =
      let z : suc n + m ≡ suc (n + m) = omega arith in
      let y : k + 1 + n ≡ k + suc n = omega arith in
      rw z (ap (λ (r : List ℕ). (read_field b k h).answer.value ∷ r) (fields_split n m (k + 1) b ∙ (rw y refl)))

  next_is : (at : ℕ) → field_block 1 at h ≡ word_of h.words at link
  unfolding field_block
  next_is at = refl

  module _ (b total : ℕ) (most : total ≤ 1792) (z : field_refusal b (total - 1) h ≡ 0) where
    field_value : (j t : ℕ) → t < 7 → 7 * j + t < total → (read_field b (7 * j + t) h).answer.value ≡ word_of h.words (field_block j b h) t
    unfolding read_field read_answer
    field_value j t l m =
        let e = row_field h b total (7 * j + t) m most z in
        let q : (7 * j + t) / 7 ≡ j = omega arith in
        let r : (7 * j + t) % 7 ≡ t = omega arith in
        simp (eq-eqb (field_refusal b (7 * j + t) h) 0 e, q, r)

    -- fields of one block
    fields_part : (n j t : ℕ) → t + n ≤ 7 → 7 * j + t + n ≤ total → Within (field_block j b h) h.words
        → fields_from n (7 * j + t) b h ≡ take n (drop (base (field_block j b h) + t) h.words)
    unfolding fields_from
    fields_part zero j t l m d = refl
    fields_part (suc n) j t l m d =
        let at = field_block j b h in
        let o = d.high in
        let y : 7 * j + t + 1 ≡ 7 * j + (t + 1) = omega arith in
        let p : base at + (t + 1) ≡ suc (base at + t) = omega arith in
        rw (field_value j t (omega arith) (omega arith), y, fields_part n j (t + 1) (omega arith) (omega arith) d, p, drop-cons h.words (base at + t) 0 (omega arith)) refl

    chain_fields : (l n j : ℕ) → Chained l (field_block j b h) h.words → 7 * l < n → n ≤ 7 * l + 7 → 7 * j + n ≤ total
        → chain_words l n (field_block j b h) h.words ≡ fields_from n (7 * j) b h
    unfolding chain_words
    chain_fields zero n j c o p q =
        let at = field_block j b h in
        let y : 7 * j + 0 ≡ 7 * j = omega arith in
        let x : base at + 0 ≡ base at = omega arith in
        sym (rw (y, x) at (fields_part n j 0 (omega arith) (omega arith) (chained_first c)))
    chain_fields (suc l) n j c o p q =
        let at = field_block j b h in
        let y : 7 * j + 0 ≡ 7 * j = omega arith in
        let x : base at + 0 ≡ base at = omega arith in
        let s : take 7 (drop (base at) h.words) ≡ fields_from 7 (7 * j) b h = sym (rw (y, x) at (fields_part 7 j 0 (omega arith) (omega arith) (chained_first c))) in
        let f : word_of h.words at link ≡ field_block (j + 1) b h = sym (block_splits h j 1 b ∙ next_is at) in
        let c' : Chained l (field_block (j + 1) b h) h.words = subst (λ (x : ℕ). Chained l x h.words) f (chained_rest c) in
        let k : 7 * (j + 1) ≡ 7 * j + 7 = omega arith in
        let r : chain_words l (n - 7) (word_of h.words at link) h.words ≡ fields_from (n - 7) (7 * j + 7) b h =
        rw f (chain_fields l (n - 7) (j + 1) c' (omega arith) (omega arith) (omega arith) ∙ (rw k refl)) in
        let m : 7 + (n - 7) ≡ n = omega arith in
        rw (s, r) (sym (rw m at (fields_split 7 (n - 7) (7 * j) b)))

  pub row_words : (b n : ℕ) → 1 ≤ n → n ≤ 1792 → field_refusal b (n - 1) h ≡ 0 → chain_words ((n - 1) / 7) n b h.words ≡ fields_of n b h
  unfolding field_block
  row_words b n o m z = chain_fields b n m z ((n - 1) / 7) n 0 (row_chained b n z) (omega arith) (omega arith) (omega arith)
