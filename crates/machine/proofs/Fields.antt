-- Laws of the fields of an object.
--     field_fits, field_high, field_no_block     the three ways of field_place.        field-zero     what its refusal number 0 establishes
--     link_number, link_null, link_off, link_on     the four ways of link_refusal.     link-zero      what its refusal number 0 establishes
--     OnWay                    a walk on its way: what the whole of it gives is what the rest of it gives
--     way_begins, way_on       its start, and a link followed
--     way_off, way_ends        where a block or its link refuses, and at the last block
--     way_block                a walk without refusal leads to a block
--     field_readable, field_storable     what a refusal number 0 of Read field and of Store field reference establishes
--     field_target             the target that Store field reference lets through
--     field_refused, field_read     the two ways of read_field
--     field_number_refused, field_number_stored     those of store_field_number
--     field_reference_refused, field_reference_stored     those of store_field_reference
--     field_reference_keeps    the registers that Store field reference keeps: all but the grey head
-- Assumes nothing.
use Prim.Native.Nat.{ℕ, zero, suc, ◌+◌, ◌/◌, ◌%◌, ◌≤◌, ◌<◌}
use mathlib.Core.Path.{◌≡◌, refl, sym, ◌∙◌}
use mathlib.Core.Logic.{◌≢◌}
use mathlib.Core.Bool.{Bool, true, false, ◌&&◌, not}
use native.Mathlib.Numerals.{add-one}
use native.Mathlib.Omega.{arith}
use lib.Dec.{leb, eqb}
use borrow.Author.Tests.{le-leb, lt-leb, eq-eqb, ne_eqb}
use Rattle.std.specs.Prelude.{if◌then◌else◌}
use Rattle.machine.specs.Tests.{◌▷◌}
use Rattle.machine.specs.Block.{is_block, byte_of, bit}
use Rattle.machine.specs.Heap.{Heap}
use Rattle.machine.specs.State.{holder_refusal, target_refusal}
use Rattle.machine.specs.declared.ReadAnswer.{ReadAnswer}
use Rattle.machine.specs.Entry.{entry, target_place}
use Rattle.machine.specs.Chain.{link}
use Rattle.machine.specs.Registers.{with_grey}
use Rattle.machine.specs.Answers.{Given, refuse, done, unless}
use Rattle.machine.specs.Read.{read_answer, read_refused}
use Rattle.machine.specs.Store.{barrier, put_number, put_reference}
use Rattle.machine.specs.Field.{field_place, next_of, field_block, link_refusal, walk_refusal, field_refusal, read_field, store_field_number, field_store_refusal, store_field_reference}
use Rattle.machine.specs.WellFormed.{Block}
use Rattle.machine.proofs.Tests.{both_true, by_eq, by_test}
use Rattle.machine.proofs.Blocks.{is_block_block}
use Rattle.machine.proofs.Entering.{first_zero, choose_zero, none_or_block, entry_ready}
use Rattle.machine.proofs.Refusals.{Readable, passes, target_zero}
use Rattle.machine.proofs.Storing.{unless_stops, unless_passes, barrier_grey}

module _ (m b k : ℕ) where
  pub field_fits : is_block m b ≡ true → k ≤ 1791 → 0 ≡ field_place m b k
  unfolding field_place
  field_fits e l = simp (e, le-leb k 1791 l)

  pub field_high : is_block m b ≡ true → 1791 < k → 3 ≡ field_place m b k
  unfolding field_place
  field_high e l = simp (e, lt-leb k 1791 l)

  pub field_no_block : is_block m b ≡ false → 3 ≡ field_place m b k
  unfolding field_place
  field_no_block e = simp e

  pub field_zero : field_place m b k ≡ 0 → Block m b
  unfolding field_place
  field_zero e =
      is_block_block m b (both_true (is_block m b) (leb k 1791) (choose_zero (is_block m b && leb k 1791) 3 (omega arith) e)).0

module _ (h : Heap) (b : ℕ) where
  pub link_number : bit (byte_of h.bytes b) link ≡ false → 3 ≡ link_refusal b h
  unfolding link_refusal
  link_number e = simp e

  pub link_null : bit (byte_of h.bytes b) link ≡ true → next_of h b ≡ 0 → 3 ≡ link_refusal b h
  unfolding link_refusal
  link_null e z = simp (e, eq-eqb (next_of h b) 0 z)

  pub link_off : bit (byte_of h.bytes b) link ≡ true → next_of h b ≢ 0 → is_block h.regs.blocks (next_of h b) ≡ false → 8 ≡ link_refusal b h
  unfolding link_refusal
  link_off e z i = simp (e, ne_eqb (next_of h b) 0 z, i)

  pub link_on : bit (byte_of h.bytes b) link ≡ true → next_of h b ≢ 0 → is_block h.regs.blocks (next_of h b) ≡ true → 0 ≡ link_refusal b h
  unfolding link_refusal
  link_on e z i = simp (e, ne_eqb (next_of h b) 0 z, i)

  pub link_zero : link_refusal b h ≡ 0 → Block h.regs.blocks (next_of h b)
  unfolding link_refusal
  link_zero e = by_test (bit (byte_of h.bytes b) link && not (eqb (next_of h b) 0))
      (λ t. is_block_block _ _ (choose_zero (is_block h.regs.blocks (next_of h b)) 8 (omega arith) (simp t at e)))
      (λ t. absurd (omega (arith, simp t at e)))

-- the first of three tests, where the first two refuse
first_two : {n : ℕ} (a b c : ℕ) → n ≡ a ▷ b → n ≢ 0 → n ≡ a ▷ b ▷ c
unfolding ◌▷◌
first_two a b c e z =
    by_eq a 0
    (λ y. simp (eq-eqb a 0 y, ne_eqb b 0 (λ x. z (simp (eq-eqb a 0 y) at e ∙ x))) (simp (eq-eqb a 0 y) at e))
    (λ y. simp (ne_eqb a 0 y) (simp (ne_eqb a 0 y) at e))

-- a walk of n links from b on that has come to the block at, with left links to follow
pub record OnWay (h : Heap) (n b left at : ℕ) : Type 0 where
  pub refusal : walk_refusal n b h ≡ walk_refusal left at h
  pub block : field_block n b h ≡ field_block left at h
  pub here : Block h.regs.blocks at

pub way_begins : (h : Heap) (n b : ℕ) → Block h.regs.blocks b → OnWay h n b n b
way_begins h n b l = record { refusal = refl; block = refl; here = l }

module _ {h : Heap} {n b left at : ℕ} (i : OnWay h n b left at) where
  pub way_on : (k next x : ℕ) → left ≡ k + 1 → x ≡ holder_refusal h at ▷ link_refusal at h → x ≡ 0 → next ≡ next_of h at → OnWay h n b k next
  unfolding walk_refusal field_block
  way_on k next x e f z g =
      let a = first_zero (holder_refusal h at) (link_refusal at h) (sym f ∙ z) in
      record {
        refusal = rw g (rw (e, add-one k) at i.refusal ∙ sym (passes {x = 0} (sym a.0) refl (passes {x = 0} (sym a.1) refl refl)));
        block = rw g (rw (e, add-one k) at i.block);
        here = rw g (link_zero h at a.1);
      }

  pub way_off : (k x : ℕ) → left ≡ k + 1 → x ≡ holder_refusal h at ▷ link_refusal at h → x ≢ 0 → x ≡ walk_refusal n b h
  unfolding walk_refusal
  way_off k x e f z =
      first_two (holder_refusal h at) (link_refusal at h) (walk_refusal k (next_of h at) h) f z ∙ sym (rw (e, add-one k) at i.refusal)

  pub way_ends : (x : ℕ) → left ≡ 0 → x ≡ holder_refusal h at → (x ≡ walk_refusal n b h) × (at ≡ field_block n b h)
  unfolding walk_refusal field_block
  way_ends x e f = (f ∙ sym (rw e at i.refusal), sym (rw e at i.block))

-- a walk without refusal leads to a block
pub way_block : (h : Heap) (j b : ℕ) → Block h.regs.blocks b → walk_refusal j b h ≡ 0 → Block h.regs.blocks (field_block j b h)
unfolding walk_refusal field_block
way_block h zero b l e = l
way_block h (suc j) b l e =
    let a = first_zero (holder_refusal h b) (link_refusal b h ▷ walk_refusal j (next_of h b) h) e in
    let p = first_zero (link_refusal b h) (walk_refusal j (next_of h b) h) a.1 in
    way_block h j (next_of h b) (link_zero h b p.0) p.1

module _ (h : Heap) (b k at : ℕ) (f : at ≡ field_block (k / 7) b h) where
  placed : entry h ≡ 0 → field_place h.regs.blocks b k ≡ 0 → walk_refusal (k / 7) b h ≡ 0 → Readable h at (k % 7)
  placed e p w = record { ready = entry_ready h e; block = rw f (way_block h (k / 7) b (field_zero _ _ k p) w); low = omega arith }

  pub field_readable : field_refusal b k h ≡ 0 → Readable h at (k % 7)
  unfolding field_refusal
  field_readable e =
      let a = first_zero (entry h) (field_place h.regs.blocks b k ▷ walk_refusal (k / 7) b h) e in
      let p = first_zero (field_place h.regs.blocks b k) (walk_refusal (k / 7) b h) a.1 in
      placed a.0 p.0 p.1

  module _ (t : ℕ) (e : field_store_refusal b k t h ≡ 0) where
    -- the tests one by one
    tested : (entry h ≡ 0) × (field_place h.regs.blocks b k ≡ 0) × (target_place h.regs.blocks t ≡ 0) × (walk_refusal (k / 7) b h ≡ 0)
    unfolding field_store_refusal
    tested =
        let m = h.regs.blocks in
        let a = first_zero (entry h) (field_place m b k ▷ target_place m t ▷ walk_refusal (k / 7) b h ▷ target_refusal h t) e in
        let p = first_zero (field_place m b k) (target_place m t ▷ walk_refusal (k / 7) b h ▷ target_refusal h t) a.1 in
        let q = first_zero (target_place m t) (walk_refusal (k / 7) b h ▷ target_refusal h t) p.1 in
        (a.0, p.0, q.0, (first_zero (walk_refusal (k / 7) b h) (target_refusal h t) q.1).0)

    pub field_storable : Readable h at (k % 7)
    field_storable = let (a, p, q, w) = tested in placed a p w

    pub field_target : t ≢ 0 → Block h.regs.blocks t
    field_target = let (a, p, q, w) = tested in none_or_block h.regs.blocks t (target_zero h.regs.blocks t q)

-- n is the refusal number that the tests answered
module _ (h : Heap) (b k : ℕ) {n : ℕ} (e : n ≡ field_refusal b k h) where
  pub field_refused : n ≢ 0 → (record { answer = read_refused n; heap = h }) ≡ read_field b k h
  unfolding read_field
  field_refused z = simp (ne_eqb (field_refusal b k h) 0 (λ y. z (e ∙ y)), e)

  pub field_read : (a : ReadAnswer) (at : ℕ) → n ≡ 0 → at ≡ field_block (k / 7) b h → a ≡ read_answer at (k % 7) h → (record { answer = a; heap = h }) ≡ read_field b k h
  unfolding read_field
  field_read a at z f g = rw (g, f) (simp (eq-eqb (field_refusal b k h) 0 (sym e ∙ z)))

  pub field_number_refused : (v : ℕ) {g : Given} → n ≢ 0 → g ≡ refuse n h → g ≡ store_field_number b k v h
  unfolding store_field_number
  field_number_refused v z f = unless_stops (done 0 (put_number (field_block (k / 7) b h) (k % 7) v h)) e z f

  pub field_number_stored : (v at : ℕ) {g : Given} (x : Heap) → n ≡ 0 → at ≡ field_block (k / 7) b h → g ≡ done 0 x → x ≡ put_number at (k % 7) v h → g ≡ store_field_number b k v h
  unfolding store_field_number
  field_number_stored v at x z l f p = unless_passes h e z (rw (f, p, l) refl)

module _ (h : Heap) (b k t : ℕ) {n : ℕ} {g : Given} (e : n ≡ field_store_refusal b k t h) where
  pub field_reference_refused : n ≢ 0 → g ≡ refuse n h → g ≡ store_field_reference b k t h
  unfolding store_field_reference
  field_reference_refused z f = unless_stops (done 0 (put_reference (field_block (k / 7) b h) (k % 7) t (barrier t h))) e z f

  pub field_reference_stored : (at : ℕ) (x y : Heap) → n ≡ 0 → at ≡ field_block (k / 7) b h → g ≡ done 0 x → x ≡ put_reference at (k % 7) t y → y ≡ barrier t h → g ≡ store_field_reference b k t h
  unfolding store_field_reference
  field_reference_stored at x y z l f p q = unless_passes h e z (rw (f, p, q, l) refl)

pub field_reference_keeps : (t : ℕ) (h : Heap) (b k : ℕ) → with_grey (store_field_reference b k t h).heap.regs.grey h.regs ≡ (store_field_reference b k t h).heap.regs
unfolding store_field_reference put_reference unless
field_reference_keeps t h b k = go (eqb (field_store_refusal b k t h) 0)
  where
    given : Bool → Given
    given x = if x then done 0 (put_reference (field_block (k / 7) b h) (k % 7) t (barrier t h)) else refuse (field_store_refusal b k t h) h

    go : (x : Bool) → with_grey (given x).heap.regs.grey h.regs ≡ (given x).heap.regs
    go true = barrier_grey t h
    go false = refl
