-- A field that was stored reads back, and all else reads as before.
--     number_reads_back, reference_reads_back     NumberReadsBack, ReferenceReadsBack
--     number_fields_stay, reference_fields_stay     FieldsStay of the two stores
--     number_words_stay, reference_words_stay     WordsStay of the two stores
--     fields_apart             FieldsApart
-- A store that is done writes a word that is no link, so that each walk goes as before (`Writing`); one that is refused writes nothing.
-- Assumes nothing.
use Prim.Native.Nat.{ℕ, ◌/◌, ◌%◌, ◌<◌}
use mathlib.Core.Path.{◌≡◌, refl, sym, ◌∙◌, ap}
use mathlib.Core.Logic.{◌≢◌}
use native.Mathlib.Omega.{arith}
use lib.Seq.{get_or-set_same}
use borrow.Author.Tests.{eq-eqb, ne_eqb}
use Rattle.machine.specs.Tests.{◌▷◌}
use Rattle.machine.specs.State.{target_refusal}
use Rattle.machine.specs.Entry.{entry, word_refusal, target_place}
use Rattle.machine.specs.Block.{index, place, byte_of, with_bit, without_bit}
use Rattle.machine.specs.Heap.{Heap}
use Rattle.machine.specs.Answers.{done, unless}
use Rattle.machine.specs.Read.{read_refusal, read_answer, read_refused, read}
use Rattle.machine.specs.Store.{barrier, put_number, put_reference}
use Rattle.machine.specs.Field.{field_place, walk_refusal, field_block, field_refusal, read_field, store_field_number, field_store_refusal, store_field_reference}
use Rattle.machine.specs.WellFormed.{Block}
use Rattle.machine.proofs.Tests.{by_eq}
use Rattle.machine.proofs.Refusals.{Readable, readable}
use Rattle.machine.proofs.Reading.{place_within, index_within}
use Rattle.machine.proofs.Bytes.{set_here, clear_here}
use Rattle.machine.proofs.Entering.{first_zero}
use Rattle.machine.proofs.Fields.{field_readable, field_storable}
use Rattle.theory_objects.specs.Objects.{reads_as, NumberReadsBack, ReferenceReadsBack, FieldsStay, WordsStay, FieldsApart}
use Rattle.theory_objects.proofs.Writing.{Wrote, wrote_number, wrote_reference, wrote_after, barrier_unseen, barrier_words, barrier_bytes, tests_same, answer_same, entry_same, block_same, refusal_same}

-- what a call that may be refused leaves: x where it is done, else the heap as it was
left : (P : Heap → Type 0) (n : ℕ) (h x : Heap) → P h → (n ≡ 0 → P x) → P (unless n h (done 0 x)).heap
unfolding unless
left P n h x p q = by_eq n 0 (λ z. simp (eq-eqb n 0 z) (q z)) (λ z. simp (ne_eqb n 0 z) p)

-- it is done where its answer has refusal 0
done_zero : (n : ℕ) (h x : Heap) → (unless n h (done 0 x)).answer.refusal ≡ 0 → n ≡ 0
unfolding unless
done_zero n h x e = by_eq n 0 (λ z. z) (λ z. simp (ne_eqb n 0 z) at e)

-- ---- what stays, where a word that is no link was written
module _ {h p : Heap} {c w : ℕ} (l : Block h.regs.blocks c) (n : w < 7) (d : Wrote c w h p) where
  field_stays : (a j : ℕ) → (field_block (j / 7) a h ≡ c → j % 7 ≢ w) → (read_field a j p).answer ≡ (read_field a j h).answer
  unfolding read_field
  field_stays a j o =
      by_eq (field_refusal a j h) 0
      (λ z.
      let r = field_readable h a j (field_block (j / 7) a h) refl z in
      simp (eq-eqb (field_refusal a j p) 0 (refusal_same d n a j ∙ z), eq-eqb (field_refusal a j h) 0 z)
      (rw (block_same d n (j / 7) a) (answer_same d (field_block (j / 7) a h) (j % 7) r.low (λ i. o (let b = r.block in omega arith)))))
      (λ z. simp (ne_eqb (field_refusal a j p) 0 (λ y. z (sym (refusal_same d n a j) ∙ y)), ne_eqb (field_refusal a j h) 0 z) (ap read_refused (refusal_same d n a j)))

  word_refusal_same : (a u : ℕ) → read_refusal a u p ≡ read_refusal a u h
  unfolding read_refusal
  word_refusal_same a u = tests_same (entry_same d) (tests_same (ap (λ (m : ℕ). word_refusal m a u) d.unseen.blocks) (d.unseen.holder a))

  word_stays : (a u : ℕ) → (a ≡ c → u ≢ w) → (read a u p).answer ≡ (read a u h).answer
  unfolding read
  word_stays a u o =
      by_eq (read_refusal a u h) 0
      (λ z.
      let r = readable h a u z in
      simp (eq-eqb (read_refusal a u p) 0 (word_refusal_same a u ∙ z), eq-eqb (read_refusal a u h) 0 z)
      (answer_same d a u r.low (λ i. o (let b = r.block in omega arith))))
      (λ z. simp (ne_eqb (read_refusal a u p) 0 (λ y. z (sym (word_refusal_same a u) ∙ y)), ne_eqb (read_refusal a u h) 0 z) (ap read_refused (word_refusal_same a u)))

-- ---- the two stores
module _ (h : Heap) (b k v : ℕ) where
  abbrev at : ℕ
  at = field_block (k / 7) b h

  low : k % 7 < 7
  low = omega arith

  number_wrote : field_refusal b k h ≡ 0 → Wrote at (k % 7) h (put_number at (k % 7) v h)
  number_wrote z = wrote_number h at (k % 7) v (field_readable h b k at refl z)

  -- the heap on which the word is written has the same words and bytes
  after_barrier : field_store_refusal b k v h ≡ 0 → Readable (barrier v h) at (k % 7)
  after_barrier z =
      let r = field_storable h b k at refl v z in
      let s = barrier_unseen v h r.ready in
      record { ready = s.ready; block = rw s.blocks r.block; low = r.low }

  reference_wrote : field_store_refusal b k v h ≡ 0 → Wrote at (k % 7) h (put_reference at (k % 7) v (barrier v h))
  reference_wrote z =
      wrote_after (barrier_unseen v h (field_storable h b k at refl v z).ready) (barrier_words v h) (barrier_bytes v h)
      (wrote_reference (barrier v h) at (k % 7) v (after_barrier z))

pub number_fields_stay : FieldsStay store_field_number
unfolding store_field_number
number_fields_stay h b k v a j o =
    left (λ x. (read_field a j x).answer ≡ (read_field a j h).answer) (field_refusal b k h) h _ refl
    (λ z. field_stays (field_readable h b k (at h b k v) refl z).block (low h b k v) (number_wrote h b k v z) a j o)

pub reference_fields_stay : FieldsStay store_field_reference
unfolding store_field_reference
reference_fields_stay h b k v a j o =
    left (λ x. (read_field a j x).answer ≡ (read_field a j h).answer) (field_store_refusal b k v h) h _ refl
    (λ z. field_stays (field_storable h b k (at h b k v) refl v z).block (low h b k v) (reference_wrote h b k v z) a j o)

pub number_words_stay : WordsStay store_field_number
unfolding store_field_number
number_words_stay h b k v a w o =
    left (λ x. (read a w x).answer ≡ (read a w h).answer) (field_refusal b k h) h _ refl
    (λ z. word_stays (field_readable h b k (at h b k v) refl z).block (low h b k v) (number_wrote h b k v z) a w o)

pub reference_words_stay : WordsStay store_field_reference
unfolding store_field_reference
reference_words_stay h b k v a w o =
    left (λ x. (read a w x).answer ≡ (read a w h).answer) (field_store_refusal b k v h) h _ refl
    (λ z. word_stays (field_storable h b k (at h b k v) refl v z).block (low h b k v) (reference_wrote h b k v z) a w o)

-- ---- what was stored reads back
-- a word just written
number_written : (h : Heap) (a w v : ℕ) → Readable h a w → read_answer a w (put_number a w v h) ≡ reads_as v 0
unfolding read_answer put_number
number_written h a w v d =
    rw (
      get_or-set_same h.words (place a w) v 0 (place_within d),
      get_or-set_same h.bytes (index a) (without_bit (byte_of h.bytes a) w) 0 (index_within d),
      clear_here (byte_of h.bytes a) w,
    ) refl

reference_written : (h : Heap) (a w v : ℕ) → Readable h a w → read_answer a w (put_reference a w v h) ≡ reads_as v 1
unfolding read_answer put_reference
reference_written h a w v d =
    rw (
      get_or-set_same h.words (place a w) v 0 (place_within d),
      get_or-set_same h.bytes (index a) (with_bit (byte_of h.bytes a) w) 0 (index_within d),
      set_here (byte_of h.bytes a) w,
    ) refl

-- the field that was written is where it was
field_back : {h p : Heap} (b k : ℕ) → field_refusal b k h ≡ 0 → Wrote (field_block (k / 7) b h) (k % 7) h p → (read_field b k p).answer ≡ read_answer (field_block (k / 7) b h) (k % 7) p
unfolding read_field
field_back {h} {p} b k z d =
    let n : k % 7 < 7 = omega arith in
    simp (eq-eqb (field_refusal b k p) 0 (refusal_same d n b k ∙ z)) (rw (block_same d n (k / 7) b) refl)

pub number_reads_back : NumberReadsBack
unfolding store_field_number unless
number_reads_back h b k v e =
    let z = done_zero (field_refusal b k h) h (put_number (at h b k v) (k % 7) v h) e in
    simp (eq-eqb (field_refusal b k h) 0 z)
    (field_back b k z (number_wrote h b k v z) ∙ number_written h (at h b k v) (k % 7) v (field_readable h b k (at h b k v) refl z))

-- where Store field reference is not refused, Read field isn't
store_reads : (h : Heap) (b k t : ℕ) → field_store_refusal b k t h ≡ 0 → field_refusal b k h ≡ 0
unfolding field_store_refusal field_refusal ◌▷◌
store_reads h b k t e =
    let m = h.regs.blocks in
    let a = first_zero (entry h) (field_place m b k ▷ target_place m t ▷ walk_refusal (k / 7) b h ▷ target_refusal h t) e in
    let p = first_zero (field_place m b k) (target_place m t ▷ walk_refusal (k / 7) b h ▷ target_refusal h t) a.1 in
    let q = first_zero (target_place m t) (walk_refusal (k / 7) b h ▷ target_refusal h t) p.1 in
    simp (a.0, p.0, (first_zero (walk_refusal (k / 7) b h) (target_refusal h t) q.1).0)

pub reference_reads_back : ReferenceReadsBack
unfolding store_field_reference unless
reference_reads_back h b k t e =
    let z = done_zero (field_store_refusal b k t h) h (put_reference (at h b k t) (k % 7) t (barrier t h)) e in
    simp (eq-eqb (field_store_refusal b k t h) 0 z)
    (field_back b k (store_reads h b k t z) (reference_wrote h b k t z) ∙ reference_written (barrier t h) (at h b k t) (k % 7) t (after_barrier h b k t z))

pub fields_apart : FieldsApart
fields_apart h b n k j s l m o e z = o (let i = s (j / 7) (k / 7) (omega arith) (omega arith) e in omega arith)
