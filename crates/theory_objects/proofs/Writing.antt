-- A word written in a block, and what the calls see of the heap afterwards.
--     Unseen h k               no refusal tells k from h.        none_seen     h itself
--     barrier_unseen           the barrier is unseen.        barrier_words, barrier_bytes     it leaves the words and the bytes
--     Wrote a w h k            k is h with word w of the block a written, which no refusal sees
--     wrote_number, wrote_reference     a number and a reference written
--     wrote_after              unseen changes before it
--     tests_same               two tests in a row that answer as before
--     entry_same, block_same, refusal_same     tests 1 and 2 and each walk go as before, where the word is no link
--     answer_same              another word reads as before
-- Assumes nothing.
use Prim.Native.Nat.{ℕ, zero, suc, ◌/◌, ◌≤◌, ◌<◌}
use mathlib.Core.Path.{◌≡◌, refl, sym, ◌∙◌, ap}
use mathlib.Core.Logic.{◌≢◌}
use mathlib.Core.List.{List}
use native.Mathlib.Omega.{arith}
use lib.Dec.{eqb}
use lib.ListN.{length, set, length-set}
use lib.Seq.{get_or-set_same, get_or-set_other}
use borrow.Author.Tests.{eqb-true, ne_eqb}
use Rattle.machine.specs.declared.Colour.{Colour}
use Rattle.machine.specs.declared.Colour.TheVariants.{White, Grey, Black, Free, Outside}
use Rattle.machine.specs.Tests.{◌▷◌}
use Rattle.machine.specs.Registers.{marking, sweeping}
use Rattle.machine.specs.Block.{index, place, word_of, byte_of, bit, with_bit, without_bit}
use Rattle.machine.specs.Colouring.{Colouring, white_colour, to_grey, grey_white}
use Rattle.machine.specs.Heap.{Heap, heap, colouring, with_colouring, colour_of}
use Rattle.machine.specs.State.{ahead, state_from, state_in, state_of, refusal_of, holder_refusal}
use Rattle.machine.specs.Read.{read_answer}
use Rattle.machine.specs.Store.{barrier, put_number, put_reference}
use Rattle.machine.specs.Chain.{link}
use Rattle.machine.specs.Field.{field_place, next_of, field_block, link_refusal, walk_refusal, field_refusal}
use Rattle.machine.specs.Entry.{entry}
use Rattle.machine.specs.WellFormed.{Block}
use Rattle.machine.specs.Ready.{Ready}
use Rattle.machine.proofs.Tests.{by_eq, if_ind}
use Rattle.machine.proofs.Hues.{tests_white}
use Rattle.machine.proofs.Steps.{never}
use Rattle.machine.proofs.Linked.{linked}
use Rattle.machine.proofs.Bytes.{set_there, clear_there}
use Rattle.machine.proofs.Refusals.{Readable}
use Rattle.machine.proofs.Entering.{ready_entry}
use Rattle.machine.proofs.Setting.{ready_words, ready_bytes}
use Rattle.machine.proofs.Kept.{recoloured_kept, colouring_fits}

-- both heaps pass tests 1 and 2, with as many blocks, and every block stands as it stood
pub record Unseen (h k : Heap) : Type 0 where
  pub blocks : k.regs.blocks ≡ h.regs.blocks
  pub before : Ready h
  pub ready : Ready k
  pub holder : (b : ℕ) → holder_refusal k b ≡ holder_refusal h b

pub none_seen : {h : Heap} → Ready h → Unseen h h
none_seen d = record { blocks = refl; before = d; ready = d; holder = λ b. refl }

-- ---- the barrier
-- while marking, a block that is white or grey may be read and written
stands_white : (h : Heap) (b : ℕ) → h.regs.phase ≡ marking → colour_of h b ≡ White → holder_refusal h b ≡ 0
unfolding holder_refusal state_in state_from ahead
stands_white h b p e = simp (e, ne_eqb h.regs.phase sweeping (λ z. absurd (omega arith)))

stands_grey : (h : Heap) (b : ℕ) → colour_of h b ≡ Grey → holder_refusal h b ≡ 0
unfolding holder_refusal state_in state_from
stands_grey h b e = simp e

-- a block's state goes by its colour, the phase and the position
state_same : (h k : Heap) (b : ℕ) → k.regs.phase ≡ h.regs.phase → k.regs.position ≡ h.regs.position → colour_of k b ≡ colour_of h b → state_of k b ≡ state_of h b
unfolding state_in state_from ahead
state_same h k b p q e = ap (state_from k.regs b) e ∙ go (colour_of h b)
  where
    go : (c : Colour) → state_from k.regs b c ≡ state_from h.regs b c
    go White = rw (p, q) refl
    go Grey = refl
    go Black = refl
    go Free = refl
    go Outside = refl

stands_same : (h k : Heap) (b : ℕ) → state_of k b ≡ state_of h b → holder_refusal k b ≡ holder_refusal h b
unfolding holder_refusal
stands_same h k b e = ap (refusal_of 5) e

-- a white block greyed while marking: it may be read and written as before
module _ (t : ℕ) (h : Heap) (d : Ready h) (p : h.regs.phase ≡ marking) (c : colour_of h t ≡ White) where
  abbrev greyer : Heap
  greyer = with_colouring (to_grey t (colouring h)) h

  block : Block h.regs.blocks t
  block = linked.inside (colouring h) t (λ o. never (cc))

  holder_greyed : (b : ℕ) → holder_refusal greyer b ≡ holder_refusal h b
  holder_greyed b =
      by_eq b t
      (λ i. rw i (stands_grey greyer t (linked.grey_here (colouring h) t (colouring_fits h d) block) ∙ sym (stands_white h t p c)))
      (λ n. stands_same h greyer b (state_same h greyer b refl refl (linked.grey_there (colouring h) t b block n)))

  greyed_unseen : Unseen h greyer
  greyed_unseen =
      record {
        blocks = refl;
        before = d;
        ready = recoloured_kept h d (to_grey t (colouring h)) p refl (linked.grey_keeps (colouring h) t (colouring_fits h d) block);
        holder = holder_greyed;
      }

pub barrier_unseen : (t : ℕ) (h : Heap) → Ready h → Unseen h (barrier t h)
unfolding barrier grey_white
barrier_unseen t h d =
    if_ind (Unseen h) (eqb h.regs.phase marking)
    (λ e.
    if_ind (λ (k : Colouring). Unseen h (with_colouring k h)) (white_colour (colour_of h t))
    (λ w. greyed_unseen t h d (eqb-true _ _ e) (tests_white (colour_of h t) w))
    (λ w. none_seen d))
    (λ e. none_seen d)

pub barrier_words : (t : ℕ) (h : Heap) → (barrier t h).words ≡ h.words
unfolding barrier
barrier_words t h = if_ind (λ (k : Heap). k.words ≡ h.words) (eqb h.regs.phase marking) (λ e. refl) (λ e. refl)

pub barrier_bytes : (t : ℕ) (h : Heap) → (barrier t h).bytes ≡ h.bytes
unfolding barrier
barrier_bytes t h = if_ind (λ (k : Heap). k.bytes ≡ h.bytes) (eqb h.regs.phase marking) (λ e. refl) (λ e. refl)

-- ---- a word written
pub record Wrote (a w : ℕ) (h k : Heap) : Type 0 where
  pub unseen : Unseen h k
  pub word : (b u : ℕ) → u ≤ 7 → (index b ≡ index a → u ≢ w) → word_of k.words b u ≡ word_of h.words b u
  pub bits : (b u : ℕ) → (index b ≡ index a → u ≢ w) → bit (byte_of k.bytes b) u ≡ bit (byte_of h.bytes b) u

word_there : (ws : List ℕ) (a w v b u : ℕ) → w ≤ 7 → u ≤ 7 → (index b ≡ index a → u ≢ w) → word_of (set ws (place a w) v) b u ≡ word_of ws b u
word_there ws a w v b u l m n = get_or-set_other ws (place a w) (place b u) v 0 (λ e. n (omega arith) (omega arith))

bits_there : (bs : List ℕ) (a x b u : ℕ) → index a < length bs → (index b ≡ index a → bit x u ≡ bit (byte_of bs a) u)
    → bit (byte_of (set bs (index a) x) b) u ≡ bit (byte_of bs b) u
bits_there bs a x b u l n =
    by_eq (index b) (index a)
    (λ e. rw (e, get_or-set_same bs (index a) x 0 l) (n e))
    (λ e. ap (λ (y : ℕ). bit y u) (get_or-set_other bs (index a) (index b) x 0 e))

module _ (h : Heap) (a w v : ℕ) (d : Readable h a w) where
  within : index a < length h.bytes
  within = omega arith

  written : (bs : List ℕ) → length bs ≡ length h.bytes → Unseen h (heap h.regs (set h.words (place a w) v) h.colours bs)
  unfolding holder_refusal
  written bs e =
      record {
        blocks = refl;
        before = d.ready;
        ready = ready_bytes (ready_words d.ready (set h.words (place a w) v) (simp length-set)) bs e;
        holder = λ b. refl;
      }

  pub wrote_number : Wrote a w h (put_number a w v h)
  unfolding put_number
  wrote_number =
      record {
        unseen = written _ (simp length-set);
        word = λ b u l n. word_there h.words a w v b u d.low l n;
        bits = λ b u n. bits_there h.bytes a (without_bit (byte_of h.bytes a) w) b u within (λ e. clear_there (byte_of h.bytes a) w u (n e));
      }

  pub wrote_reference : Wrote a w h (put_reference a w v h)
  unfolding put_reference
  wrote_reference =
      record {
        unseen = written _ (simp length-set);
        word = λ b u l n. word_there h.words a w v b u d.low l n;
        bits = λ b u n. bits_there h.bytes a (with_bit (byte_of h.bytes a) w) b u within (λ e. set_there (byte_of h.bytes a) w u (n e));
      }

pub wrote_after : {a w : ℕ} {h k p : Heap} → Unseen h k → k.words ≡ h.words → k.bytes ≡ h.bytes → Wrote a w k p → Wrote a w h p
wrote_after s x y d =
    record {
      unseen =
          record {
            blocks = d.unseen.blocks ∙ s.blocks;
            before = s.before;
            ready = d.unseen.ready;
            holder = λ b. d.unseen.holder b ∙ s.holder b;
          };
      word = λ b u l n. d.word b u l n ∙ ap (λ (ws : List ℕ). word_of ws b u) x;
      bits = λ b u n. d.bits b u n ∙ ap (λ (bs : List ℕ). bit (byte_of bs b) u) y;
    }

-- ---- what is seen afterwards
pub tests_same : {a b c e : ℕ} → a ≡ c → b ≡ e → a ▷ b ≡ c ▷ e
tests_same p q = rw (p, q) refl

module _ {a w : ℕ} {h k : Heap} (d : Wrote a w h k) where
  pub answer_same : (b u : ℕ) → u ≤ 7 → (index b ≡ index a → u ≢ w) → read_answer b u k ≡ read_answer b u h
  unfolding read_answer
  answer_same b u l n = rw (d.word b u l n, d.bits b u n) refl

  pub entry_same : entry k ≡ entry h
  entry_same = ready_entry k d.unseen.ready ∙ sym (ready_entry h d.unseen.before)

  module _ (n : w < 7) where
    next_same : (b : ℕ) → next_of k b ≡ next_of h b
    next_same b = d.word b link (omega arith) (λ e z. absurd (omega arith))

    link_same : (b : ℕ) → link_refusal b k ≡ link_refusal b h
    unfolding link_refusal
    link_same b = rw (d.bits b link (λ e z. absurd (omega arith)), next_same b, d.unseen.blocks) refl

    pub block_same : (j b : ℕ) → field_block j b k ≡ field_block j b h
    unfolding field_block
    block_same zero b = refl
    block_same (suc j) b = rw (next_same b) (block_same j (next_of h b))

    walk_same : (j b : ℕ) → walk_refusal j b k ≡ walk_refusal j b h
    unfolding walk_refusal
    walk_same zero b = d.unseen.holder b
    walk_same (suc j) b = tests_same (d.unseen.holder b) (tests_same (link_same b) (ap (λ (c : ℕ). walk_refusal j c k) (next_same b) ∙ walk_same j (next_of h b)))

    pub refusal_same : (b j : ℕ) → field_refusal b j k ≡ field_refusal b j h
    unfolding field_refusal
    refusal_same b j = tests_same entry_same (tests_same (ap (λ (m : ℕ). field_place m b j) d.unseen.blocks) (walk_same (j / 7) b))
