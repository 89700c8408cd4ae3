-- The refusals on a well-formed heap: none is 8, and 7 is the free list's alone.
--     Fine r                   the refusal number r is neither 7 nor 8
--     small, large             every number below 7 is fine, and every number past 8
--     fine_if, fine_then       a choice of two, and the first of two
--     entry_fine, word_fine, place_fine, goal_fine, holder_fine, target_fine, count_fine, length_fine     the tests one by one
--     save_fine, load_fine     those of Save and Load, on any heap
--     read_fine, store_fine, root_fine     those of the calls that take nothing
--     take_wants               an allocation is refused by 7 only where no block is free
-- Assumes nothing.
use Prim.Native.Nat.{ℕ, ◌<◌}
use mathlib.Core.Path.{◌≡◌}
use mathlib.Core.Logic.{◌≢◌}
use mathlib.Core.Bool.{Bool, ◌&&◌}
use mathlib.Core.List.{List}
use native.Mathlib.Omega.{arith}
use lib.Dec.{eqb, leb}
use lib.ListN.{length}
use borrow.Author.Tests.{eqb-true}
use Rattle.machine.specs.declared.State.{State}
use Rattle.machine.specs.declared.State.TheVariants.{LiveWhite, Doomed, Grey, Black, Free, Outside}
use Rattle.std.specs.Prelude.{if◌then◌else◌}
use Rattle.machine.specs.Tests.{◌▷◌}
use Rattle.machine.specs.Block.{is_block}
use Rattle.machine.specs.Heap.{Heap}
use Rattle.machine.specs.State.{state_of, refusal_of, holder_refusal, target_refusal}
use Rattle.machine.specs.Entry.{heap_fits, entry, word_refusal, holder_place, target_place, is_block_or_none}
use Rattle.machine.specs.Read.{read_refusal}
use Rattle.machine.specs.Store.{store_refusal, root_refusal}
use Rattle.machine.specs.Allocate.{take_refusal}
use Rattle.machine.specs.Chain.{chain_length}
use Rattle.machine.specs.Work.{count_refusal}
use Rattle.machine.specs.Audit.{passes}
use Rattle.machine.specs.Image.{encode, decode, is_image}
use Rattle.machine.specs.Save.{save_refusal}
use Rattle.machine.specs.Load.{same_lengths, load_refusal}
use Rattle.machine.specs.WellFormed.{Block}
use Rattle.machine.proofs.Tests.{if_ind, by_eq}
use Rattle.machine.proofs.Entering.{ready_entry, none_or_block}
use Rattle.machine.proofs.Refusals.{word_zero, target_zero}
use Rattle.theory_promises.specs.View.{Shape}
use Rattle.theory_promises.proofs.TakingMoves.{list_first, holder_sound, target_sound}

pub record Fine (r : ℕ) : Type 0 where
  pub seven : r ≢ 7
  pub eight : r ≢ 8

pub small : (r : ℕ) → r < 7 → Fine r
small r l = record { seven = λ z. absurd (omega arith); eight = λ z. absurd (omega arith) }

pub large : (r : ℕ) → 8 < r → Fine r
large r l = record { seven = λ z. absurd (omega arith); eight = λ z. absurd (omega arith) }

pub fine_if : (t : Bool) {a b : ℕ} → Fine a → Fine b → Fine (if t then a else b)
fine_if t a b = if_ind Fine t (λ e. a) (λ e. b)

pub fine_then : (a b : ℕ) → Fine a → (a ≡ 0 → Fine b) → Fine (a ▷ b)
unfolding ◌▷◌
fine_then a b p q = if_ind Fine (eqb a 0) (λ t. q (eqb-true a 0 t)) (λ t. p)

pub count_fine : (n : ℕ) → Fine (count_refusal n)
unfolding count_refusal
count_fine n = fine_if (leb n 65535) (small 0 (omega arith)) (large 9 (omega arith))

pub length_fine : (n : ℕ) → Fine (chain_length n)
unfolding chain_length
length_fine n = fine_if (leb 1 n && leb n 256) (small 0 (omega arith)) (small 3 (omega arith))

pub load_fine : (i : List ℕ) (h : Heap) → Fine (load_refusal i h)
unfolding load_refusal
load_fine i h =
    fine_then _ _ (fine_if (is_image i) (small 0 (omega arith)) (large 10 (omega arith)))
    (λ e. fine_if (same_lengths h (decode i)) (small 0 (omega arith)) (large 13 (omega arith)))

pub save_fine : (n : ℕ) (h : Heap) → Fine (save_refusal n h)
unfolding save_refusal
save_fine n h =
    fine_then _ _ (fine_if (heap_fits h) (small 0 (omega arith)) (small 1 (omega arith)))
    (λ e. fine_then _ _ (fine_if (passes h) (small 0 (omega arith)) (large 10 (omega arith)))
    (λ q. fine_if (leb (length (encode h)) n) (small 0 (omega arith)) (large 13 (omega arith))))

pub word_fine : (m b w : ℕ) → Fine (word_refusal m b w)
unfolding word_refusal
word_fine m b w = fine_if (is_block m b && leb w 7) (small 0 (omega arith)) (small 3 (omega arith))

pub place_fine : (m b w : ℕ) → Fine (holder_place m b w)
unfolding holder_place
place_fine m b w = fine_if (eqb b 0 && eqb w 0) (small 0 (omega arith)) (word_fine m b w)

pub goal_fine : (m t : ℕ) → Fine (target_place m t)
unfolding target_place
goal_fine m t = fine_if (is_block_or_none m t) (small 0 (omega arith)) (small 4 (omega arith))

-- a block's state refuses by 5 or 6, or by 8
not_seven : (n : ℕ) → n < 7 → (s : State) → refusal_of n s ≢ 7
not_seven n l LiveWhite z = absurd (omega arith)
not_seven n l Doomed z = absurd (omega arith)
not_seven n l Grey z = absurd (omega arith)
not_seven n l Black z = absurd (omega arith)
not_seven n l Free z = absurd (omega arith)
not_seven n l Outside z = absurd (omega arith)

module _ (h : Heap) (p : Shape h) where
  abbrev m : ℕ
  m = h.regs.blocks

  pub entry_fine : Fine (entry h)
  entry_fine = let e = ready_entry h p.ready in record { seven = λ z. absurd (omega arith); eight = λ z. absurd (omega arith) }

  holder_seven : (b : ℕ) → holder_refusal h b ≢ 7
  unfolding holder_refusal
  holder_seven b = not_seven 5 (omega arith) (state_of h b)

  target_seven : (t : ℕ) → target_refusal h t ≢ 7
  unfolding target_refusal
  target_seven t = if_ind (λ (x : ℕ). x ≢ 7) (eqb t 0) (λ e z. absurd (omega arith)) (λ e. not_seven 6 (omega arith) (state_of h t))

  pub holder_fine : (b : ℕ) → Block m b → Fine (holder_refusal h b)
  holder_fine b l = record { seven = holder_seven b; eight = holder_sound h p b l }

  pub target_fine : (t : ℕ) → (t ≢ 0 → Block m t) → Fine (target_refusal h t)
  target_fine t l = record { seven = target_seven t; eight = target_sound h p t l }

  pub read_fine : (b w : ℕ) → Fine (read_refusal b w h)
  unfolding read_refusal
  read_fine b w = fine_then _ _ entry_fine (λ e. fine_then _ _ (word_fine m b w) (λ z. holder_fine b (word_zero m b w z).0))

  pub store_fine : (b w t : ℕ) → Fine (store_refusal b w t h)
  unfolding store_refusal
  store_fine b w t =
      fine_then _ _ entry_fine (λ e. fine_then _ _ (word_fine m b w) (λ z. fine_then _ _ (goal_fine m t) (λ q.
      fine_then _ _ (holder_fine b (word_zero m b w z).0) (λ o. target_fine t (none_or_block m t (target_zero m t q))))))

  pub root_fine : (t : ℕ) → Fine (root_refusal t h)
  unfolding root_refusal
  root_fine t = fine_then _ _ entry_fine (λ e. fine_then _ _ (goal_fine m t) (λ q. target_fine t (none_or_block m t (target_zero m t q))))

  pub take_wants : (b : ℕ) → take_refusal b h ≡ 7 → h.regs.count ≡ 0
  unfolding take_refusal ◌▷◌
  take_wants b e = by_eq h.regs.count 0 (λ z. z) (λ n. absurd (not_wanting n e))
    where
      not_wanting : h.regs.count ≢ 0 → take_refusal b h ≢ 7
      not_wanting n =
          if_ind (λ (x : ℕ). x ≢ 7) (eqb (if eqb b 0 then 0 else holder_refusal h b) 0)
          (λ t z. let q = list_first h p n in absurd (omega arith))
          (λ t. if_ind (λ (x : ℕ). x ≢ 7) (eqb b 0) (λ s z. absurd (omega arith)) (λ s. holder_seven b))
