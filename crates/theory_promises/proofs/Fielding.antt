-- The walk to a field: the block that it reaches is live, and on a well-formed heap neither 7 nor 8 refuses it.
--     walk_live                the block reached is live
--     walk_fine                no block of the walk is refused by 8
--     field_fine, field_allowed     Read field and Store field number
--     field_store_fine, field_store_allowed     Store field reference
-- Assumes nothing.
use Prim.Native.Nat.{ℕ, zero, suc, ◌/◌, ◌%◌, ◌<◌}
use mathlib.Core.Path.{◌≡◌, refl, sym}
use mathlib.Core.Bool.{Bool, true, false, ◌&&◌, not}
use native.Mathlib.Nat.{mod-lt}
use native.Mathlib.Omega.{arith}
use lib.Dec.{eqb, leb}
use Rattle.std.specs.Prelude.{if◌then◌else◌}
use Rattle.machine.specs.Tests.{◌▷◌}
use Rattle.machine.specs.Block.{is_block, byte_of, bit}
use Rattle.machine.specs.Heap.{Heap}
use Rattle.machine.specs.Entry.{entry, word_refusal, target_place}
use Rattle.machine.specs.State.{holder_refusal, target_refusal}
use Rattle.machine.specs.Read.{read_refusal}
use Rattle.machine.specs.Store.{store_refusal}
use Rattle.machine.specs.Chain.{link}
use Rattle.machine.specs.Field.{field_place, next_of, field_block, link_refusal, walk_refusal, field_refusal, field_store_refusal}
use Rattle.machine.specs.WellFormed.{Block, Live, WellFormed}
use Rattle.machine.proofs.Tests.{both_true, if_ind, differ, clash}
use Rattle.machine.proofs.Blocks.{is_block_block, block_is_block}
use Rattle.machine.proofs.Entering.{first_zero, choose_zero, none_or_block}
use Rattle.machine.proofs.Refusals.{passes, word_fits, holder_live, target_zero}
use Rattle.theory_promises.proofs.Viewing.{wf_shape}
use Rattle.theory_promises.proofs.Refusing.{Fine, small, fine_if, fine_then, entry_fine, goal_fine, holder_fine, target_fine}
use Rattle.theory_promises.proofs.Serving.{live_holder}

field_place_lem : (m b k : ℕ) → field_place m b k ≡ 0 → Block m b
unfolding field_place
field_place_lem m b k e = is_block_block m b (both_true (is_block m b) (leb k 1791) (choose_zero (is_block m b && leb k 1791) 3 (omega arith) e)).0

place_fine : (m b k : ℕ) → Fine (field_place m b k)
unfolding field_place
place_fine m b k = fine_if (is_block m b && leb k 1791) (small 0 (omega arith)) (small 3 (omega arith))

-- the word of a field is below the link
pub field_word : (k : ℕ) → k % 7 < 7
field_word k = mod-lt k {m = 7} (omega arith)

module _ (h : Heap) where
  abbrev m : ℕ
  m = h.regs.blocks

  holder_lives : (b : ℕ) → Block m b → holder_refusal h b ≡ 0 → Live h b
  holder_lives b l e = record { block = l; live = holder_live h b e }

  link_block : (b : ℕ) → link_refusal b h ≡ 0 → Block m (next_of h b)
  unfolding link_refusal
  link_block b e = is_block_block m (next_of h b) (found (bit (byte_of h.bytes b) link && not (eqb (next_of h b) 0)) e)
    where
      found : (t : Bool) → ◌≡◌ {A = ℕ} (if t then (if is_block m (next_of h b) then 0 else 8) else 3) 0 → is_block m (next_of h b) ≡ true
      found true e = choose_zero (is_block m (next_of h b)) 8 (omega arith) e
      found false e = absurd (omega arith)

  pub walk_live : (j b : ℕ) → Block m b → walk_refusal j b h ≡ 0 → Live h (field_block j b h)
  unfolding walk_refusal field_block
  walk_live zero b l e = holder_lives b l e
  walk_live (suc j) b l e =
      let r = (first_zero (holder_refusal h b) (link_refusal b h ▷ walk_refusal j (next_of h b) h) e).1 in
      let s = first_zero (link_refusal b h) (walk_refusal j (next_of h b) h) r in
      walk_live j (next_of h b) (link_block b s.0) s.1

module _ (h : Heap) (f : WellFormed h) where
  -- a reference of a live block that isn't 0 names a block
  link_fine : (b : ℕ) → Live h b → Fine (link_refusal b h)
  unfolding link_refusal
  link_fine b v =
      if_ind Fine (bit (byte_of h.bytes b) link && not (eqb (next_of h b) 0))
      (λ t.
      let q = both_true (bit (byte_of h.bytes b) link) (not (eqb (next_of h b) 0)) t in
      let n = f.named_live b (next_of h b) v (record { word = link; low = omega arith; set = q.0; holds = refl }) (differ (next_of h b) 0 q.1) in
      if_ind Fine (is_block h.regs.blocks (next_of h b)) (λ s. small 0 (omega arith)) (λ s. clash (block_is_block _ _ n.block) s))
      (λ t. small 3 (omega arith))

  pub walk_fine : (j b : ℕ) → Block h.regs.blocks b → Fine (walk_refusal j b h)
  unfolding walk_refusal
  walk_fine zero b l = holder_fine h (wf_shape h f) b l
  walk_fine (suc j) b l =
      fine_then _ _ (holder_fine h (wf_shape h f) b l) (λ e.
      fine_then _ _ (link_fine b (holder_lives h b l e)) (λ z. walk_fine j (next_of h b) (link_block h b z)))

  module _ (b k : ℕ) where
    pub field_fine : Fine (field_refusal b k h)
    unfolding field_refusal
    field_fine =
        fine_then _ _ (entry_fine h (wf_shape h f)) (λ e.
        fine_then _ _ (place_fine h.regs.blocks b k) (λ q. walk_fine (k / 7) b (field_place_lem h.regs.blocks b k q)))

    -- the tests of the word reached
    word_reached : Live h (field_block (k / 7) b h) → {n x : ℕ} → entry h ≡ 0 → n ≡ x → n ≡ entry h ▷ word_refusal h.regs.blocks (field_block (k / 7) b h) (k % 7) ▷ x
    word_reached v e q =
        passes (sym e) refl (passes (word_fits h.regs.blocks _ (k % 7) (block_is_block _ _ v.block) (omega (arith, field_word k))) refl q)

    pub field_allowed : field_refusal b k h ≡ 0 → read_refusal (field_block (k / 7) b h) (k % 7) h ≡ 0
    unfolding field_refusal read_refusal
    field_allowed e =
        let p = first_zero (entry h) (field_place h.regs.blocks b k ▷ walk_refusal (k / 7) b h) e in
        let q = first_zero (field_place h.regs.blocks b k) (walk_refusal (k / 7) b h) p.1 in
        let v = walk_live h (k / 7) b (field_place_lem h.regs.blocks b k q.0) q.1 in
        sym (word_reached v p.0 (sym (live_holder h _ v)))

    module _ (t : ℕ) where
      pub field_store_fine : Fine (field_store_refusal b k t h)
      unfolding field_store_refusal
      field_store_fine =
          fine_then _ _ (entry_fine h (wf_shape h f)) (λ e.
          fine_then _ _ (place_fine h.regs.blocks b k) (λ q.
          fine_then _ _ (goal_fine h.regs.blocks t) (λ g.
          fine_then _ _ (walk_fine (k / 7) b (field_place_lem h.regs.blocks b k q)) (λ o.
          target_fine h (wf_shape h f) t (none_or_block h.regs.blocks t (target_zero h.regs.blocks t g))))))

      pub field_store_allowed : field_store_refusal b k t h ≡ 0 → store_refusal (field_block (k / 7) b h) (k % 7) t h ≡ 0
      unfolding field_store_refusal store_refusal
      field_store_allowed e =
          let walk = walk_refusal (k / 7) b h in
          let p = first_zero (entry h) (field_place h.regs.blocks b k ▷ target_place h.regs.blocks t ▷ walk ▷ target_refusal h t) e in
          let q = first_zero (field_place h.regs.blocks b k) (target_place h.regs.blocks t ▷ walk ▷ target_refusal h t) p.1 in
          let g = first_zero (target_place h.regs.blocks t) (walk ▷ target_refusal h t) q.1 in
          let o = first_zero walk (target_refusal h t) g.1 in
          let v = walk_live h (k / 7) b (field_place_lem h.regs.blocks b k q.0) o.0 in
          sym (word_reached v p.0 (passes (sym g.0) refl (passes (sym (live_holder h _ v)) refl (sym o.1))))
