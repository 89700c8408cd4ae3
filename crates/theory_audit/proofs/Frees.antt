-- The free list: what frees_pass establishes, and what it asks for.
--     next_free h                   "its word 0 is the next free block"
--     free_tests                   is_free is true exactly of the free blocks
--     frees_hold                   where frees_pass is true, the list has exactly the free blocks, and free count of them
--     hold_frees                   and the other way
-- The free list is the case of Exact with word 0 for the next block and 0 for the end. A block is asked for its colour only.
-- Assumes nothing.
use Prim.Native.Nat.{ℕ}
use mathlib.Core.Path.{◌≡◌, refl, sym, ◌∙◌}
use mathlib.Core.Logic.{◌↔◌}
use mathlib.Core.Bool.{Bool, true}
use native.Mathlib.Omega.{arith}
use lib.Dec.{eqb}
use lib.ListN.{length}
use borrow.Author.Tests.{eqb-true, eq-eqb}
use Rattle.machine.specs.declared.Colour.TheVariants.{Free}
use Rattle.machine.specs.Block.{word_of}
use Rattle.machine.specs.Colouring.{is_free}
use Rattle.machine.specs.Heap.{Heap, colouring, colour_of}
use Rattle.machine.specs.Audit.{count_from, walk, frees_pass}
use Rattle.machine.specs.WellFormed.{Block, Coloured, Exactly}
use Rattle.machine.proofs.Tests.{both_true, both}
use Rattle.machine.proofs.Hues.{tests_free}
use Rattle.machine.proofs.Steps.{never}
use Rattle.machine.proofs.Linked.{linked}
use Rattle.machine.proofs.Exact.{walk_exact, exact_length, exact_walk}

module _ (h : Heap) where
  -- the test of a free block in this heap
  abbrev free : ℕ → Bool
  free = is_free (colouring h)

  abbrev pub next_free : ℕ → ℕ
  next_free b = word_of h.words b 0

  pub free_tests : (b : ℕ) → (is_free (colouring h) b ≡ true) ↔ Coloured h Free b
  free_tests b = (
    λ e. let c = tests_free (colour_of h b) e in record { block = linked.inside (colouring h) b (λ o. never (cc)); colour = c },
    λ f. rw f.colour refl,
  )

  inside : (b : ℕ) → Coloured h Free b → Block h.regs.blocks b
  inside b f = f.block

  out : Coloured h Free 0 → ⊥
  out f = let l = f.block in omega arith

  pub frees_hold :
      frees_pass h.regs h.words (colouring h) ≡ true
      → (e : Exactly (Coloured h Free) next_free 0 h.regs.free) × (length e.blocks ≡ h.regs.count)
  unfolding frees_pass
  frees_hold e =
      let m = h.regs.blocks in
      let t = both_true (eqb (count_from free m 2) h.regs.count) (walk free next_free 0 h.regs.count h.regs.free) e in
      let c = eqb-true (count_from free m 2) h.regs.count t.0 in
      let x = walk_exact (Coloured h Free) free free_tests next_free 0 m inside out h.regs.free (rw (← c) at t.1) in
      (x.0, x.1 ∙ c)

  pub hold_frees :
      (e : Exactly (Coloured h Free) next_free 0 h.regs.free) → length e.blocks ≡ h.regs.count
      → frees_pass h.regs h.words (colouring h) ≡ true
  unfolding frees_pass
  hold_frees e l =
      let m = h.regs.blocks in
      let c : count_from free m 2 ≡ h.regs.count = sym (exact_length (Coloured h Free) free free_tests next_free 0 m inside out h.regs.free e) ∙ l in
      both (eq-eqb (count_from free m 2) h.regs.count c)
      (rw (← c) (exact_walk (Coloured h Free) free free_tests next_free 0 m inside out h.regs.free e))
