-- Laws of the heap that an image holds.
--     held_fits            it fits where its M and U do, by the test of these
--     held_most            then M is at most 16,384, as get_registers asks
--     held_as              it has the registers of the image and the sections behind them
--     held_laid            where it fits, those sections are laid out as such
--     held_entry           it passes tests 1 and 2 where it fits and its registers are legal
--     unfit_off, illegal_off     a heap that fails test 1 or 2 doesn't pass
-- Assumes nothing.
use Prim.Native.Nat.{ℕ, ◌≤◌}
use mathlib.Core.Path.{◌≡◌, refl, sym}
use mathlib.Core.Bool.{Bool, true, false}
use mathlib.Core.List.{List}
use native.Mathlib.Omega.{arith}
use lib.ListN.{length}
use borrow.Author.Tests.{eq-eqb}
use Rattle.machine.specs.declared.Regs.{Regs}
use Rattle.machine.specs.Heap.{Heap}
use Rattle.machine.specs.Entry.{numbers_fit, lengths_fit, heap_fits, legal, entry}
use Rattle.machine.specs.Audit.{passes}
use Rattle.machine.specs.Image.{past_numbers, colours_in, bytes_in, words_in, heap_in, decode}
use Rattle.machine.specs.Frame.{at, framed}
use Rattle.machine.proofs.Tests.{so}
use Rattle.machine.proofs.Entering.{fits_lengths}
use Rattle.machine.proofs.Refusals.{fits_most, unfit, illegal, entered}
use Rattle.machine.proofs.Passing.{entry_no}
use Rattle.machine.proofs.Frames.{blocks_frame, lengths_placed, framed_blocks, regs_placed}
use Rattle.part_image_audit.specs.Laid.{Laid}

module _ (i : List ℕ) (f : framed i ≡ true) where
  abbrev j : List ℕ
  j = past_numbers i

  lengths_read : lengths_fit (at i 4) (length (words_in j)) (length (colours_in j)) (length (bytes_in j)) ≡ true
  unfolding lengths_fit
  lengths_read =
      let l = lengths_placed (blocks_frame (framed_blocks i f)) in
      simp (eq-eqb _ _ l.0, eq-eqb _ _ l.1, eq-eqb _ _ l.2)

  pub held_as : {r : Regs} {part : List ℕ} → r ≡ (decode i).regs → part ≡ j → heap_in r part ≡ decode i
  unfolding decode
  held_as e p = rw (e, p) refl

  pub held_fits : {t v : Bool} {m u : ℕ} → m ≡ at i 4 → u ≡ at i 8 → t ≡ numbers_fit m u → t ≡ v → heap_fits (decode i) ≡ v
  held_fits {t} {v} {m} {u} e g n p =
      let n : t ≡ heap_fits (decode i) =
      rw (← held_as refl refl, regs_placed i f, ← e, ← g) (fits_lengths m u _ _ _ (rw e lengths_read) n)
      in
      so n p

  module _ (h : heap_fits (decode i) ≡ true) where
    pub held_most : at i 4 ≤ 16384
    held_most = let m = fits_most _ _ _ _ _ h in rw (regs_placed i f) at m

    module _ {r : Regs} {part : List ℕ} (e : r ≡ (decode i).regs) (p : part ≡ j) where
      pub held_laid : Laid r.blocks part
      held_laid =
          rw (e, p, regs_placed i f) (record { whole = framed_blocks i f; most = held_most })

      pub held_entry : legal r ≡ true → entry (heap_in r part) ≡ 0
      held_entry l = rw (held_as e p) (sym (entered (decode i) h (rw e at l)))

module _ (h : Heap) where
  pub unfit_off : heap_fits h ≡ false → false ≡ passes h
  unfit_off f = entry_no h (λ z. omega (arith, unfit h f, z))

  pub illegal_off : heap_fits h ≡ true → {r : Regs} → r ≡ h.regs → legal r ≡ false → false ≡ passes h
  illegal_off f e l = entry_no h (λ z. omega (arith, illegal h f (rw e at l), z))
