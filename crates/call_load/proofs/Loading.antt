-- Laws of an image read into lent buffers.
--     words_read, colours_read, bytes_read     a section read is that buffer
--     length_parts         lengths that fit, one by one
--     image_framed         an image's counts and length are right
--     image_most           its M is at most 16,384
--     image_laid           the sections behind its registers are laid out as such
--     image_same           the test of lengths is Load's
--     image_read           what is read is what Load gives
-- Assumes nothing.
use Prim.Native.Nat.{ℕ, ◌+◌, ◌*◌, ◌≤◌}
use mathlib.Core.Path.{◌≡◌, refl, sym, ◌∙◌, ap}
use mathlib.Core.Bool.{Bool, true, ◌&&◌}
use mathlib.Core.List.{List}
use lib.Dec.{eqb}
use lib.ListN.{length, take, drop}
use borrow.Author.Tests.{eqb-true}
use Rattle.machine.specs.declared.Regs.{Regs}
use Rattle.machine.specs.Heap.{Heap, heap}
use Rattle.machine.specs.Entry.{lengths_fit, heap_fits}
use Rattle.machine.specs.Answers.{done}
use Rattle.machine.specs.Image.{numbers_from, past_numbers, colours_in, bytes_in, words_in, decode, is_image}
use Rattle.machine.specs.Frame.{bytes_at, words_at, at, framed}
use Rattle.machine.specs.Load.{same_lengths, load}
use Rattle.machine.proofs.Tests.{both_true, by_test, clash}
use Rattle.machine.proofs.Images.{passes_fits, image_passes}
use Rattle.machine.proofs.Frames.{colours_are, bytes_are, words_are, regs_placed, lengths_same, unframed_image}
use Rattle.machine.proofs.Saving.{load_done}
use Rattle.part_image_audit.specs.Laid.{Laid}
use Rattle.part_image_audit.proofs.Laid.{laid_frame}
use Rattle.part_image_audit.proofs.Held.{held_most, held_as, held_laid}

module _ {m : ℕ} {j : List ℕ} (l : Laid m j) {n : ℕ} {xs : List ℕ} where
  pub words_read : {p : ℕ} → n ≡ 8 * m → p ≡ words_at m → xs ≡ numbers_from n (drop (p + 4) j) → xs ≡ words_in j
  words_read e f g = g ∙ rw (words_are (laid_frame l), e, f) refl

  pub colours_read : n ≡ m → xs ≡ numbers_from n (drop 4 j) → xs ≡ colours_in j
  colours_read e g = g ∙ rw (colours_are (laid_frame l), e) refl

  pub bytes_read : {p : ℕ} → n ≡ m → p ≡ bytes_at m → xs ≡ take n (drop (p + 4) j) → xs ≡ bytes_in j
  bytes_read e f g = g ∙ rw (bytes_are (laid_frame l), e, f) refl

pub length_parts : (m lw lc lb : ℕ) → lengths_fit m lw lc lb ≡ true → (lw ≡ 8 * m) × (lc ≡ m) × (lb ≡ m)
unfolding lengths_fit
length_parts m lw lc lb e =
    let p = both_true (eqb lw (8 * m)) (eqb lc m && eqb lb m) e in
    let q = both_true (eqb lc m) (eqb lb m) p.1 in
    (eqb-true _ _ p.0, eqb-true _ _ q.0, eqb-true _ _ q.1)

module _ (i : List ℕ) (t : is_image i ≡ true) where
  pub image_framed : framed i ≡ true
  image_framed = by_test (framed i) (λ f. f) (λ f. clash t (sym (unframed_image i f)))

  image_fits : heap_fits (decode i) ≡ true
  image_fits = passes_fits (decode i) (image_passes i t)

  pub image_most : at i 4 ≤ 16384
  image_most = held_most i image_framed image_fits

  module _ {r : Regs} (e : r ≡ (decode i).regs) where
    pub image_laid : {part : List ℕ} → part ≡ past_numbers i → Laid r.blocks part
    image_laid p = held_laid i image_framed image_fits e p

    pub image_same : (h : Heap) {x : Bool} → x ≡ lengths_fit r.blocks (length h.words) (length h.colours) (length h.bytes)
        → x ≡ same_lengths h (decode i)
    image_same h p =
        let b : r.blocks ≡ at i 4 = ap (λ (x : Regs). x.blocks) (e ∙ regs_placed i image_framed) in
        p ∙ rw b (lengths_same i image_framed h)

    pub image_read : (h : Heap) {part ws cs bs : List ℕ} → part ≡ past_numbers i → same_lengths h (decode i) ≡ true
        → (ws ≡ words_in part) × (cs ≡ colours_in part) × (bs ≡ bytes_in part) → done 0 (heap r ws cs bs) ≡ load i h
    image_read h p s q =
        rw (q.0, q.1, q.2) (ap (λ (g : Heap). done 0 g) (held_as i image_framed e p) ∙ load_done i h t s)
