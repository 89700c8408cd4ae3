-- Laws of Format, for the loop that lays the free blocks out and for the call.
--     link_start, link_step, link_end      the words laid out so far, and the free list that is still to come
--     fits_parts                           what test 1 says of M and the lengths
--     format_done, format_not              the two ways of format
-- Assumes nothing.
use Prim.Native.Nat.{ℕ, ◌+◌, ◌*◌, ◌≤◌}
use mathlib.Core.Path.{◌≡◌, refl, sym, ◌∙◌}
use mathlib.Core.Bool.{true, false, ◌&&◌}
use mathlib.Core.List.{List, ◌++◌, append-nil, append_assoc}
use native.Mathlib.Omega.{arith}
use native.Mathlib.Numerals.{add-one}
use lib.Dec.{eqb, leb}
use lib.ListN.{length, take, replicate, length-append}
use borrow.Author.Tests.{eqb-true, leb-true}
use lib.Seq.{take_all, take_at, length-take-le}
use Rattle.std.specs.Prelude.{if◌then◌else◌}
use Rattle.machine.specs.declared.Regs.{Regs}
use Rattle.machine.specs.Registers.{fresh_regs}
use Rattle.machine.specs.Block.{base, free_words}
use Rattle.machine.specs.Colouring.{colours_fit, fresh_colours}
use Rattle.machine.specs.Heap.{Heap, heap}
use Rattle.machine.specs.Entry.{numbers_fit, lengths_fit, fits}
use Rattle.machine.specs.Answers.{done, refuse}
use Rattle.machine.specs.Format.{free_list, formatted, format}
use Rattle.machine.proofs.Tests.{both_true}
use Rattle.machine.proofs.Refusals.{fits_most}

pub link_start : (m : ℕ) (ws : List ℕ) → free_list m 2 ≡ take (base 2) ws ++ free_list m 2
link_start m ws = refl

-- one block more: k are left after it
module _ (all ws ys rest : List ℕ) (left b k v : ℕ) where
  pub link_step :
      left ≡ k + 1 → 2 ≤ b → base b + 8 ≤ length ws → v ≡ (if eqb k 0 then 0 else b + 1) → ys ≡ free_words v
      → all ≡ take (base b) ws ++ free_list left b
      → all ≡ take (base (b + 1)) (take (base b) ws ++ (ys ++ rest)) ++ free_list k (b + 1)
  unfolding free_list
  link_step p q f u y e =
      let l : length (take (base b) ws ++ ys) ≡ base (b + 1) = simp (length-append, length-take-le (base b) ws (omega arith), y) (omega arith) in
      rw (← append_assoc (take (base b) ws) ys rest, take_at (take (base b) ws ++ ys) rest (base (b + 1)) l, append_assoc (take (base b) ws) ys (free_list k (b + 1)), y, u)
      (rw (p, add-one k) at e)

pub link_end : (all ws : List ℕ) (left b m : ℕ) → left ≡ 0 → b ≡ m + 2 → length ws ≡ 8 * m → all ≡ take (base b) ws ++ free_list left b → ws ≡ all
unfolding free_list
link_end all ws left b m z q l e = sym (e ∙ (rw (z, append-nil, take_all (base b) ws (omega arith)) refl))

pub fits_parts : (m u lw lc lb : ℕ) → fits m u lw lc lb ≡ true → (1 ≤ m) × (m ≤ 16384) × (lw ≡ 8 * m) × (lc ≡ m) × (lb ≡ m)
unfolding fits numbers_fit lengths_fit
fits_parts m u lw lc lb e =
    let (k, l) = both_true (numbers_fit m u) (lengths_fit m lw lc lb) e in
    let o = (both_true (leb 1 m) (leb m 16384 && leb u 65535) k).0 in
    let a = both_true (eqb lw (8 * m)) (colours_fit m lc && eqb lb m) l in
    let b = both_true (colours_fit m lc) (eqb lb m) a.1 in
    (leb-true 1 m o, fits_most m u lw lc lb e, eqb-true lw (8 * m) a.0, eqb-true lc m b.0, eqb-true lb m b.1)

module _ (m u : ℕ) (h : Heap) where
  pub format_done :
      (s : Regs) (ws cs bs : List ℕ) → fits m u (length h.words) (length h.colours) (length h.bytes) ≡ true
      → s ≡ fresh_regs m u → ws ≡ free_list m 2 → cs ≡ fresh_colours (length h.colours) → bs ≡ replicate (length h.bytes) 0
      → done 0 (heap s ws cs bs) ≡ format m u h
  unfolding format formatted
  format_done s ws cs bs e r w c b =
      let p = fits_parts m u (length h.words) (length h.colours) (length h.bytes) e in
      rw (r, w, c, b, e, p.3, p.4) refl

  pub format_not : fits m u (length h.words) (length h.colours) (length h.bytes) ≡ false → refuse 1 h ≡ format m u h
  unfolding format
  format_not e = simp e
