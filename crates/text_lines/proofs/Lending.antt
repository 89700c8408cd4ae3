-- Laws of doing what a line asks for, on the parts of the lent buffers that its blocks take.
--     asks                 what is asked for, as a match tells it
--     lend_is, lend_length, rest_is     the part that is lent, its length, and what stays behind it
--     lends                what comes back
-- Assumes nothing.
use Prim.Native.Nat.{ℕ, ◌*◌, ◌≤◌, min}
use mathlib.Core.Path.{◌≡◌, refl, sym, ◌∙◌, ap}
use mathlib.Core.Bool.{Bool, true, false}
use mathlib.Core.List.{List, ◌++◌}
use native.Mathlib.Omega.{arith}
use lib.Dec.{leb}
use lib.ListN.{length, take, drop, drop_of_length-le, length-take}
use lib.Seq.{take_all, take-length, drop-length}
use borrow.Author.Tests.{leb-true, leb-false}
use Rattle.std.specs.Prelude.{Some}
use Rattle.machine.specs.declared.Regs.{Regs}
use Rattle.machine.specs.Heap.{Heap, heap}
use Rattle.text_commands.specs.declared.Said.{Said}
use Rattle.text_commands.specs.declared.Command.{Command}
use Rattle.text_commands.specs.Command.{command_of}
use Rattle.text_commands.specs.Saying.{Spoken, said, blocks_of}
use Rattle.text_lines.specs.Line.{performed, front, back, line_gives}

pub asks : {c d : Command} {s : Spoken} (h : Heap) → c ≡ d → s ≡ performed d h → s ≡ performed c h
asks h e f = rw e f

module _ (n : ℕ) (l : List ℕ) where
  by_length : {A : Type 0} → (n ≤ length l → A) → (length l ≤ n → A) → A
  by_length {A} p q = go (leb n (length l)) refl
    where
      go : (t : Bool) → leb n (length l) ≡ t → A
      go true e = p (leb-true n (length l) e)
      go false e = let h = leb-false n (length l) e in q (omega arith)

  least : {a : ℕ} → a ≡ min n (length l) → (n ≤ length l → a ≡ n) × (length l ≤ n → a ≡ length l)
  least e = (λ h. omega arith, λ h. omega arith)

  -- as much of the list as there is
  pub lend_is : {a : ℕ} → a ≡ min n (length l) → take a l ≡ take n l
  lend_is e =
      by_length
      (λ h. ap (λ (k : ℕ). take k l) ((least e).0 h))
      (λ h. ap (λ (k : ℕ). take k l) ((least e).1 h) ∙ take-length l ∙ sym (take_all n l h))

  pub lend_length : {a : ℕ} → a ≡ min n (length l) → a ≡ length (take a l)
  lend_length {a} e = rw (length-take a l) (omega arith)

  pub rest_is : {a : ℕ} → a ≡ min n (length l) → drop a l ≡ drop n l
  rest_is e =
      by_length
      (λ h. ap (λ (k : ℕ). drop k l) ((least e).0 h))
      (λ h. ap (λ (k : ℕ). drop k l) ((least e).1 h) ∙ drop-length l ∙ sym (drop_of_length-le l h))

module _ (r : Regs) (ws cs bs : List ℕ) (text : List ℕ) (c : Command) (m a b d : ℕ) (e : Some c ≡ command_of text) (f : m ≡ blocks_of c r) (p : a ≡ min (8 * m) (length ws)) (q : b ≡ min m (length cs)) (t : d ≡ min m (length bs)) where
  pub lends :
      (s : Said) (xs ds es : List ℕ) → said s xs ds es ≡ performed c (heap r (take a ws) (take b cs) (take d bs))
      → said s (xs ++ drop a ws) (ds ++ drop b cs) (es ++ drop d bs) ≡ line_gives text (heap r ws cs bs)
  unfolding line_gives front back
  lends s xs ds es g =
      rw (rest_is (8 * m) ws p, rest_is m cs q, rest_is m bs t)
      (rw (sym e, sym f) (ap (back m (heap r ws cs bs)) (rw (lend_is (8 * m) ws p, lend_is m cs q, lend_is m bs t) at g)))
