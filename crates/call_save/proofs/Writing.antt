-- The image, written section by section.
--     written              four sections placed one behind another are the image, and past it the output is as it was
--     answers              what Save gives, by the answer made for it
-- Assumes nothing.
use Prim.Native.Nat.{ℕ, ◌+◌}
use mathlib.Core.Path.{◌≡◌, ◌∙◌}
use mathlib.Core.List.{List, ◌++◌, append_assoc}
use native.Mathlib.Omega.{arith}
use lib.ListN.{length, drop, length-append}
use Rattle.machine.specs.declared.Answer.{Answer}
use Rattle.machine.specs.Heap.{Heap}
use Rattle.machine.specs.Image.{numbers, singles, registers_of, register_count, encode_blocks, encode_with, encode}
use Rattle.machine.specs.Frame.{blocks_at, bytes_at, words_at, Sized}
use Rattle.machine.specs.Save.{SaveGiven}
use Rattle.machine.proofs.Fours.{four_length, fours_length}
use Rattle.machine.proofs.Saving.{save_given}
use Rattle.part_image.specs.Placing.{placed}
use Rattle.part_image.proofs.Placing.{placed_front, placed_behind}

module _ (h : Heap) (s : Sized h) where
  abbrev m : ℕ
  m = h.regs.blocks

  abbrev rs : List ℕ
  rs = numbers (registers_of h.regs)

  abbrev start : ℕ
  start = blocks_at register_count

  behind_registers : start ≡ length rs
  behind_registers = simp (length-append, four_length, fours_length)

  behind_colours : start + bytes_at m ≡ length (rs ++ numbers h.colours)
  behind_colours = simp (length-append, four_length, fours_length) (omega arith)

  behind_bytes : start + words_at m ≡ length ((rs ++ numbers h.colours) ++ singles h.bytes)
  behind_bytes = simp (length-append, four_length, fours_length) (omega arith)

  all_sections : ((rs ++ numbers h.colours) ++ singles h.bytes) ++ numbers h.words ≡ encode h
  unfolding encode_with encode_blocks
  all_sections = simp append_assoc

  pub written : (out : List ℕ) {p q : ℕ} {a b c d : List ℕ} → p ≡ bytes_at m → q ≡ words_at m
      → a ≡ placed 0 rs out → b ≡ placed start (numbers h.colours) a
      → c ≡ placed (start + p) (singles h.bytes) b → d ≡ placed (start + q) (numbers h.words) c
      → d ≡ encode h ++ drop (length (encode h)) out
  written out {p} {q} at_bytes at_words e f g i =
      let two = rs ++ numbers h.colours in
      let three = two ++ singles h.bytes in
      let j = placed_behind rs (numbers h.colours) out start behind_registers (e ∙ placed_front rs out) f in
      let k = placed_behind two (singles h.bytes) out (start + p) (rw at_bytes behind_colours) j g in
      rw all_sections at (placed_behind three (numbers h.words) out (start + q) (rw at_words behind_bytes) k i)

pub answers : {a : Answer} {n : ℕ} {out : List ℕ} {g : SaveGiven} → a ≡ (record { refusal = n; value = 0; units = 0 }) → save_given n out ≡ g
    → (record { answer = a; out = out }) ≡ g
answers e f = rw e f
