-- Laws of bytes laid out as the sections of an image: where the cells of its heap lie.
--     laid_frame, laid_length      that they are framed so, and how long they are
--     colour_laid, byte_laid, word_laid     where the colour word of a block lies, its byte, and each of its words
-- Assumes nothing.
use Prim.Native.Nat.{ℕ, ◌+◌, ◌-◌, ◌*◌, ◌≤◌}
use mathlib.Core.Path.{◌≡◌, sym, ◌∙◌}
use mathlib.Core.List.{List}
use native.Mathlib.Omega.{arith}
use lib.ListN.{length, get_or, drop}
use Rattle.machine.specs.WellFormed.{Block}
use Rattle.machine.specs.Block.{index, base, word_of, byte_of}
use Rattle.machine.specs.Colouring.{colour_word}
use Rattle.machine.specs.Image.{number, colours_in, bytes_in, words_in}
use Rattle.machine.specs.Frame.{bytes_at, words_at, blocks_length}
use Rattle.machine.proofs.Frames.{Frame, blocks_frame, colour_placed, byte_placed, word_placed}
use Rattle.part_image_audit.specs.Laid.{Laid}

module _ {m : ℕ} {j : List ℕ} (l : Laid m j) where
  pub laid_frame : Frame m j
  laid_frame = blocks_frame l.whole

  pub laid_length : length j ≡ blocks_length m
  laid_length = laid_frame.whole

  module _ {b : ℕ} (k : Block m b) where
    pub colour_laid : {x : ℕ} → x ≡ number (drop (4 + 4 * (b - 2)) j) → x ≡ colour_word (colours_in j) b
    colour_laid e = e ∙ sym (colour_placed laid_frame (index b) (omega (arith, k.low, k.high)))

    pub word_laid : {p w x : ℕ} → w ≤ 7 → p ≡ words_at m → x ≡ number (drop (p + 4 + 32 * (b - 2) + 4 * w) j) → x ≡ word_of (words_in j) b w
    word_laid {p} {w} o e f =
        let n : p + 4 + 32 * (b - 2) + 4 * w ≡ words_at m + 4 + 4 * (base b + w) = omega (arith, e) in
        f ∙ rw n (sym (word_placed laid_frame (base b + w) (omega (arith, k.low, k.high))))

    pub byte_laid : {p : ℕ} → p ≡ bytes_at m → get_or j (p + 4 + (b - 2)) 0 ≡ byte_of (bytes_in j) b
    byte_laid e = rw e (sym (byte_placed laid_frame (index b) (omega (arith, k.low, k.high))))
