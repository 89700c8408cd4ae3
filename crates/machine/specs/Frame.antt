-- Where the sections of an image lie, and the test of its counts and its length.
--     blocks_at n                           where the sections behind n registers begin
--     bytes_at m, words_at m                 where, from there on, the reference bytes and the words of m blocks begin
--     blocks_length m                       how long those sections are
--     image_length m                        how long the image of a heap of m blocks is
--     Sized h                              the lengths of a heap of at most 16,384 blocks are those of its M
--     at i p                               the number at the place p of the bytes i
--     blocks_framed m j                     the counts and the length of the sections j are those of m blocks
--     framed i                             the bytes i have as many registers as an image may have, and behind them sections of M blocks,
--                                          M being their first register
-- Assumes nothing.
use Rattle.std.specs.Prelude.{ℕ, ◌+◌, ◌*◌, ◌≤◌, ◌≡◌, Bool, ◌&&◌, List, eqb, length, drop}
use Rattle.machine.specs.Heap.{Heap}
use Rattle.machine.specs.Image.{number, register_count, past_numbers, count_known}

-- a section is its count, of four bytes, and what it holds
abbrev pub blocks_at : ℕ → ℕ
blocks_at n = 4 + 4 * n

abbrev pub bytes_at : ℕ → ℕ
bytes_at m = 4 + 4 * m

abbrev pub words_at : ℕ → ℕ
words_at m = bytes_at m + (4 + m)

abbrev pub blocks_length : ℕ → ℕ
blocks_length m = words_at m + (4 + 4 * (8 * m))

-- 56 + 37M bytes
abbrev pub image_length : ℕ → ℕ
image_length m = blocks_at register_count + blocks_length m

-- what heap_fits says of the lengths, as facts
pub record Sized (h : Heap) : Type 0 where
  pub most : h.regs.blocks ≤ 16384
  pub words : length h.words ≡ 8 * h.regs.blocks
  pub colours : length h.colours ≡ h.regs.blocks
  pub bytes : length h.bytes ≡ h.regs.blocks

abbrev pub at : List ℕ → ℕ → ℕ
at i p = number (drop p i)

-- "colours (M), reference bytes (M), words (8M)": of the bytes behind the registers
unfoldable pub blocks_framed : ℕ → List ℕ → Bool
blocks_framed m j =
    eqb (length j) (blocks_length m) && (eqb (number j) m && (eqb (at j (bytes_at m)) m && eqb (at j (words_at m)) (8 * m)))

-- "registers (count 9 ..)"; "Images gain the register as tenth; those with nine are read"
unfoldable pub framed : List ℕ → Bool
framed i = count_known (number i) && blocks_framed (at i 4) (past_numbers i)
