-- Read and Look.
--     read_refusal b w h    the first refusal of Read, in the order tested, or 0
--     read b w h           Read
--     look b h             Look: the words of the part that it answers
--     look_at b h           where in the word buffer that part begins
--     moved p w            the pointer that is w words further on than p
-- Assumes nothing.
use Rattle.std.specs.Prelude.{ℕ, ◌+◌, ◌*◌, List, [], eqb, if◌then◌else◌}
use Rattle.machine.specs.declared.ReadAnswer.{ReadAnswer}
use Rattle.machine.specs.Tests.{◌▷◌}
use Rattle.machine.specs.Block.{word_of, byte_of, bit, base, eight_words}
use Rattle.machine.specs.Heap.{Heap}
use Rattle.machine.specs.State.{holder_refusal}
use Rattle.machine.specs.Entry.{entry, word_refusal}
use Rattle.machine.specs.Answers.{ReadGiven}

unfoldable pub read_refusal : ℕ → ℕ → Heap → ℕ
read_refusal b w h = entry h ▷ word_refusal h.regs.blocks b w ▷ holder_refusal h b

-- "the value, and whether it is a reference"
unfoldable pub read_answer : ℕ → ℕ → Heap → ReadAnswer
read_answer b w h =
    record {
      refusal = 0;
      value = word_of h.words b w;
      units = 0;
      reference = if bit (byte_of h.bytes b) w then 1 else 0;
    }

-- "Read's also says whether the word is a reference, no on a refusal."
abbrev pub read_refused : ℕ → ReadAnswer
read_refused n = record { refusal = n; value = 0; units = 0; reference = 0 }

unfoldable pub read : ℕ → ℕ → Heap → ReadGiven
read b w h =
    record {
      answer = if eqb (read_refusal b w h) 0 then read_answer b w h else read_refused (read_refusal b w h);
      heap = h;
    }

-- "the part of the caller's word buffer that is the block's eight words ..; an empty part exactly when Read of word 0 would refuse"
unfoldable pub look : ℕ → Heap → List ℕ
look b h = if eqb (read_refusal b 0 h) 0 then eight_words h.words b else []

unfoldable pub look_at : ℕ → Heap → ℕ
look_at b h = if eqb (read_refusal b 0 h) 0 then base b else 0

-- A pointer is an allocation and a byte offset into it; a word has four bytes.
abbrev pub moved : ℕ × ℕ → ℕ → ℕ × ℕ
moved p w = (p.0, w * 4 + p.1)
