-- What is proved of lines: that no second outcome fits the contract of `line`, and what document 01 says of the greatest heap, of broken
-- lines and of lines before a first F.
--     NoSecondOutcome      two outcomes that fit what a line gives are the same
--     Greatest h           the lent buffers are those of 1,024 blocks
--     Rules                the sentences of document 01
-- Assumes nothing.
use Rattle.std.specs.Prelude.{ℕ, ◌<◌, ◌≡◌, ◌≢◌, List, length, Some, None}
use Rattle.machine.specs.Heap.{Heap}
use Rattle.text_commands.specs.declared.Said.{Said}
use Rattle.text_commands.specs.declared.Command.TheVariants.{Format, Audit}
use Rattle.text_commands.specs.Command.{command_of}
use Rattle.text_commands.specs.Saying.{spoken, said}
use Rattle.text_lines.specs.Line.{line_gives}

pub record Same (s t : Said) (ws xs cs ds bs es : List ℕ) : Type 0 where
  pub said : s ≡ t
  pub words : ws ≡ xs
  pub colours : cs ≡ ds
  pub bytes : bs ≡ es

abbrev pub NoSecondOutcome : Type 0
NoSecondOutcome =
    (text : List ℕ) (h : Heap) (s t : Said) (ws xs cs ds bs es : List ℕ)
    → said s ws cs bs ≡ line_gives text h → said t xs ds es ≡ line_gives text h → Same s t ws xs cs ds bs es

pub record Greatest (h : Heap) : Type 0 where
  pub words : length h.words ≡ 8192
  pub colours : length h.colours ≡ 1024
  pub bytes : length h.bytes ≡ 1024

pub record Rules : Type 0 where
  -- "prints `99 0 0` and does nothing"
  pub broken : (text : List ℕ) (h : Heap) → command_of text ≡ None → line_gives text h ≡ spoken 99 0 0 h
  -- "Its M is at most 1,024, else 1 and the heap stays"
  pub greatest : (text : List ℕ) (h : Heap) (m u : ℕ) → Greatest h → command_of text ≡ Some (Format m u) → 1024 < m → line_gives text h ≡ spoken 1 0 0 h
  -- "before a first F that answers 0 every call but F and C prints `1 0 0`", and leaves the heap as it is
  pub first :
      (text : List ℕ) (h : Heap) → h.regs.blocks ≡ 0 → command_of text ≢ None → command_of text ≢ Some Audit
      → ((m u : ℕ) → command_of text ≢ Some (Format m u)) → line_gives text h ≡ spoken 1 0 0 h
  -- "and C prints `0 0 0`"
  pub audited : (text : List ℕ) (h : Heap) → h.regs.blocks ≡ 0 → command_of text ≡ Some Audit → line_gives text h ≡ spoken 0 0 0 h
