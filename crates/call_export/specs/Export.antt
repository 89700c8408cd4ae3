-- The export of a list whose rows are blocks.
--     block_rows w h        such rows on the heap h: a block's eight words, its link being word w as Read answers it
--     follow b w h         what the link word w of the block b leads to
--     export b w h out     the export
--     export_numbers b w h out     the same, with its answer in numbers
-- Assumes nothing.
use Rattle.std.specs.Prelude.{ℕ, List, Result}
use Rattle.machine.specs.Block.{eight_words}
use Rattle.machine.specs.Heap.{Heap}
use Rattle.machine.specs.Read.{read}
use Rattle.part_rows.specs.declared.Reason.{Reason}
use Rattle.part_rows.specs.Shape.{Shape}
use Rattle.part_rows.specs.Rows.{ExportGiven, lead, export_rows}
use Rattle.part_rows.specs.Numbers.{NumbersGiven, in_numbers}

abbrev pub block_rows : ℕ → Heap → Shape
block_rows w h =
    record {
      width = 8;
      most = h.regs.blocks;
      link = λ b. (read b w h).answer;
      row = λ b. eight_words h.words b;
    }

abbrev pub follow : ℕ → ℕ → Heap → Result ℕ Reason
follow b w h = lead (block_rows w h) b

abbrev pub export : ℕ → ℕ → Heap → List ℕ → ExportGiven
export b w h out = export_rows (block_rows w h) b out

abbrev pub export_numbers : ℕ → ℕ → Heap → List ℕ → NumbersGiven
export_numbers b w h out = in_numbers (export b w h out)
