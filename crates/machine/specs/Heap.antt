-- The heap as one value.
--     Heap                 the registers and the three lent buffers
--     colouring h          its M, grey head and colour buffer, as the colour layout takes them
--     with_regs r h, with_colours cs h, with_colouring k h     h with those replaced
--     colour_of h b         b's colour
--     references_of h b     the references that b holds
-- Assumes nothing.
use Rattle.std.specs.Prelude.{ℕ, List}
use Rattle.machine.specs.declared.Regs.{Regs}
use Rattle.machine.specs.declared.Colour.{Colour}
use Rattle.machine.specs.Registers.{with_grey}
use Rattle.machine.specs.Block.{eight_words, byte_of, references}
use Rattle.machine.specs.Colouring.{Colouring, coloured, colour_in}

-- "Three lent buffers: words, colours, reference bytes." "The host keeps one register record"
pub record Heap : Type 0 where
  pub regs : Regs
  pub words : List ℕ
  pub colours : List ℕ
  pub bytes : List ℕ

abbrev pub heap : Regs → List ℕ → List ℕ → List ℕ → Heap
heap r ws cs bs = record { regs = r; words = ws; colours = cs; bytes = bs }

abbrev pub colouring : Heap → Colouring
colouring h = coloured h.regs.blocks h.regs.grey h.colours

abbrev pub with_regs : Regs → Heap → Heap
with_regs r h = heap r h.words h.colours h.bytes

abbrev pub with_colours : List ℕ → Heap → Heap
with_colours cs h = heap h.regs h.words cs h.bytes

abbrev pub with_colouring : Colouring → Heap → Heap
with_colouring k h = heap (with_grey k.head h.regs) h.words k.cells h.bytes

abbrev pub colour_of : Heap → ℕ → Colour
colour_of h b = colour_in (colouring h) b

abbrev pub references_of : Heap → ℕ → List ℕ
references_of h b = references (eight_words h.words b) (byte_of h.bytes b)
