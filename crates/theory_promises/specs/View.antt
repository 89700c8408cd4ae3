-- The machine's heap as the abstract collector sees it, and what is the layout's own.
--     tint_of c             a colour without its layout
--     view h               the abstract heap of h: phase, position, root, mark, a colour for each block, its words and reference bits
--     Shape h              what a well-formed heap has besides a sound view: legal registers and colours, and the two lists
-- Assumes nothing.
use Rattle.std.specs.Prelude.{ℕ, ◌≡◌, ◌≢◌, ◌&&◌, leb, length, if◌then◌else◌}
use Rattle.machine.specs.declared.Colour.{Colour}
use Rattle.machine.specs.declared.Colour.TheVariants.{White, Grey, Black, Free, Outside}
use Rattle.machine.specs.Block.{word_of, byte_of, bit}
use Rattle.machine.specs.Colouring.{GreysOf}
use Rattle.machine.specs.Heap.{Heap, colouring, colour_of}
use Rattle.machine.specs.WellFormed.{Block, Coloured, Exactly, LaidOut}
use Rattle.machine.specs.Ready.{Ready}
use Rattle.theory_moves.specs.Tints.{Tint}
use Rattle.theory_moves.specs.Heaps.{Abs}
use Rattle.theory_moves.specs.Tints as tints

-- a colour outside the layout is on no block of a well-formed heap, so what it is seen as does not matter
abbrev pub tint_of : Colour → Tint
tint_of White = tints.White
tint_of Grey = tints.Grey
tint_of Black = tints.Black
tint_of Free = tints.Free
tint_of Outside = tints.Free

abbrev pub view : Heap → Abs
view h =
    record {
      phase = h.regs.phase;
      position = h.regs.position;
      root = h.regs.root;
      mark = h.regs.mark;
      tint = λ b. tint_of (colour_of h b);
      word = λ b w. if leb w 7 then word_of h.words b w else 0;
      is_ref = λ b w. leb w 7 && bit (byte_of h.bytes b) w;
    }

pub record Shape (h : Heap) : Type 0 where
  pub ready : Ready h
  pub colours : (b : ℕ) → Block h.regs.blocks b → colour_of h b ≢ Outside
  pub greys : GreysOf (colouring h)
  pub frees : Exactly (Coloured h Free) (λ b. word_of h.words b 0) 0 h.regs.free
  pub laid : (b : ℕ) → Coloured h Free b → LaidOut h b
  pub counted : length frees.blocks ≡ h.regs.count
