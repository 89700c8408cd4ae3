-- A well-formed heap, as document 01 says it: a record with a part for each sentence.
--     Block m b            b is a block number
--     Live h b             b is an allocated block that isn't doomed
--     Names h b x          a reference word of b holds x
--     WellFormed h         the heap h is well-formed
-- Assumes nothing.
use Rattle.std.specs.Prelude.{ℕ, ◌+◌, ◌≤◌, ◌<◌, ◌≡◌, ◌≢◌, true, length}
use Rattle.machine.specs.declared.Colour.{Colour}
use Rattle.machine.specs.declared.Colour.TheVariants.{White, Grey, Black, Free, Outside}
use Rattle.machine.specs.Registers.{idle, marking, sweeping}
use Rattle.machine.specs.Block.{word_of, byte_of, bit}
use Rattle.machine.specs.Colouring.{GreysOf}
use Rattle.machine.specs.Heap.{Heap, colouring, colour_of}
use Rattle.machine.specs.State.{state_of, is_live}
use Rattle.machine.specs.Entry.{heap_fits, legal}
pub use Rattle.machine.specs.Lists.{Listed, ends, goes, Exactly}

-- "Block numbers run from 2 to M + 1"
pub record Block (m b : ℕ) : Type 0 where
  pub low : 2 ≤ b
  pub high : b ≤ m + 1

-- a block of a colour
pub record Coloured (h : Heap) (c : Colour) (b : ℕ) : Type 0 where
  pub block : Block h.regs.blocks b
  pub colour : colour_of h b ≡ c

-- "an allocated block that isn't doomed"
pub record Live (h : Heap) (b : ℕ) : Type 0 where
  pub block : Block h.regs.blocks b
  pub live : is_live (state_of h b) ≡ true

-- "a reference word of [b] names it"
pub record Names (h : Heap) (b x : ℕ) : Type 0 where
  pub word : ℕ
  pub low : word ≤ 7
  pub set : bit (byte_of h.bytes b) word ≡ true
  pub holds : word_of h.words b word ≡ x

-- "its words 1 to 7 are 0"; "A free block has reference byte 0"
pub record LaidOut (h : Heap) (b : ℕ) : Type 0 where
  pub byte : byte_of h.bytes b ≡ 0
  pub words : (w : ℕ) → 1 ≤ w → w ≤ 7 → word_of h.words b w ≡ 0

pub record WellFormed (h : Heap) : Type 0 where
  -- "lengths, M and U fit"
  pub fitting : heap_fits h ≡ true
  -- "registers and colours are legal"
  pub registers : legal h.regs ≡ true
  pub colours : (b : ℕ) → Block h.regs.blocks b → colour_of h b ≢ Outside
  -- "the grey list ends and has exactly the grey blocks"
  pub greys : GreysOf (colouring h)
  -- "the free list ends, has exactly the free blocks, laid out as above, and free count of them"
  pub frees : Exactly (Coloured h Free) (λ b. word_of h.words b 0) 0 h.regs.free
  pub laid : (b : ℕ) → Coloured h Free b → LaidOut h b
  pub counted : length frees.blocks ≡ h.regs.count
  -- "grey head is 1 and no block is grey outside marking"
  pub grey_head : h.regs.phase ≢ marking → h.regs.grey ≡ 1
  pub greyless : h.regs.phase ≢ marking → (b : ℕ) → Coloured h Grey b → ⊥
  -- "no block is black when idle"
  pub blackless : h.regs.phase ≡ idle → (b : ℕ) → Coloured h Black b → ⊥
  -- "while sweeping no block below the position is black"
  pub swept : h.regs.phase ≡ sweeping → (b : ℕ) → Coloured h Black b → b < h.regs.position → ⊥
  -- "blocks above the mark be free"
  pub unused : (b : ℕ) → Block h.regs.blocks b → h.regs.mark < b → Coloured h Free b
  -- "while marking the root is not white and no black block names a white one"
  pub root_marked : h.regs.phase ≡ marking → Coloured h White h.regs.root → ⊥
  pub named_marked : h.regs.phase ≡ marking → (b x : ℕ) → Coloured h Black b → Names h b x → Coloured h White x → ⊥
  -- "The root is 0 or names an allocated block that isn't doomed."
  pub root_live : h.regs.root ≢ 0 → Live h h.regs.root
  -- "Every reference in an allocated block that isn't doomed is 0 or names such a block."
  pub named_live : (b x : ℕ) → Live h b → Names h b x → x ≢ 0 → Live h x
