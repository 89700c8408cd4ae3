-- What a colour layout has to prove: the laws of a Colouring that the audit's meaning, the moves and the demands cite, and nothing else
-- of it. Today's layout proves them in machine/proofs/Linked.antt (`linked`); a second one proves this record again.
--     Plain c              a colour that asks for no list: white, black or free
--     Fitting k            the buffer's length and the grey head fit, as tests 1 and 2 find them while marking
--     LayoutLaws           the laws
-- Assumes nothing.
use Rattle.std.specs.Prelude.{ℕ, ◌≤◌, ◌≡◌, ◌≢◌, ◌↔◌, true}
use Rattle.machine.specs.declared.Colour.{Colour}
use Rattle.machine.specs.declared.Colour.TheVariants.{White, Grey, Black, Free, Outside}
use Rattle.machine.specs.Registers.{marking}
use Rattle.machine.specs.Colouring.{Colouring, coloured, colour, word_in, colour_in, painted, to_grey, to_black, first_grey, CellsFit, head_legal, fresh_colours, GreysOf, greys_pass}
use Rattle.machine.specs.WellFormed.{Block}

abbrev pub Plain : Colour → Type 0
Plain White = Unit {0}
Plain Grey = ⊥
Plain Black = Unit {0}
Plain Free = Unit {0}
Plain Outside = ⊥

pub record Fitting (k : Colouring) : Type 0 where
  pub most : k.blocks ≤ 16384
  pub cells : CellsFit k.blocks k.cells
  pub head : head_legal k.blocks marking k.head ≡ true

pub record LayoutLaws : Type 0 where
  -- a number that is no block is outside the layout, and the word of a block says its colour
  pub inside : (k : Colouring) (b : ℕ) → colour_in k b ≢ Outside → Block k.blocks b
  pub word : (k : Colouring) (b : ℕ) → Block k.blocks b → colour_in k b ≡ colour k.blocks (word_in k b)
  -- outside marking the grey head is 1, which is legal in every phase
  pub rest : (m p g : ℕ) → p ≢ marking → head_legal m p g ≡ true → g ≡ 1
  pub one : (m p : ℕ) → head_legal m p 1 ≡ true
  -- the grey list: at 1 it is empty and has exactly no block, and else its first block is grey
  pub empty : (k : Colouring) (b : ℕ) → GreysOf k → k.head ≡ 1 → colour_in k b ≢ Grey
  pub none : (k : Colouring) → k.head ≡ 1 → ((b : ℕ) → colour_in k b ≢ Grey) → GreysOf k
  pub first : (k : Colouring) → GreysOf k → k.head ≢ 1 → colour_in k (first_grey k) ≡ Grey
  pub first_block : (k : Colouring) → Fitting k → k.head ≢ 1 → Block k.blocks (first_grey k)
  -- a block painted: its own colour, the others', and the grey list where the block wasn't grey
  pub paint_keeps : (k : Colouring) (b : ℕ) (c : Colour) → Fitting k → Fitting (painted b c k)
  pub paint_here : (k : Colouring) (b : ℕ) (c : Colour) → Plain c → Fitting k → Block k.blocks b → colour_in (painted b c k) b ≡ c
  pub paint_there : (k : Colouring) (b : ℕ) (c : Colour) (x : ℕ) → Block k.blocks b → x ≢ b → colour_in (painted b c k) x ≡ colour_in k x
  pub paint_greys : (k : Colouring) (b : ℕ) (c : Colour) → Fitting k → Block k.blocks b → colour_in k b ≢ Grey → GreysOf k → GreysOf (painted b c k)
  -- a block greyed
  pub grey_keeps : (k : Colouring) (b : ℕ) → Fitting k → Block k.blocks b → Fitting (to_grey b k)
  pub grey_here : (k : Colouring) (b : ℕ) → Fitting k → Block k.blocks b → colour_in (to_grey b k) b ≡ Grey
  pub grey_there : (k : Colouring) (b x : ℕ) → Block k.blocks b → x ≢ b → colour_in (to_grey b k) x ≡ colour_in k x
  pub grey_greys : (k : Colouring) (b : ℕ) → Fitting k → Block k.blocks b → colour_in k b ≢ Grey → GreysOf k → GreysOf (to_grey b k)
  -- the first grey block made black
  pub black_keeps : (k : Colouring) → Fitting k → colour_in k (first_grey k) ≡ Grey → Fitting (to_black k)
  pub black_here : (k : Colouring) → Fitting k → Block k.blocks (first_grey k) → colour_in (to_black k) (first_grey k) ≡ Black
  pub black_there : (k : Colouring) (x : ℕ) → Block k.blocks (first_grey k) → x ≢ first_grey k → colour_in (to_black k) x ≡ colour_in k x
  pub black_greys : (k : Colouring) → Fitting k → Block k.blocks (first_grey k) → GreysOf k → GreysOf (to_black k)
  -- what Format leaves
  pub fresh_fits : (m : ℕ) → m ≤ 16384 → Fitting (coloured m 1 (fresh_colours m))
  pub fresh_free : (m b : ℕ) → Block m b → colour_in (coloured m 1 (fresh_colours m)) b ≡ Free
  pub fresh_greys : (m : ℕ) → GreysOf (coloured m 1 (fresh_colours m))
  -- the audit's test says it
  pub tested : (k : Colouring) → (greys_pass k ≡ true) ↔ GreysOf k
