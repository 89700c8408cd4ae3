-- The colour layout: what a colour word means, where it stands, and the grey list. This file alone knows how colours are kept: all
-- other definitions ask a Colouring.
--     Colouring               what the layout needs of the registers, M and the grey head, and the colour buffer
--     white, black, freed     the colour words of a white, a black and a free block
--     colour m word           what a colour word means
--     word_in k b              b's colour word, as the unit's match takes it
--     colour_in k b            b's colour
--     painted b c k           b gets a colour that asks for no list: white, black or free
--     to_grey b k              b greyed: at the front of the grey list
--     to_black k               the first of the grey list taken off and made black
--     grey_white b k           b greyed if it is white
--     grey_all bs k            each of bs so, in order
--     first_grey k             the block that a marking unit takes
--     allocated_colour c, free_colour c, grey_colour c     a block of that colour is allocated, is free, is grey
--     is_allocated k b, is_free k b, is_grey k b           the same of a number: one that is no block is none of these
--     colours_fit m n          n is the length of the colour buffer of m blocks;     CellsFit m cs: cs has that length
--     head_legal m p g         g is a legal grey head in the phase p
--     fresh_colours m          the colour buffer that Format leaves
--     GreysOf k               the grey list ends and has exactly the grey blocks
--     greys_pass k             the audit's test of that, which computes
-- What holds of these, whatever the layout, is the record `LayoutLaws` (Layout.antt).
-- Assumes nothing.
use Rattle.std.specs.Prelude.{ℕ, ◌+◌, ◌≡◌, Bool, true, false, ◌&&◌, ◌||◌, List, [], ◌∷◌, leb, eqb, get_or, set, length, replicate, if◌then◌else◌}
use Rattle.machine.specs.declared.Colour.{Colour}
use Rattle.machine.specs.declared.Colour.TheVariants.{White, Grey, Black, Free, Outside}
use Rattle.machine.specs.Registers.{marking}
use Rattle.machine.specs.Block.{is_block, index}
use Rattle.machine.specs.Lists.{count_from, walk, Exactly}

pub record Colouring : Type 0 where
  pub blocks : ℕ
  pub head : ℕ
  pub cells : List ℕ

abbrev pub coloured : ℕ → ℕ → List ℕ → Colouring
coloured m g cs = record { blocks = m; head = g; cells = cs }

abbrev pub white : ℕ
white = 0

abbrev pub black : ℕ
black = 4_294_967_295

abbrev pub freed : ℕ
freed = 4_294_967_294

-- "Colour words: 0 white; 4,294,967,295 black; 4,294,967,294 free; 1 or a block number means grey, the number being the next grey block."
unfoldable pub colour : ℕ → ℕ → Colour
colour m word =
    if eqb word white then White else
    if eqb word black then Black else
    if eqb word freed then Free else
    if leb word (m + 1) then Grey else Outside

-- where a colour word stands in the buffer
abbrev pub colour_word : List ℕ → ℕ → ℕ
colour_word cs b = get_or cs (index b) 0

abbrev pub paint : ℕ → ℕ → List ℕ → List ℕ
paint b word cs = set cs (index b) word

abbrev pub word_in : Colouring → ℕ → ℕ
word_in k b = colour_word k.cells b

-- a number that is no block is outside the layout
unfoldable pub colour_in : Colouring → ℕ → Colour
colour_in k b = if is_block k.blocks b then colour k.blocks (word_in k b) else Outside

-- grey asks for the list, which painting leaves alone, and no block is painted outside the layout
abbrev pub repaint : ℕ → Colour → List ℕ → List ℕ
repaint b White cs = paint b white cs
repaint b Grey cs = cs
repaint b Black cs = paint b black cs
repaint b Free cs = paint b freed cs
repaint b Outside cs = cs

abbrev pub painted : ℕ → Colour → Colouring → Colouring
painted b c k = coloured k.blocks k.head (repaint b c k.cells)

-- "Greying puts a block at the front of the list."
abbrev pub to_grey : ℕ → Colouring → Colouring
to_grey b k = coloured k.blocks b (paint b k.head k.cells)

-- the first of the grey list
abbrev pub first_grey : Colouring → ℕ
first_grey k = k.head

-- "take its first block, make it black"
abbrev pub to_black : Colouring → Colouring
to_black k = coloured k.blocks (word_in k k.head) (paint k.head black k.cells)

abbrev pub white_colour : Colour → Bool
white_colour White = true
white_colour Grey = false
white_colour Black = false
white_colour Free = false
white_colour Outside = false

unfoldable pub grey_white : ℕ → Colouring → Colouring
grey_white b k = if white_colour (colour_in k b) then to_grey b k else k

-- "in order grey each white block named"
unfoldable pub grey_all : List ℕ → Colouring → Colouring
grey_all [] k = k
grey_all (b ∷ bs) k = grey_all bs (grey_white b k)

-- "A block is allocated when its colour is legal and not free."
abbrev pub allocated_colour : Colour → Bool
allocated_colour White = true
allocated_colour Grey = true
allocated_colour Black = true
allocated_colour Free = false
allocated_colour Outside = false

abbrev pub free_colour : Colour → Bool
free_colour White = false
free_colour Grey = false
free_colour Black = false
free_colour Free = true
free_colour Outside = false

abbrev pub grey_colour : Colour → Bool
grey_colour White = false
grey_colour Grey = true
grey_colour Black = false
grey_colour Free = false
grey_colour Outside = false

abbrev pub is_allocated : Colouring → ℕ → Bool
is_allocated k b = allocated_colour (colour_in k b)

abbrev pub is_free : Colouring → ℕ → Bool
is_free k b = free_colour (colour_in k b)

abbrev pub is_grey : Colouring → ℕ → Bool
is_grey k b = grey_colour (colour_in k b)

-- "colours (M of 32 bits)"
abbrev pub colours_fit : ℕ → ℕ → Bool
colours_fit m n = eqb n m

-- the same as a fact
abbrev pub CellsFit : ℕ → List ℕ → Type 0
CellsFit m cs = length cs ≡ m

-- "grey head is 1, or while marking 1 or a block"
unfoldable pub head_legal : ℕ → ℕ → ℕ → Bool
head_legal m p g = eqb g 1 || (eqb p marking && is_block m g)

-- "Format: all blocks free"
abbrev pub fresh_colours : ℕ → List ℕ
fresh_colours m = replicate m freed

-- "the grey list ends and has exactly the grey blocks": a grey block's colour word is the next one, and 1 ends the list
abbrev pub GreysOf : Colouring → Type 0
GreysOf k = Exactly (λ b. colour_in k b ≡ Grey) (word_in k) 1 k.head

-- a walk of as many steps as there are grey blocks, which meets only such and is at the end then, has exactly them
unfoldable pub greys_pass : Colouring → Bool
greys_pass k = walk (is_grey k) (word_in k) 1 (count_from (is_grey k) k.blocks 2) k.head
