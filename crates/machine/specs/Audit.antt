-- The audit, as a test that computes: linear in M, with no memory of its own.
-- A walk of a linked list that takes as many steps as there are blocks of its colour, meets only such blocks and is at the end then has
-- exactly them.
--     layout_passes k       the colour layout's own part: legal colours, and the grey list has exactly the grey blocks
--     may_name r k strict x     x is 0 or a live block, and where strict not a white one
--     mark_passes r k b     b isn't above the mark, or is free
--     block_passes h b      that, and what asks only for a block's state, its words and its byte
--     frees_pass r ws k     the free list has exactly the free blocks, free count of them
--     passes h             all of these
--     audit h              the call: 1 for a well-formed heap, else 0
-- Assumes nothing.
use Rattle.std.specs.Prelude.{ℕ, zero, suc, ◌+◌, Bool, true, false, ◌&&◌, ◌||◌, not, List, [], ◌∷◌, eqb, leb, get_or, if◌then◌else◌}
use Rattle.machine.specs.declared.Regs.{Regs}
use Rattle.machine.specs.declared.Colour.{Colour}
use Rattle.machine.specs.declared.Colour.TheVariants as colours
use Rattle.machine.specs.declared.State.{State}
use Rattle.machine.specs.declared.State.TheVariants.{LiveWhite, Doomed, Grey, Black, Free, Outside}
use Rattle.machine.specs.Registers.{marking}
use Rattle.machine.specs.Block.{word_of, byte_of, eight_words, references}
use Rattle.machine.specs.Colouring.{Colouring, colour_in, is_free, greys_pass}
use Rattle.machine.specs.Heap.{Heap, colouring}
use Rattle.machine.specs.State.{state_in, state_of, may_be_black}
use Rattle.machine.specs.Entry.{entry}
use Rattle.machine.specs.Answers.{Given, done}
unfoldable pub use Rattle.machine.specs.Lists.{all_from, count_from, walk}

abbrev pub legal_colour : Colour → Bool
legal_colour colours.White = true
legal_colour colours.Grey = true
legal_colour colours.Black = true
legal_colour colours.Free = true
legal_colour colours.Outside = false

abbrev pub is_legal : Colouring → ℕ → Bool
is_legal k b = legal_colour (colour_in k b)

-- "colours are legal; the grey list ends and has exactly the grey blocks"
unfoldable pub layout_passes : Colouring → Bool
layout_passes k = all_from (is_legal k) k.blocks 2 && greys_pass k

-- "an allocated block that isn't doomed"; "while marking the root is not white and no black block names a white one"
abbrev pub may_be_named : Bool → State → Bool
may_be_named strict LiveWhite = not strict
may_be_named strict Doomed = false
may_be_named strict Grey = true
may_be_named strict Black = true
may_be_named strict Free = false
may_be_named strict Outside = false

-- "0 or names an allocated block that isn't doomed"
unfoldable pub may_name : Regs → Colouring → Bool → ℕ → Bool
may_name r k strict x = eqb x 0 || may_be_named strict (state_in r k x)

unfoldable pub may_name_all : Regs → Colouring → Bool → List ℕ → Bool
may_name_all r k strict [] = true
may_name_all r k strict (x ∷ xs) = may_name r k strict x && may_name_all r k strict xs

-- "its words 1 to 7 are 0"
unfoldable pub zero_from : ℕ → ℕ → List ℕ → Bool
zero_from zero w part = true
zero_from (suc n) w part = eqb (get_or part w 0) 0 && zero_from n (w + 1) part

-- of the block b in the state s, whose words are part and whose byte is byte
unfoldable pub state_passes : Regs → Colouring → List ℕ → ℕ → ℕ → State → Bool
state_passes r k part byte b LiveWhite = may_name_all r k false (references part byte)
state_passes r k part byte b Doomed = true
state_passes r k part byte b Grey = eqb r.phase marking && may_name_all r k false (references part byte)
state_passes r k part byte b Black = may_be_black r b && may_name_all r k (eqb r.phase marking) (references part byte)
state_passes r k part byte b Free = eqb byte 0 && zero_from 7 1 part
state_passes r k part byte b Outside = false

-- "The audit also asks that blocks above the mark be free."
unfoldable pub mark_passes : Regs → Colouring → ℕ → Bool
mark_passes r k b = leb b r.mark || is_free k b

unfoldable pub block_passes : Heap → ℕ → Bool
block_passes h b =
    mark_passes h.regs (colouring h) b
    && state_passes h.regs (colouring h) (eight_words h.words b) (byte_of h.bytes b) b (state_of h b)

-- "the free list ends, has exactly the free blocks .. and free count of them"
unfoldable pub frees_pass : Regs → List ℕ → Colouring → Bool
frees_pass r ws k =
    eqb (count_from (is_free k) r.blocks 2) r.count && walk (is_free k) (λ b. word_of ws b 0) 0 r.count r.free

unfoldable pub passes : Heap → Bool
passes h =
    eqb (entry h) 0
    && (layout_passes (colouring h)
    && (all_from (block_passes h) h.regs.blocks 2
    && (may_name h.regs (colouring h) (eqb h.regs.phase marking) h.regs.root
    && frees_pass h.regs h.words (colouring h))))

-- "Audit: 1 for a well-formed heap, else 0. It never refuses and changes nothing."
unfoldable pub audit : Heap → Given
audit h = done (if passes h then 1 else 0) h
