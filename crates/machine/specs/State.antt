-- What a number is to a call: the one place that tells a doomed block, by phase and position.
--     ahead r b            the sweep has not reached b yet
--     state_from r b c      the state of b, whose colour is c
--     state_in r k b        the state of the number b, by the registers and the colours
--     state_of h b          the same in the heap h
--     is_live s             an allocated block that isn't doomed
--     refusal_of n s        document 01's refusal number for a block of that state: n where it is free or doomed, 8 outside the layout
--     holder_refusal h b    "the block to read or write"
--     target_refusal h t    "the target"
-- Two more things ask phase and position, and are no states: they don't say what b is, they say what colour it may be given or have.
--     may_be_black r b       a block b may be black
--     new_colour r b        the colour of the new block b
-- Assumes nothing.
use Rattle.std.specs.Prelude.{ℕ, Bool, true, false, ◌&&◌, ◌||◌, leb, eqb, if◌then◌else◌}
use Rattle.machine.specs.declared.Regs.{Regs}
use Rattle.machine.specs.declared.Colour.{Colour}
use Rattle.machine.specs.declared.Colour.TheVariants as colours
use Rattle.machine.specs.declared.State.{State}
use Rattle.machine.specs.declared.State.TheVariants.{LiveWhite, Doomed, Grey, Black, Free, Outside}
use Rattle.machine.specs.Registers.{marking, sweeping}
use Rattle.machine.specs.Colouring.{Colouring, colour_in}
use Rattle.machine.specs.Heap.{Heap, colouring}

unfoldable pub ahead : Regs → ℕ → Bool
ahead r b = eqb r.phase sweeping && leb r.position b

-- "It is doomed when the phase is sweeping, its number is at least the position, and it is white."
unfoldable pub state_from : Regs → ℕ → Colour → State
state_from r b colours.White = if ahead r b then Doomed else LiveWhite
state_from r b colours.Grey = Grey
state_from r b colours.Black = Black
state_from r b colours.Free = Free
state_from r b colours.Outside = Outside

unfoldable pub state_in : Regs → Colouring → ℕ → State
state_in r k b = state_from r b (colour_in k b)

abbrev pub state_of : Heap → ℕ → State
state_of h b = state_in h.regs (colouring h) b

-- "an allocated block that isn't doomed"
abbrev pub is_live : State → Bool
is_live LiveWhite = true
is_live Doomed = false
is_live Grey = true
is_live Black = true
is_live Free = false
is_live Outside = false

abbrev pub refusal_of : ℕ → State → ℕ
refusal_of n LiveWhite = 0
refusal_of n Doomed = n
refusal_of n Grey = 0
refusal_of n Black = 0
refusal_of n Free = n
refusal_of n Outside = 8

-- 8: "an illegal colour word on the block"; 5: "the block to read or write is free or doomed"
unfoldable pub holder_refusal : Heap → ℕ → ℕ
holder_refusal h b = refusal_of 5 (state_of h b)

-- 8: "an illegal colour word on the .. target"; 6: "the target is free or doomed"; no block is no trouble
unfoldable pub target_refusal : Heap → ℕ → ℕ
target_refusal h t = if eqb t 0 then 0 else refusal_of 6 (state_of h t)

-- "no block is black when idle; while sweeping no block below the position is black"
unfoldable pub may_be_black : Regs → ℕ → Bool
may_be_black r b = eqb r.phase marking || ahead r b

-- "The new block is black while marking, black while sweeping if its number is at least the position, else white."
unfoldable pub new_colour : Regs → ℕ → Colour
new_colour r b = if may_be_black r b then colours.Black else colours.White
