-- One unit of collector work.
--     UnitEnd              how a unit ended: finished or not, and the heap afterwards
--     step m p g word      the step that a unit takes, by the phase p, the grey head g and the colour word met
--     met_block r k, met_word h     the block that the unit meets first, and its colour word (white where there is none)
--     begun, marked, turned, reclaimed, whitened, passed     the heap after each step
--     unit h               one unit: every test before the first write
--     ended r o ws cs bs   what a unit's answer means, with the registers before and the buffers afterwards
-- Assumes nothing.
use Rattle.std.specs.Prelude.{ℕ, ◌+◌, Bool, true, false, ◌&&◌, ◌||◌, List, [], ◌∷◌, Result, Ok, Err, eqb, if◌then◌else◌}
use Rattle.machine.specs.declared.Regs.{Regs}
use Rattle.machine.specs.declared.Colour.{Colour}
use Rattle.machine.specs.declared.Colour.TheVariants.{White, Grey, Black, Free, Outside}
use Rattle.machine.specs.declared.Step.{Step}
use Rattle.machine.specs.declared.Step.TheVariants.{Begin, Mark, Turn, Reclaim, Whiten, Pass, Damage}
use Rattle.machine.specs.declared.Damaged.{Damaged}
use Rattle.machine.specs.Registers.{idle, marking, sweeping, with_phase, with_free, with_count, with_position, with_cycle, next_cycle, sweep_end}
use Rattle.machine.specs.Block.{is_block, with_eight, free_words, clear_byte}
use Rattle.machine.specs.Colouring.{Colouring, white, colour, word_in, painted, to_grey, to_black, first_grey, grey_all, is_allocated}
use Rattle.machine.specs.Heap.{Heap, heap, colouring, with_regs, with_colours, with_colouring, references_of}

pub record UnitEnd : Type 0 where
  pub finished : Bool
  pub heap : Heap

abbrev pub finish : Heap → UnitEnd
finish h = record { finished = true; heap = h }

-- "A unit tests all of this before it writes."
abbrev pub damage : Heap → UnitEnd
damage h = record { finished = false; heap = h }

-- "in a unit, a grey head whose colour isn't grey"
abbrev pub mark_step : Colour → Step
mark_step White = Damage
mark_step Grey = Mark
mark_step Black = Damage
mark_step Free = Damage
mark_step Outside = Damage

-- "White is freed ... Black becomes white. Free stays."; 8 for "a grey or illegal colour under the sweep"
abbrev pub sweep_step : Colour → Step
sweep_step White = Reclaim
sweep_step Grey = Damage
sweep_step Black = Whiten
sweep_step Free = Pass
sweep_step Outside = Damage

-- "Which of these steps a unit takes is decided by phase, grey head and colour word alone."
-- 8 when idle: "a root neither 0 nor white at a cycle's start"
unfoldable pub step : ℕ → ℕ → ℕ → ℕ → Step
step m p g word =
    if eqb p idle then (if eqb word white then Begin else Damage) else
    if eqb p marking then (if eqb g 1 then Turn else mark_step (colour m word)) else
    if eqb p sweeping then sweep_step (colour m word) else Damage

-- idle: the root; marking: the first of the grey list; sweeping: "the block at the position"
unfoldable pub met_block : Regs → Colouring → ℕ
met_block r k =
    if eqb r.phase idle then r.root else
    if eqb r.phase marking then first_grey k else r.position

-- the word of the block met, or white where there is none
abbrev pub word_met : Regs → Colouring → ℕ
word_met r k = if is_block k.blocks (met_block r k) then word_in k (met_block r k) else white

unfoldable pub met_word : Heap → ℕ
met_word h = word_met h.regs (colouring h)

-- "Idle: cycle number plus one, phase 1; a root that isn't 0 becomes grey."
unfoldable pub begun : Heap → Heap
begun h =
    with_colouring (if eqb h.regs.root 0 then colouring h else to_grey h.regs.root (colouring h))
    (with_regs (with_phase marking (with_cycle (next_cycle h.regs.cycle) h.regs)) h)

-- "Marking, grey list not empty: take its first block, make it black, then for words 0 to 7 in order grey each white block named by a
-- reference word."
unfoldable pub marked : Heap → Heap
marked h =
    with_colouring (grey_all (references_of h (first_grey (colouring h))) (to_black (colouring h))) h

-- 8: "a reference in a marked block that isn't 0 or an allocated block"
abbrev pub sound : Colouring → ℕ → Bool
sound k b = eqb b 0 || is_allocated k b

unfoldable pub all_sound : Colouring → List ℕ → Bool
all_sound k [] = true
all_sound k (b ∷ bs) = sound k b && all_sound k bs

-- "Marking, grey list empty: phase 2, position 2." "The sweep ends after that block, and straight away at the turn when there is none."
unfoldable pub turned_regs : Regs → Regs
turned_regs r = if eqb (sweep_end r) 1 then with_position 0 (with_phase idle r) else with_position 2 (with_phase sweeping r)

unfoldable pub turned : Heap → Heap
turned h = with_regs (turned_regs h.regs) h

-- "Position plus one; after M + 1, phase 0 and position 0.": after the mark
unfoldable pub advance : Regs → Regs
advance r =
    if eqb r.position (sweep_end r) then with_position 0 (with_phase idle r) else with_position (r.position + 1) r

-- "White is freed: the block's own eight words are handed on to be written, its byte is cleared, it goes to the front of the free list,
-- free count plus one."
unfoldable pub reclaimed : Heap → Heap
reclaimed h =
    heap
    (advance (with_count (h.regs.count + 1) (with_free h.regs.position h.regs)))
    (with_eight h.words h.regs.position (free_words h.regs.free))
    (painted h.regs.position Free (colouring h)).cells
    (clear_byte h.bytes h.regs.position)

-- "Black becomes white."
unfoldable pub whitened : Heap → Heap
whitened h =
    with_colours (painted h.regs.position White (colouring h)).cells (with_regs (advance h.regs) h)

-- "Free stays."
unfoldable pub passed : Heap → Heap
passed h = with_regs (advance h.regs) h

-- 8 when freeing: "free count already M when freeing"
unfoldable pub act : Step → Heap → UnitEnd
act Begin h = finish (begun h)
act Mark h =
    if all_sound (colouring h) (references_of h (first_grey (colouring h))) then finish (marked h) else damage h
act Turn h = finish (turned h)
act Reclaim h = if eqb h.regs.count h.regs.blocks then damage h else finish (reclaimed h)
act Whiten h = finish (whitened h)
act Pass h = finish (passed h)
act Damage h = damage h

unfoldable pub unit : Heap → UnitEnd
unit h = act (step h.regs.blocks h.regs.phase h.regs.grey (met_word h)) h

unfoldable pub ended : Regs → Result Regs Damaged → List ℕ → List ℕ → List ℕ → UnitEnd
ended r (Ok s) ws cs bs = finish (heap s ws cs bs)
ended r (Err d) ws cs bs = damage (heap r ws cs bs)
