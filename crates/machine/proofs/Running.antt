-- Laws of one unit.
--     met_as, met_at           the word of the block met, told from that block
--     meets_root, meets_grey, meets_position     the block met, by the phase
--     met_word_lem                 the word read of the block met, in any phase
--     met_marking, met_sweeping     the same while marking and while sweeping
--     unit_by                  the unit is the act of the step that was picked
--     marks_block, sweeps_block     the block that a unit meets
--     marking_stays            a unit that marks leaves the phase
-- Assumes nothing.
use Prim.Native.Nat.{ℕ}
use mathlib.Core.Path.{◌≡◌, refl, sym, ◌∙◌, ap}
use mathlib.Core.Logic.{◌≢◌}
use mathlib.Core.List.{List}
use native.Mathlib.Omega.{arith}
use borrow.Author.Tests.{eq-eqb, ne_eqb}
use Rattle.machine.specs.declared.Regs.{Regs}
use Rattle.machine.specs.declared.Step.{Step}
use Rattle.std.specs.Prelude.{if◌then◌else◌}
use Rattle.machine.specs.Registers.{idle, marking, sweeping}
use Rattle.machine.specs.Block.{is_block}
use Rattle.machine.specs.Colouring.{Colouring, coloured, white, colour_word, word_in, first_grey}
use Rattle.machine.specs.Heap.{Heap, heap, colouring, references_of}
use Rattle.machine.specs.WellFormed.{Block}
use Rattle.machine.specs.Ready.{Ready}
use Rattle.machine.specs.OneUnit.{UnitEnd, step, met_block, word_met, met_word, all_sound, marked, act, unit}
use Rattle.machine.proofs.Tests.{if_ind}
use Rattle.machine.proofs.Blocks.{block_is_block}
use Rattle.machine.proofs.Colours.{head_block}
use Rattle.machine.proofs.Steps.{step_cases}

-- the word read of a block is that of the block met, where it is the block met
module _ (r : Regs) (k : Colouring) {b word : ℕ} (e : met_block r k ≡ b) where
  pub met_as : word ≡ (if is_block k.blocks b then word_in k b else white) → word ≡ word_met r k
  met_as w = w ∙ rw e refl

  pub met_at : Block k.blocks b → word ≡ word_in k b → word ≡ word_met r k
  met_at l w = w ∙ rw e (simp (block_is_block k.blocks b l))

-- the block met, by the phase
pub meets_root : (r : Regs) (k : Colouring) → r.phase ≡ idle → met_block r k ≡ r.root
unfolding met_block
meets_root r k i = simp (eq-eqb r.phase idle i)

pub meets_grey : (r : Regs) (k : Colouring) → r.phase ≡ marking → met_block r k ≡ first_grey k
unfolding met_block
meets_grey r k e = rw e refl

pub meets_position : (r : Regs) (k : Colouring) → r.phase ≢ idle → r.phase ≢ marking → met_block r k ≡ r.position
unfolding met_block
meets_position r k i n = simp (ne_eqb r.phase idle i, ne_eqb r.phase marking n)

module _ (r : Regs) (ws cs bs : List ℕ) where
  abbrev here : Heap
  here = heap r ws cs bs

  -- what was read of the block met is what the machine reads
  pub met_word_lem : {word : ℕ} → word ≡ word_met r (coloured r.blocks r.grey cs) → word ≡ met_word here
  unfolding met_word
  met_word_lem w = w

  pub met_marking : {word : ℕ} → r.phase ≡ marking → Block r.blocks r.grey → word ≡ colour_word cs r.grey → word ≡ met_word here
  unfolding met_word met_block
  met_marking k b w = w ∙ rw k (simp (block_is_block r.blocks r.grey b))

  pub met_sweeping : {word : ℕ} → r.phase ≡ sweeping → Block r.blocks r.position → word ≡ colour_word cs r.position → word ≡ met_word here
  unfolding met_word met_block
  met_sweeping p b w = w ∙ rw p (simp (block_is_block r.blocks r.position b))

  -- the unit is the act of the step that was picked
  pub unit_by : {word : ℕ} → word ≡ met_word here → {s t : Step} {e : UnitEnd} → s ≡ step r.blocks r.phase r.grey word → s ≡ t → e ≡ act t here → e ≡ unit here
  unfolding unit
  unit_by w q t a = a ∙ ap (λ (x : Step). act x here) (sym t ∙ q ∙ ap (step r.blocks r.phase r.grey) w)

-- the blocks that a unit meets, where the registers are legal
pub marks_block : (h : Heap) → Ready h → h.regs.grey ≢ 1 → Block h.regs.blocks h.regs.grey
marks_block h d n = (head_block _ _ _ d.grey n).1

pub sweeps_block : (h : Heap) → Ready h → h.regs.phase ≡ sweeping → Block h.regs.blocks h.regs.position
sweeps_block h d s =
    let p = d.placed s in
    let k = d.marked in
    record { low = p.0; high = omega arith }

-- a unit with a grey block leaves the phase marking
pub marking_stays : (h : Heap) → h.regs.phase ≡ marking → h.regs.grey ≢ 1 → (unit h).heap.regs.phase ≡ marking
unfolding unit act marked
marking_stays h k n =
    step_cases (λ s. (act s h).heap.regs.phase ≡ marking) h.regs.blocks h.regs.phase h.regs.grey (met_word h)
    (λ i w. absurd (omega arith))
    (λ m o. absurd (n o))
    (λ m o c.
    if_ind (λ (e : UnitEnd). e.heap.regs.phase ≡ marking) (all_sound (colouring h) (references_of h h.regs.grey))
    (λ a. k)
    (λ a. k))
    (λ s c. absurd (omega arith))
    (λ s c. absurd (omega arith))
    (λ s c. absurd (omega arith))
    k
