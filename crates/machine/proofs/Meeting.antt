-- The step that a unit takes, by the colour of the block that it meets.
--     white_word               only one word is white
--     idle_begins              idle: a root that is 0 or white
--     mark_steps               marking: the first of the grey list
--     sweep_steps              sweeping: the block at the position
-- Document 01's match takes the colour word met. These say the same of its colour, for whoever asks for colours alone.
-- Assumes nothing.
use Prim.Native.Nat.{ℕ, ◌+◌}
use mathlib.Core.Path.{◌≡◌, sym, ◌∙◌}
use mathlib.Core.Logic.{◌≢◌}
use native.Mathlib.Omega.{arith}
use lib.Dec.{leb}
use borrow.Author.Tests.{eq-eqb, ne_eqb, leb-true, leb-false}
use Rattle.machine.specs.declared.Colour.TheVariants.{White}
use Rattle.machine.specs.declared.Step.TheVariants.{Begin}
use Rattle.machine.specs.Registers.{idle, marking, sweeping}
use Rattle.machine.specs.Colouring.{white, black, freed, colour, first_grey}
use Rattle.machine.specs.Heap.{Heap, colouring, colour_of}
use Rattle.machine.specs.WellFormed.{Block}
use Rattle.machine.specs.OneUnit.{mark_step, sweep_step, step, met_block, met_word}
use Rattle.machine.proofs.Tests.{by_test, by_eq}
use Rattle.machine.proofs.Blocks.{below_is_block, block_is_block}
use Rattle.machine.proofs.Colours.{is_black, is_free_lem, is_grey_lem, is_outside}
use Rattle.machine.proofs.Steps.{never, begins, marking_as, sweeping_as}
use Rattle.machine.proofs.Linked.{linked}
use Rattle.machine.proofs.Kept.{met_grey}

pub white_word : (m word : ℕ) → colour m word ≡ White → word ≡ white
white_word m word e =
    by_eq word white (λ z. z) (λ w.
    by_eq word black (λ z. let q = is_black m word z in never (cc)) (λ k.
    by_eq word freed (λ z. let q = is_free_lem m word z in never (cc)) (λ f.
    by_test (leb word (m + 1))
    (λ t. let q = is_grey_lem m word w k f (leb-true word (m + 1) t) in never (cc))
    (λ t. let q = is_outside m word w k f (leb-false word (m + 1) t) in never (cc)))))

module _ (h : Heap) where
  abbrev m : ℕ
  m = h.regs.blocks

  root_met : h.regs.phase ≡ idle → (h.regs.root ≢ 0 → colour_of h h.regs.root ≡ White) → met_word h ≡ white
  unfolding met_word met_block
  root_met i f =
      by_eq h.regs.root 0
      (λ z. simp (eq-eqb h.regs.phase idle i, below_is_block m h.regs.root (omega arith)))
      (λ n.
      let c = f n in
      let l = linked.inside (colouring h) h.regs.root (λ o. never (cc)) in
      simp (eq-eqb h.regs.phase idle i, block_is_block m h.regs.root l)
      (white_word m _ (sym (linked.word (colouring h) h.regs.root l) ∙ c)))

  pub idle_begins : h.regs.phase ≡ idle → (h.regs.root ≢ 0 → colour_of h h.regs.root ≡ White) → Begin ≡ step m h.regs.phase h.regs.grey (met_word h)
  idle_begins i f = begins m h.regs.phase h.regs.grey (met_word h) i (root_met i f)

  pub mark_steps :
      h.regs.phase ≡ marking → h.regs.grey ≢ 1 → Block m (first_grey (colouring h))
      → mark_step (colour_of h (first_grey (colouring h))) ≡ step m h.regs.phase h.regs.grey (met_word h)
  mark_steps k n l = marking_as m h.regs.phase h.regs.grey (met_word h) k n (met_grey h k l)

  pub sweep_steps :
      h.regs.phase ≡ sweeping → Block m h.regs.position
      → sweep_step (colour_of h h.regs.position) ≡ step m h.regs.phase h.regs.grey (met_word h)
  unfolding met_word met_block
  sweep_steps s l =
      sweeping_as m h.regs.phase h.regs.grey (met_word h) s
      (linked.word (colouring h) h.regs.position l
      ∙ simp (ne_eqb h.regs.phase idle (λ z. absurd (omega arith)), ne_eqb h.regs.phase marking (λ z. absurd (omega arith)), block_is_block _ _ l))
