-- What State tells on a well-formed heap.
--     told                     Told
-- Assumes nothing.
use Prim.Native.Nat.{ℕ, ◌≤◌}
use mathlib.Core.Path.{◌≡◌, refl, sym, ◌∙◌}
use mathlib.Core.Logic.{◌↔◌}
use borrow.Author.Tests.{eq-eqb, ne_eqb}
use Rattle.machine.specs.declared.Colour.{Colour}
use Rattle.machine.specs.declared.Colour.TheVariants as colours
use Rattle.machine.specs.declared.State.TheVariants.{Outside}
use Rattle.machine.specs.Heap.{Heap, colouring, colour_of}
use Rattle.machine.specs.State.{state_from, state_in, state_of, refusal_of}
use Rattle.machine.specs.Answers.{done, unless}
use Rattle.machine.specs.Read.{read_refusal, read_answer, read}
use Rattle.machine.specs.Tell.{state_number, tell_state}
use Rattle.machine.specs.WellFormed.{Block, WellFormed}
use Rattle.machine.proofs.Tests.{by_eq}
use Rattle.machine.proofs.Blocks.{block_is_block}
use Rattle.machine.proofs.Steps.{never}
use Rattle.machine.proofs.Entering.{ready_entry}
use Rattle.machine.proofs.Refusals.{passes, entered, word_fits, holder_as, within_layout}
use Rattle.machine.proofs.Linked.{linked}
use Rattle.theory_promises.specs.Told.{Told}
use Rattle.theory_promises.proofs.Viewing.{wf_shape}
use Rattle.theory_promises.proofs.Losing.{reachable_live}

-- Read's answer has its refusal
read_refused_lem : (h : Heap) (b w : ℕ) → (read b w h).answer.refusal ≡ read_refusal b w h
unfolding read read_answer
read_refused_lem h b w =
    by_eq (read_refusal b w h) 0
    (λ z. simp (eq-eqb (read_refusal b w h) 0 z) (sym z))
    (λ z. simp (ne_eqb (read_refusal b w h) 0 z))

module _ (h : Heap) (f : WellFormed h) where
  answers : (b : ℕ) → tell_state b h ≡ done (state_number (state_of h b)) h
  unfolding tell_state unless
  answers b = simp (eq-eqb _ _ (ready_entry h (wf_shape h f).ready))

  -- a number that is no block has no colour of the layout
  no_block_lem : (b : ℕ) → (Block h.regs.blocks b → ⊥) → state_of h b ≡ Outside
  unfolding state_in state_from
  no_block_lem b n = go (colour_of h b) refl
    where
      none : {c : Colour} → colour_of h b ≡ c → (c ≡ colours.Outside → ⊥) → state_from h.regs b c ≡ Outside
      none e o = absurd (n (linked.inside (colouring h) b (λ z. o (sym e ∙ z))))

      go : (c : Colour) → colour_of h b ≡ c → state_from h.regs b c ≡ Outside
      go colours.White e = none e (λ z. never (cc))
      go colours.Grey e = none e (λ z. never (cc))
      go colours.Black e = none e (λ z. never (cc))
      go colours.Free e = none e (λ z. never (cc))
      go colours.Outside e = refl

  outside : (b : ℕ) → (state_of h b ≡ Outside) ↔ (Block h.regs.blocks b → ⊥)
  outside b = (λ e l. within_layout h.regs (colouring h) b (f.colours b l) e, no_block_lem b)

  reads : (b w : ℕ) → Block h.regs.blocks b → w ≤ 7 → (read b w h).answer.refusal ≡ refusal_of 5 (state_of h b)
  unfolding read_refusal
  reads b w l i =
      read_refused_lem h b w
      ∙ sym
      (passes (entered h f.fitting f.registers) refl
      (passes (word_fits h.regs.blocks b w (block_is_block _ b l) i) refl (holder_as h b _ (state_of h b) refl refl)))

  pub told : Told h
  told = record { answers = answers; outside = outside; reads = reads; reachable = λ b r. (reachable_live h f b r).live }
