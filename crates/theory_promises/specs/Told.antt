-- What State tells on a well-formed heap, and what document 01's refusals and reachability make of it.
--     Told h               what holds on the heap h
-- Assumes nothing.
use Rattle.std.specs.Prelude.{ℕ, ◌≤◌, ◌≡◌, ◌↔◌, true}
use Rattle.machine.specs.declared.State.TheVariants.{Outside}
use Rattle.machine.specs.Heap.{Heap}
use Rattle.machine.specs.State.{state_of, is_live, refusal_of}
use Rattle.machine.specs.Answers.{done}
use Rattle.machine.specs.Read.{read}
use Rattle.machine.specs.Tell.{state_number, tell_state}
use Rattle.machine.specs.WellFormed.{Block}
use Rattle.theory_promises.specs.Reachable.{Reachable}

pub record Told (h : Heap) : Type 0 where
  -- it is refused for no number, and changes nothing
  pub answers : (b : ℕ) → tell_state b h ≡ done (state_number (state_of h b)) h
  -- a number that is no block is outside the layout, and nothing else is
  pub outside : (b : ℕ) → (state_of h b ≡ Outside) ↔ (Block h.regs.blocks b → ⊥)
  -- Read is refused by document 01's number for the state
  pub reads : (b w : ℕ) → Block h.regs.blocks b → w ≤ 7 → (read b w h).answer.refusal ≡ refusal_of 5 (state_of h b)
  -- what is reachable is neither doomed nor free
  pub reachable : (b : ℕ) → Reachable h b → is_live (state_of h b) ≡ true
