-- The reason is the true one, and the path is the one asked for.
--     OutOfReach h b c     b is out of reach but not doomed, and its colour is c
--     SearchFinds h        the search of the well-formed heap h finds exactly the reachable blocks
--     WhyMeans h b         what the reason for the block b of the well-formed heap h means
-- Assumes nothing.
use Rattle.std.specs.Prelude.{ℕ, ◌≤◌, ◌≡◌, ◌↔◌, true, length}
use mathlib.Core.List.{List, [], Memᴰ}
use Rattle.machine.specs.declared.Colour.{Colour}
use Rattle.machine.specs.declared.Colour.TheVariants as colours
use Rattle.machine.specs.declared.State.TheVariants as states
use Rattle.machine.specs.declared.Reason.TheVariants as reasons
use Rattle.machine.specs.Colouring.{allocated_colour}
use Rattle.machine.specs.Heap.{Heap, colour_of}
use Rattle.machine.specs.State.{state_of}
use Rattle.machine.specs.WellFormed.{Coloured, Live}
use Rattle.machine.specs.Search.{Hop, search_of}
use Rattle.machine.specs.Tell.{state_number}
use Rattle.machine.specs.Why.{path_of, reason_of, kept_number}
use Rattle.machine.specs.Lists.{Distinct}
use Rattle.theory_promises.specs.Reachable.{Reachable}
use Rattle.theory_why.specs.Leads.{Leads, NoLater}

pub record OutOfReach (h : Heap) (b : ℕ) (c : Colour) : Type 0 where
  pub live : Live h b
  pub out : Reachable h b → ⊥
  pub colour : colour_of h b ≡ c

-- "A block is reachable if it is the root or if a reference word of a reachable block names it."
pub record SearchFinds (h : Heap) : Type 0 where
  pub exactly : (b : ℕ) → Memᴰ b (search_of h).blocks ↔ Reachable h b
  pub once : Distinct (search_of h).blocks

pub record WhyMeans (h : Heap) (b : ℕ) : Type 0 where
  -- "free; doomed"
  pub free : (reason_of h b ≡ reasons.Free) ↔ Coloured h colours.Free b
  pub doomed : (reason_of h b ≡ reasons.Doomed) ↔ (state_of h b ≡ states.Doomed)
  -- "reachable, with a path of (block, word) pairs from the root to it": the number told is that of its pairs
  pub reachable : (reason_of h b ≡ reasons.Reachable (length (path_of h b))) ↔ Reachable h b
  pub pairs : (n : ℕ) → reason_of h b ≡ reasons.Reachable n → n ≡ length (path_of h b)
  -- "or out of reach but not doomed, with its colour": white, grey or black
  pub kept : (c : Colour) → (reason_of h b ≡ reasons.Kept c) ↔ OutOfReach h b c
  pub coloured : (c : Colour) → reason_of h b ≡ reasons.Kept c → allocated_colour c ≡ true
  -- and in numbers the colour is told as State tells it
  pub numbered : (c : Colour) → reason_of h b ≡ reasons.Kept c → kept_number c ≡ state_number (state_of h b)
  -- the path leads from the root to the block
  pub leads : Reachable h b → Leads h h.regs.root (path_of h b) b
  -- "the fewest possible"
  pub fewest : Reachable h b → (ps : List Hop) → Leads h h.regs.root ps b → length (path_of h b) ≤ length ps
  -- "If several paths are equally short, the one with the smallest words from the root on is given."
  pub least :
      Reachable h b → (ps : List Hop) → Leads h h.regs.root ps b → length ps ≡ length (path_of h b)
      → NoLater (path_of h b) ps
  -- "The root itself has an empty path." So has a block that is not reachable.
  pub own : b ≡ h.regs.root → path_of h b ≡ []
  pub none : (Reachable h b → ⊥) → path_of h b ≡ []
