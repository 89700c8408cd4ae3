-- Instances: cycles whose units are counted.
--     Cycle h cs xs ys zs      a cycle in the session cs from h: after the deeds xs its first unit, then ys, then its last unit, then zs. These
--                              are what demand 3's first bound asks for
--     Counts h xs ys u a m n   it takes u units, a blocks are allocated at its start, it marks m, and H is n: u is 2 + m + n, at most a + n + 2
--     Sparse                   on 20 blocks of which two were ever used: 6 units
--     Rising                   the first cycle of a heap of 3 blocks, in which two are taken, as in cases 3 and 4 of document 01: 4 units
--     Skipped                  on a heap that was never used: 2 units, the second of which skips the sweep; a block is taken after it
-- Assumes nothing.
use Rattle.std.specs.Prelude.{ℕ, ◌+◌, ◌≤◌, ◌<◌, ◌≡◌, List, [], ◌∷◌, ◌++◌}
use Rattle.machine.specs.declared.Colour.TheVariants.{White}
use Rattle.machine.specs.Registers.{idle}
use Rattle.machine.specs.Heap.{Heap, colour_of}
use Rattle.machine.specs.Format.{formatted}
use Rattle.machine.specs.Session.{Call, session}
use Rattle.machine.specs.Session.Call.{Allocate, Work}
use Rattle.theory_promises.specs.Deeds.{a_take, Deed, a_unit, an_act, deed, after}
use Rattle.theory_promises.specs.Sessions.{session_deeds, NoBegin, units_in, marks_in}
use Rattle.theory_promises.specs.Demand3.{allocated_blocks, blocks_up_to_mark, then_unit}

pub record Cycle (h : Heap) (cs : List Call) (xs ys zs : List Deed) : Type 0 where
  pub deeds : session_deeds cs h ≡ xs ++ (a_unit ∷ (then_unit ys ++ zs))
  pub starts : (after xs h).regs.phase ≡ idle
  pub begun : NoBegin (then_unit ys) (deed a_unit (after xs h))
  pub ends : (after (then_unit ys) (deed a_unit (after xs h))).regs.phase ≡ idle

pub record Counts (h : Heap) (xs ys : List Deed) (u a m n : ℕ) : Type 0 where
  pub units : units_in (a_unit ∷ then_unit ys) ≡ u
  pub allocated : allocated_blocks (after xs h) ≡ a
  pub marked : marks_in (then_unit ys) (deed a_unit (after xs h)) ≡ m
  pub high : blocks_up_to_mark (after (then_unit ys) (deed a_unit (after xs h))) ≡ n
  pub exact : u ≡ 2 + m + n
  pub most : u ≤ a + n + 2

-- 2 at the root and 3 in its word 0, to the end of the cycle
abbrev pub two_taken : List Call
two_taken = Allocate 0 0 ∷ Allocate 2 0 ∷ Work 2 ∷ []

-- the deeds of these calls between the first unit and the last
abbrev pub taking : List Deed
taking = an_act (a_take 0 0) ∷ a_unit ∷ an_act (a_take 2 0) ∷ a_unit ∷ []

-- 2 and 3 are marked, the cycle turns, 2 is swept; its last unit sweeps 3
abbrev pub both : List Deed
both = a_unit ∷ a_unit ∷ a_unit ∷ a_unit ∷ []

abbrev pub large : Heap
large = formatted 20 1

pub record Sparse : Type 0 where
  pub cycle : Cycle large (two_taken ++ Work 6 ∷ []) (a_unit ∷ then_unit taking) both []
  pub counts : Counts large (a_unit ∷ then_unit taking) both 6 2 2 2

abbrev pub small : Heap
small = formatted 3 1

-- H is that at the cycle's end: with the one at its start the bound would not hold
pub record Rising : Type 0 where
  pub cycle : Cycle small two_taken [] taking []
  pub counts : Counts small [] taking 4 0 0 2
  pub lower : allocated_blocks small + blocks_up_to_mark small + 2 < units_in (a_unit ∷ then_unit taking)

abbrev pub unused : Heap
unused = formatted 3 2

-- the cycle's end is its last unit: with the mark as it is after the call the count would be wrong
pub record Skipped : Type 0 where
  pub cycle : Cycle unused (Allocate 0 0 ∷ []) [] [] (an_act (a_take 0 0) ∷ [])
  pub counts : Counts unused [] [] 2 0 0 0
  pub white : colour_of (session (Allocate 0 0 ∷ []) unused) 2 ≡ White
  pub higher : blocks_up_to_mark (session (Allocate 0 0 ∷ []) unused) ≡ 1
