-- Instances of the sharper demand 3: its premises are met where demand 3's rule can't be, and a cycle's bound is met exactly.
--     Slow                     what a pace of 3 or 4 has room for: nothing by demand 3's rule, and any K by the sharper one
--     slow                     allocations at the root
--     Unhurried                80 of them at a pace of 3, on 20 blocks of which 14 are enough: the mark stays below
--     sofar, Met               a cycle that takes K + H + 2 units, and the deeds before it
-- Assumes nothing.
use Rattle.std.specs.Prelude.{ℕ, ◌+◌, ◌*◌, ◌≤◌, ◌≡◌, ◌≢◌, List, [], ◌∷◌, ◌++◌, length, replicate}
use Rattle.machine.specs.Format.{formatted}
use Rattle.machine.specs.Session.{Call, does, session}
use Rattle.machine.specs.Session.Call.{Allocate, Work}
use Rattle.theory_promises.specs.Deeds.{Deed, a_unit, deed, after}
use Rattle.theory_promises.specs.Sessions.{session_deeds, units_in}
use Rattle.theory_promises.specs.Demand3.{blocks_up_to_mark, then_unit, cycles, Few, Premises, Asking}
use Rattle.theory_promises.specs.Sharper.{short_cycles, ProperCycle, peak}
use Rattle.theory_promises.specs.Instances.{churn}
use Rattle.theory_promises.specs.CycleInstances.{two_taken, taking, both, large}

-- single blocks
pub record Slow : Type 0 where
  pub refused : (m u k : ℕ) → 1 ≤ u → u ≤ 4 → k + 2 * cycles m u ≤ m → ⊥
  pub three : (k : ℕ) → k + 2 * short_cycles k (5 * k + 4) 3 ≤ 5 * k + 4
  pub four : (k : ℕ) → k + 2 * short_cycles k (3 * k + 2) 4 ≤ 3 * k + 2

-- each lets go of the block before
abbrev pub slow : List Call
slow = churn (replicate 80 0)

pub record Unhurried : Type 0 where
  pub many : length slow ≡ 80
  pub premises : Premises 20 3 2 slow
  pub asking : Asking 1 slow (formatted 20 3)
  pub enough : 2 + 2 * short_cycles 2 14 3 ≡ 14
  pub stays : (session slow (formatted 20 3)).regs.mark ≤ 14 + 1
  pub room : (b w : ℕ) → (does (Allocate b w) (session slow (formatted 20 3))).answer.refusal ≢ 7
  pub fits : 2 + 2 * short_cycles 2 20 3 ≤ 20
  pub margin : 20 ≤ (session slow (formatted 20 3)).regs.count + 2 + 2 * short_cycles 2 20 3
  -- at most 5 were ever allocated at once
  pub mark : (session slow (formatted 20 3)).regs.mark ≡ 6
  pub most : peak (session_deeds slow (formatted 20 3)) (formatted 20 3) ≡ 5

-- the cycle of Sparse: two blocks are reachable when it begins, and no others were ever taken
abbrev pub sofar : List Deed
sofar = a_unit ∷ then_unit taking

pub record Met : Type 0 where
  pub cycle : ProperCycle large (two_taken ++ Work 6 ∷ []) sofar (then_unit both) []
  pub few : Few 2 (after sofar large)
  pub short : units_in (a_unit ∷ then_unit both) ≤ 2 + blocks_up_to_mark (after (then_unit both) (deed a_unit (after sofar large))) + 2
  pub exact : units_in (a_unit ∷ then_unit both) ≡ 2 + blocks_up_to_mark (after (then_unit both) (deed a_unit (after sofar large))) + 2
