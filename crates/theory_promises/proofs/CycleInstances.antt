-- Cycles whose units are counted, on the machine itself.
--     sparse, rising, skipped  the instances: what is counted is computed, and the promise says how the counts go together
-- Assumes nothing.
use Prim.Native.Nat.{ℕ}
use mathlib.Core.Path.{◌≡◌, refl}
use mathlib.Core.List.{List, [], ◌∷◌, ◌++◌}
use native.Mathlib.Omega.{arith}
use Rattle.machine.specs.Heap.{Heap}
use Rattle.machine.specs.WellFormed.{WellFormed}
use Rattle.machine.specs.Session.{Call}
use Rattle.machine.specs.Session.Call.{Allocate, Work}
use Rattle.machine.proofs.Tests.{clash}
use Rattle.machine.proofs.Computing.{the_machine}
use Rattle.theory_promises.specs.Deeds.{a_take, acted, Deed, a_unit, an_act, deed, after}
use Rattle.theory_promises.specs.Plans.{plan}
use Rattle.theory_promises.specs.Sessions.{NoReset, session_deeds, units_in, marks_in}
use Rattle.theory_promises.specs.Demand3.{allocated_blocks, blocks_up_to_mark, then_unit}
use Rattle.theory_promises.specs.CycleInstances.{Cycle, Counts, two_taken, taking, both, large, Sparse, small, Rising, unused, Skipped}
use Rattle.theory_promises.proofs.FreshHeap.{fresh_formed}
use Rattle.theory_promises.proofs.Bounding.{cycle_short}
use Rattle.theory_promises.proofs.Instances.{marks, sweeps}

-- what is counted, and the promise of it
module _ {h : Heap} {cs : List Call} {xs ys zs : List Deed} (c : Cycle h cs xs ys zs) (f : WellFormed h) (n : NoReset cs h) where
  counts : {u a m k : ℕ} → units_in (a_unit ∷ then_unit ys) ≡ u → allocated_blocks (after xs h) ≡ a
      → marks_in (then_unit ys) (deed a_unit (after xs h)) ≡ m → blocks_up_to_mark (after (then_unit ys) (deed a_unit (after xs h))) ≡ k → Counts h xs ys u a m k
  counts p q r t =
      let e = cycle_short.exact h f cs n xs ys zs c.deeds c.starts c.begun c.ends in
      let l = cycle_short.short h f cs n xs (then_unit ys) zs c.deeds c.starts c.begun in
      record { units = p; allocated = q; marked = r; high = t; exact = omega arith; most = omega arith }

pub sparse : Sparse
unfolding the_machine session_deeds plan acted deed after
sparse =
    let cycle : Cycle large (two_taken ++ Work 6 ∷ []) (a_unit ∷ then_unit taking) both [] =
    record { deeds = refl; starts = refl; begun = (marks, (marks, (marks, (sweeps, (sweeps, tt))))); ends = refl } in
    record {
      cycle = cycle;
      counts =
          counts cycle (fresh_formed 20 1 (omega arith) (omega arith) (omega arith))
          (λ z. clash z refl, (λ z. clash z refl, (λ z. clash z refl, (λ z. clash z refl, tt))))
          refl refl refl refl;
    }

pub rising : Rising
unfolding the_machine session_deeds plan acted deed after
rising =
    let cycle : Cycle small two_taken [] taking [] =
    record { deeds = refl; starts = refl; begun = (λ z. z, (marks, (λ z. z, (sweeps, (sweeps, tt))))); ends = refl } in
    record {
      cycle = cycle;
      counts =
          counts cycle (fresh_formed 3 1 (omega arith) (omega arith) (omega arith))
          (λ z. clash z refl, (λ z. clash z refl, (λ z. clash z refl, tt)))
          refl refl refl refl;
      lower = omega arith;
    }

pub skipped : Skipped
unfolding the_machine session_deeds plan acted deed after
skipped =
    let cycle : Cycle unused (Allocate 0 0 ∷ []) [] [] (an_act (a_take 0 0) ∷ []) =
    record { deeds = refl; starts = refl; begun = (marks, tt); ends = refl } in
    record {
      cycle = cycle;
      counts =
          counts cycle (fresh_formed 3 2 (omega arith) (omega arith) (omega arith))
          (λ z. clash z refl, tt)
          refl refl refl refl;
      white = refl;
      higher = refl;
    }
