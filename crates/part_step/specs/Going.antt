-- Some of the units of a run: what has been done of it, and that the rest of the run is the run's.
--     left_by e k i h       what is left of a run with k units to do and i done: nothing where damage ended it
--     Went n h o ws cs bs  of n units from h those are done that o says: at least one, or damage; and the whole is what is left
-- Assumes nothing.
use Rattle.std.specs.Prelude.{ℕ, ◌+◌, ◌-◌, ◌≤◌, ◌≡◌, List, Result, Ok, Err}
use Rattle.machine.specs.declared.Damaged.{Damaged}
use Rattle.machine.specs.declared.Ran.{Ran}
use Rattle.machine.specs.Heap.{Heap, heap}
use Rattle.machine.specs.Ready.{Ready}
use Rattle.machine.specs.Units.{RunEnd, run, stopped}

unfoldable pub left_by : Result (Unit {0}) Damaged → ℕ → ℕ → Heap → RunEnd
left_by (Ok x) k i h = run k i h
left_by (Err d) k i h = stopped 8 i h

pub record Went (n : ℕ) (h : Heap) (o : Ran) (ws cs bs : List ℕ) : Type 0 where
  pub within : o.units ≤ n
  pub onward : o.end ≡ Ok tt → 1 ≤ o.units
  pub ready : o.end ≡ Ok tt → Ready (heap o.regs ws cs bs)
  -- however many units i were done before
  pub whole : (i : ℕ) → run n i h ≡ left_by o.end (n - o.units) (i + o.units) (heap o.regs ws cs bs)
