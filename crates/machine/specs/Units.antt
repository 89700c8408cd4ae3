-- Units in a row.
--     RunEnd               how a run of units ended: 0, or 8 where damage ended it; the units finished; the heap afterwards
--     run n i h            n more units after i, stopping at the first damage
--     damage_number e      the refusal number of a run that ended so
--     ran o ws cs bs       what an answered Ran means, with the buffers afterwards
-- Assumes nothing.
use Rattle.std.specs.Prelude.{ℕ, zero, suc, ◌+◌, List, Result, Ok, Err, if◌then◌else◌}
use Rattle.machine.specs.declared.Damaged.{Damaged}
use Rattle.machine.specs.declared.Ran.{Ran}
use Rattle.machine.specs.Heap.{Heap, heap}
use Rattle.machine.specs.OneUnit.{unit}

pub record RunEnd : Type 0 where
  pub refusal : ℕ
  pub units : ℕ
  pub heap : Heap

abbrev pub stopped : ℕ → ℕ → Heap → RunEnd
stopped n i h = record { refusal = n; units = i; heap = h }

-- "in Work and Allocate the units finished before it stand and are counted"
unfoldable pub run : ℕ → ℕ → Heap → RunEnd
run zero i h = stopped 0 i h
run (suc n) i h = if (unit h).finished then run n (i + 1) (unit h).heap else stopped 8 i (unit h).heap

-- 8 where damage ended the units
abbrev pub damage_number : Result (Unit {0}) Damaged → ℕ
damage_number (Ok x) = 0
damage_number (Err d) = 8

abbrev pub ran : Ran → List ℕ → List ℕ → List ℕ → RunEnd
ran o ws cs bs = stopped (damage_number o.end) o.units (heap o.regs ws cs bs)
