-- `part_sweep::settled` meets its contract. Assumes nothing.
use Rattle.part_sweep.proofs.Ending.{settled_ends, settled_not}
use native.Mathlib.Omega.{arith}
use Rattle.part_sweep.proofs.settled.Goals as goal

pub returns-then-r-sweep_end : goal.returns-then-r-sweep_end
returns-then-r-sweep_end c = settled_ends _ c.sweep_end.ensures c.if-r-sweep_end.true

pub returns-else-r-sweep_end : goal.returns-else-r-sweep_end
returns-else-r-sweep_end c =
    let e = c.sweep_end.ensures in settled_not _ (λ z. c.if-r-sweep_end.false (omega arith))
