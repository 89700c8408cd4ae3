-- `part_sweep::stop` meets its contract. Assumes nothing.
use Rattle.part_sweep.proofs.Ending.{stop_short, stop_past}
use Rattle.part_sweep.proofs.stop.Goals as goal

pub returns-then-k-past : goal.returns-then-k-past
returns-then-k-past c = stop_short _ _ _ c.sweep_end-past.ensures c.if-k-past.true

pub returns : goal.returns
returns c = stop_past _ _ _ c.sweep_end-past.ensures c.if-k-past.false
