-- `part_units::turn` meets its contract: the two ways of marking's end. Assumes nothing.
use Rattle.machine.proofs.Sweeping.{turn_skips, turn_sweeps}
use Rattle.part_units.proofs.turn.Goals as goal

pub returns-then-sweep_end-eq-NONE_USED : goal.returns-then-sweep_end-eq-NONE_USED
returns-then-sweep_end-eq-NONE_USED c = λ ws cs bs. turn_skips _ ws cs bs c.sweep_end.ensures c.if-sweep_end-eq-NONE_USED.true

pub returns : goal.returns
returns c = λ ws cs bs. turn_sweeps _ ws cs bs c.sweep_end.ensures c.if-sweep_end-eq-NONE_USED.false
