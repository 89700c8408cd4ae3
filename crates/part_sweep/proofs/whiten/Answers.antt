-- `part_sweep::whiten` meets its contract. Assumes nothing.
use mathlib.Core.Path.{◌∙◌, ap}
use Rattle.machine.proofs.Sweeping.{whiten_done}
use Rattle.part_sweep.specs.Ending.{settled}
use Rattle.part_sweep.proofs.Ending.{advance_settles}
use Rattle.part_sweep.proofs.whiten.Goals as goal

pub returns : goal.returns
returns c =
    (λ ws bs. whiten_done _ ws _ bs c.paint.ensures (ap settled c.onward.ensures ∙ advance_settles _), c.onward.ensures)
