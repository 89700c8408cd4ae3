-- `part_sweep::reclaim` meets its contract. Assumes nothing.
use mathlib.Core.Path.{refl, ◌∙◌, ap}
use Rattle.machine.proofs.Sweeping.{reclaim_full, reclaim_done}
use Rattle.machine.proofs.Parts.{back_is}
use Rattle.part_sweep.specs.Ending.{settled}
use Rattle.part_sweep.proofs.Ending.{advance_settles, stepped}
use Rattle.part_sweep.proofs.reclaim.Goals as goal

pub returns-then-r : goal.returns-then-r
returns-then-r c = (reclaim_full _ _ _ _ _ c.if-r.true, tt)

pub returns : goal.returns
returns c =
    (reclaim_done _ c.args.words.now c.args.colours.now c.args.bytes.now c.if-r.false (back_is _ _ c.clear.ensures) c.paint.ensures c.clear_byte.ensures (ap settled c.onward.ensures ∙ advance_settles _), stepped c.args.r _ c.onward.ensures refl refl refl)
