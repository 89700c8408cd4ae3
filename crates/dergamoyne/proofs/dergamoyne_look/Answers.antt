-- `dergamoyne::dergamoyne_look` meets its contract: a law for each way out. Assumes nothing.
use mathlib.Core.Path.{◌∙◌, ap}
use native.Mathlib.Omega.{arith}
use Rattle.machine.specs.Refusal.{refused_by}
use Rattle.machine.proofs.Refusals.{told_refuses, told_so}
use Rattle.dergamoyne.proofs.Looking.{word_0, not_seen, seen}
use Rattle.dergamoyne.proofs.dergamoyne_look.Goals as goal

pub overflow_sub-result : goal.overflow_sub-result
overflow_sub-result c = (word_0 _ _ c.read_refusal.ensures (ap refused_by c.in-Ok.is)).0

pub overflow_mul-result : goal.overflow_mul-result
overflow_mul-result c =
    record { fits = omega (arith, (word_0 _ _ c.read_refusal.ensures (ap refused_by c.in-Ok.is)).1) }

pub returns-in-Ok : goal.returns-in-Ok
returns-in-Ok c = seen _ _ c.read_refusal.ensures (ap refused_by c.in-Ok.is)

pub returns-in-Err : goal.returns-in-Err
returns-in-Err c = not_seen _ _ (told_so c.read_refusal.ensures c.into.ensures c.in-Err.is) (told_refuses _ c.into.ensures)
