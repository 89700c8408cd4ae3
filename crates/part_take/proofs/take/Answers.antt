-- `part_take::take` meets its contract. Assumes nothing.
use Rattle.machine.proofs.Allocating.{taken_as}
use mathlib.Core.Path.{refl}
use Rattle.part_take.proofs.take.Goals as goal

pub returns : goal.returns
returns c = λ bs. taken_as _ _ _ refl refl (c.new_colour-c.ensures _ refl refl) c.paint.ensures c.max.ensures
