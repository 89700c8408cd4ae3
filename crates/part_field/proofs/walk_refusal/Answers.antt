-- `part_field::walk_refusal` meets its contract: by the way in which the walk ended. Assumes nothing.
use mathlib.Core.Path.{refl}
use Rattle.part_field.proofs.Walking.{refusal_stopped, refusal_last}
use Rattle.part_field.proofs.walk_refusal.Goals as goal

pub returns-then-x-ne0 : goal.returns-then-x-ne0
returns-then-x-ne0 c = λ n b w. refusal_stopped _ w c.if-x-ne0.true c.follow_refusal.ensures

pub returns : goal.returns
returns c = λ n b w. refusal_last _ w c.if-x-ne0.false (c.holder_refusal.ensures _ _ _ refl refl refl)
