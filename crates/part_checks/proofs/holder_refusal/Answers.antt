-- `part_checks::holder_refusal` meets its contract. Assumes nothing.
use Rattle.machine.proofs.Refusals.{holder_as}
use Rattle.part_checks.proofs.holder_refusal.Goals as goal

pub returns : goal.returns
returns c = λ r ws bs m p q. holder_as _ _ _ _ (c.state_at.ensures r m p q) c.present.ensures
