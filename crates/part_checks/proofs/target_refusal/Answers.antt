-- `part_checks::target_refusal` meets its contract. Assumes nothing.
use Rattle.machine.proofs.Refusals.{target_none, target_as}
use Rattle.part_checks.proofs.target_refusal.Goals as goal

pub returns-then-t-eq0 : goal.returns-then-t-eq0
returns-then-t-eq0 c = λ r ws bs m p q. target_none _ _ c.if-t-eq0.true

pub state_at-requires : goal.state_at-requires
state_at-requires c = (c.requires.0, c.requires.1, c.requires.2 c.if-t-eq0.false)

pub returns : goal.returns
returns c = λ r ws bs m p q. target_as _ _ _ _ c.if-t-eq0.false (c.state_at.ensures r m p q) c.present.ensures
