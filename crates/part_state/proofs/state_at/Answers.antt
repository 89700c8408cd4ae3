-- `part_state::state_at` meets its contract. Assumes nothing.
use Rattle.machine.proofs.Refusals.{state_as}
use Rattle.part_state.proofs.state_at.Goals as goal

pub returns : goal.returns
returns c = λ r m p q. state_as r _ _ _ _ (rw m (c.colour_at.ensures r.grey)) (c.state_from.ensures r p q)
