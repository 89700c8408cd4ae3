-- `part_state::state_of` meets its contract. Assumes nothing.
use Rattle.machine.proofs.Refusals.{state_as}
use Rattle.part_state.proofs.state_of.Goals as goal

pub returns : goal.returns
returns c = λ r m p q. state_as r _ _ _ _ (rw m (c.colour_of.ensures r.grey)) (c.state_from.ensures r p q)
