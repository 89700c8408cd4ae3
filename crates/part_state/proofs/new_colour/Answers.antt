-- `part_state::new_colour` meets its contract. Assumes nothing.
use Rattle.machine.proofs.Tests.{so}
use Rattle.machine.proofs.Allocating.{new_black, new_white}
use Rattle.part_state.proofs.new_colour.Goals as goal

pub returns-then-may_be_black : goal.returns-then-may_be_black
returns-then-may_be_black c = λ r p q. new_black r _ (so (c.may_be_black.ensures r p q) c.if-may_be_black.true)

pub returns : goal.returns
returns c = λ r p q. new_white r _ (so (c.may_be_black.ensures r p q) c.if-may_be_black.false)
