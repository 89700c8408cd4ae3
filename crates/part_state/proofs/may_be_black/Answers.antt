-- `part_state::may_be_black` meets its contract. Assumes nothing.
use Rattle.part_state.proofs.First.{first_test}
use borrow.Author.Rules.{rules}
use Rattle.part_state.proofs.may_be_black.Goals as goal

pub returns : goal.returns
returns c = λ r p q. first_test r _ _ p q c.black_from.ensures (search rules)
