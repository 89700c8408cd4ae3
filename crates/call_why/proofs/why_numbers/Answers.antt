-- `call_why::why_numbers` meets its contract. Assumes nothing.
use Rattle.call_why.proofs.Ways.{numbers_as}
use Rattle.call_why.proofs.why_numbers.Goals as goal

pub returns : goal.returns
returns c = numbers_as c.why.ensures c.from.ensures
