-- `part_put::put_number` meets its contract. Assumes nothing.
use Rattle.machine.proofs.Storing.{number_put}
use Rattle.part_put.proofs.put_number.Goals as goal

pub returns : goal.returns
returns c = λ r cs. number_put _ _ _ _ _ c.clear_bit.ensures
