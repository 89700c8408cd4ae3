-- `part_put::put_reference` meets its contract. Assumes nothing.
use Rattle.machine.proofs.Storing.{reference_put}
use Rattle.part_put.proofs.put_reference.Goals as goal

pub returns : goal.returns
returns c = λ r cs. reference_put _ _ _ _ _ c.set_bit.ensures
