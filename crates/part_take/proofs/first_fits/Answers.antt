-- `part_take::first_fits` meets its contract. Assumes nothing.
use Rattle.machine.specs.Allocate.{first_fits}
use Rattle.part_take.proofs.first_fits.Goals as goal

pub returns : goal.returns
unfolding first_fits
returns c = λ bs. c.can_be_taken.ensures _
