-- `part_cells::bit` meets its contract. Assumes nothing.
use mathlib.Core.Path.{refl}
use Rattle.machine.specs.Block.{bit}
use Rattle.part_cells.proofs.bit.Goals as goal

pub returns : goal.returns
unfolding bit
returns c = refl
