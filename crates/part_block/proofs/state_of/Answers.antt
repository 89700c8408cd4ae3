-- `part_block::state_of` meets its contract. Assumes nothing.
use mathlib.Core.Path.{refl, ◌∙◌}
use Rattle.machine.specs.State.{state_in}
use Rattle.part_block.proofs.state_of.Goals as goal

pub returns : goal.returns
unfolding state_in
returns g c = c.state_from.ensures c.registers-r.result refl refl ∙ rw (c.registers-r.ensures.told, c.colour_of.ensures) refl
