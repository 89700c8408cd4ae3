-- `part_colours::free_at` meets its contract. Assumes nothing.
use mathlib.Core.Path.{◌∙◌, ap}
use Rattle.machine.specs.Colouring.{free_colour}
use Rattle.part_colours.proofs.free_at.Goals as goal

pub returns : goal.returns
returns c = λ g. c.free_colour.ensures ∙ ap free_colour (c.colour_at.ensures g)
