-- `part_colours::to_grey` meets its contract. Assumes nothing.
use mathlib.Core.Path.{refl}
use Rattle.part_colours.proofs.to_grey.Goals as goal

pub returns : goal.returns
returns c = λ m. rw c.set_word.ensures refl
