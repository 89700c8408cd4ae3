-- `part_colours::to_black` meets its contract. Assumes nothing.
use mathlib.Core.Path.{refl}
use Rattle.part_colours.proofs.to_black.Goals as goal

pub returns : goal.returns
returns c = λ m. rw (c.word_of-next.ensures, c.set_word.ensures) refl
