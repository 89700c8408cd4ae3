-- `part_colours::paint` meets its contract: the colour decides. Assumes nothing.
use mathlib.Core.Path.{refl}
use Rattle.part_colours.proofs.paint.Goals as goal

pub returns-in-White : goal.returns-in-White
returns-in-White c = rw (c.in-White.is, c.set_word.ensures) refl

pub returns-in-Black : goal.returns-in-Black
returns-in-Black c = rw (c.in-Black.is, c.set_word-in-Black.ensures) refl

pub returns-in-Free : goal.returns-in-Free
returns-in-Free c = rw (c.in-Free.is, c.set_word-in-Free.ensures) refl
