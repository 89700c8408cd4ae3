-- `call_why::colour_of` meets its contract: the definition's cases. Assumes nothing.
use mathlib.Core.Path.{refl}
use Rattle.machine.specs.Why.{reason_from}
use Rattle.call_why.proofs.colour_of.Goals as goal

pub returns-in-LiveWhite : goal.returns-in-LiveWhite
unfolding reason_from
returns-in-LiveWhite c h b l = rw c.in-LiveWhite.is refl

pub returns-in-Grey : goal.returns-in-Grey
unfolding reason_from
returns-in-Grey c h b l = rw c.in-Grey.is refl

pub returns-in-Black : goal.returns-in-Black
unfolding reason_from
returns-in-Black c h b l = rw c.in-Black.is refl
