-- The hand-checked cases of document 01 hold of the machine.
--     hand_checked         the whole table, by computing each case
-- Assumes nothing.
use mathlib.Core.Path.{refl}
use Rattle.machine.specs.Cases.{units_over, HandChecked}
use Rattle.machine.proofs.Computing.{the_machine}

pub hand_checked : HandChecked
unfolding the_machine units_over
hand_checked = refl
