-- `part_step::step` meets its contract: a law of the machine for each way through the match. Assumes nothing.
use mathlib.Core.Path.{refl, ◌∙◌}
use native.Mathlib.Omega.{arith}
use Rattle.machine.proofs.Steps.{begins, begins_not, turns, marking_as, sweeping_as, nowhere, high_marks, other_sweeps}
use Rattle.machine.proofs.Colours.{is_white, is_black, is_free_lem, is_grey_lem}
use Rattle.part_step.proofs.step.Goals as goal

pub returns-in-0-word : goal.returns-in-0-word
returns-in-0-word c = begins _ _ _ _ c.in-0.is c.in-0-word.is

pub returns-in_default-word : goal.returns-in_default-word
returns-in_default-word c = begins_not _ _ _ _ c.in-0.is c.in_default-word.in_default-word-own.rest.1

pub returns-in-1-grey : goal.returns-in-1-grey
returns-in-1-grey c = turns _ _ _ _ c.in-1.is c.in-1-grey.is

pub returns-in_default-word-2 : goal.returns-in_default-word-2
returns-in_default-word-2 c = marking_as _ _ _ _ c.in-1.is c.in_default-grey.in_default-grey-own.rest.1 (is_white _ _ (omega arith))

pub returns-then-word-m : goal.returns-then-word-m
returns-then-word-m c =
    marking_as _ _ _ _ c.in-1.is c.in_default-grey.in_default-grey-own.rest.1 (is_grey_lem _ _ (omega arith) (omega arith) (omega arith) c.if-word-m.true)

pub returns-else-word-m : goal.returns-else-word-m
returns-else-word-m c = high_marks _ _ (omega arith) ∙ marking_as _ _ _ _ c.in-1.is c.in_default-grey.in_default-grey-own.rest.1 refl

pub returns-in-0-word-2 : goal.returns-in-0-word-2
returns-in-0-word-2 c = sweeping_as _ _ _ _ c.in-2.is (is_white _ _ c.in-0-word-2.is)

pub returns-in_default-word-3 : goal.returns-in_default-word-3
returns-in_default-word-3 c =
    other_sweeps _ _ c.in_default-word-3.in_default-own.rest.1 (omega arith) (omega arith) ∙ sweeping_as _ _ _ _ c.in-2.is refl

pub returns-then-word-eq-BLACK : goal.returns-then-word-eq-BLACK
returns-then-word-eq-BLACK c = sweeping_as _ _ _ _ c.in-2.is (is_black _ _ c.if-word-eq-BLACK.true)

pub returns-else-word-eq-BLACK : goal.returns-else-word-eq-BLACK
returns-else-word-eq-BLACK c = sweeping_as _ _ _ _ c.in-2.is (is_free_lem _ _ (omega arith))

pub returns-in_default : goal.returns-in_default
returns-in_default c =
    nowhere _ _ _ _ c.in_default.in_default-own.rest.0.0.1 c.in_default.in_default-own.rest.0.1 c.in_default.in_default-own.rest.1
