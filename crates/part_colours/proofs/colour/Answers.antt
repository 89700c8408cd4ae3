-- `part_colours::colour` meets its contract: a law of the layout for each arm. Assumes nothing.
use Rattle.machine.proofs.Colours.{is_white, is_black, is_free_lem, is_grey_lem, is_outside}
use Rattle.part_colours.proofs.colour.Goals as goal

pub returns-in-0 : goal.returns-in-0
returns-in-0 c = is_white _ _ c.in-0.is

pub returns-in-4294967295 : goal.returns-in-4294967295
returns-in-4294967295 c = is_black _ _ c.in-4294967295.is

pub returns-in-4294967294 : goal.returns-in-4294967294
returns-in-4294967294 c = is_free_lem _ _ c.in-4294967294.is

pub returns-then-word-m : goal.returns-then-word-m
returns-then-word-m c =
    is_grey_lem _ _ c.in_default.in_default-own.rest.0.0.1 c.in_default.in_default-own.rest.0.1 c.in_default.in_default-own.rest.1 c.if-word-m.true

pub returns-else-word-m : goal.returns-else-word-m
returns-else-word-m c =
    is_outside _ _ c.in_default.in_default-own.rest.0.0.1 c.in_default.in_default-own.rest.0.1 c.in_default.in_default-own.rest.1 c.if-word-m.false
