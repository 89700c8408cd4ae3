-- `part_state::black_from` meets its contract: phase by phase. Assumes nothing.
use Rattle.part_state.proofs.First.{at_marking, at_sweeping, at_idle}
use mathlib.Core.Path.{sym}
use Rattle.part_state.proofs.black_from.Goals as goal

pub returns-in-1 : goal.returns-in-1
returns-in-1 c = sym (at_marking _ _ c.in-1.is)

pub returns-in-2 : goal.returns-in-2
returns-in-2 c = sym (at_sweeping _ _ c.in-2.is)

pub returns-in_default : goal.returns-in_default
returns-in_default c = sym (at_idle _ _ c.in_default.in_default-own.rest.0.1 c.in_default.in_default-own.rest.1)
