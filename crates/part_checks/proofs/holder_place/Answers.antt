-- `part_checks::holder_place` meets its contract: a law of the refusals for each way out. Assumes nothing.
use Rattle.machine.proofs.Refusals.{no_holder, no_holder_word, holder_block}
use Rattle.part_checks.proofs.holder_place.Goals as goal

pub returns-in-0-eq0 : goal.returns-in-0-eq0
returns-in-0-eq0 c = no_holder _ _ _ c.in-0-eq0.is-0 c.in-0-eq0.is-1

pub returns-in-0-default : goal.returns-in-0-default
returns-in-0-default c = no_holder_word _ _ _ c.in-0-default.is-0 c.in-0-default.is-1.1

pub returns-in_default : goal.returns-in_default
returns-in_default c = holder_block _ _ _ _ c.in_default.is-0.1 c.word_refusal.ensures
