-- `part_audit::passes_asked` meets its contract: what is asked decides. Assumes nothing.
use mathlib.Core.Path.{refl}
use Rattle.part_block.specs.Asked.{answered}
use Rattle.part_audit.proofs.passes_asked.Goals as goal

pub returns-in-Passes : goal.returns-in-Passes
unfolding answered
returns-in-Passes g c = rw c.in-Passes.is refl

pub returns-in-Fails : goal.returns-in-Fails
unfolding answered
returns-in-Fails g c = rw c.in-Fails.is refl

pub returns-in-Names : goal.returns-in-Names
unfolding answered
returns-in-Names g c = rw c.in-Names.is c.may_name_all.ensures

pub returns-in-NamesStrictly : goal.returns-in-NamesStrictly
unfolding answered
returns-in-NamesStrictly g c = rw c.in-NamesStrictly.is c.may_name_all-in-NamesStrictly.ensures
