-- `part_several::head_refusal` meets its contract. Assumes nothing.
use Rattle.machine.specs.Several.{head_refusal}
use Rattle.part_several.proofs.Walks.{heads_agree, heads_differ}
use Rattle.part_several.proofs.head_refusal.Goals as goal

pub returns-then-head-count : goal.returns-then-head-count
unfolding head_refusal
returns-then-head-count c = heads_agree _ _ c.if-head-count.true

pub returns : goal.returns
unfolding head_refusal
returns c = heads_differ _ _ c.if-head-count.false
