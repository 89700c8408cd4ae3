-- `part_several::several_refusal` meets its contract: a law for each way out. Assumes nothing.
use mathlib.Core.Path.{ap}
use native.Mathlib.Omega.{arith}
use Rattle.machine.specs.Refusal.{refused_by}
use Rattle.machine.proofs.Tests.{handed_on}
use Rattle.machine.proofs.Refusals.{refuses, refused_so}
use Rattle.machine.proofs.Gathering.{several_head, several_few, several_unwalked, several_repeats, several_good}
use Rattle.part_several.proofs.Walks.{last_walks, last_none, before_last, repeats, differs}
use Rattle.machine.specs.Heap.{heap}
use Rattle.part_several.proofs.several_refusal.Goals as goal

pub returns-in_err-head_refusal : goal.returns-in_err-head_refusal
returns-in_err-head_refusal c =
    λ bs. rw (handed_on c.from_residual.ensures) (several_head _ _ (refused_so c.head_refusal.ensures c.in_err-head_refusal.was) (refuses _))

pub returns-then-r-n : goal.returns-then-r-n
returns-then-r-n c = λ bs. several_few _ _ c.head_refusal.ensures (ap refused_by c.in_ok-head_refusal.was) c.if-r-n.true

pub walked_to-last-requires : goal.walked_to-last-requires
walked_to-last-requires c = (c.requires.0, c.requires.1, c.requires.2, c.requires.3)

pub returns-then-last-eq0 : goal.returns-then-last-eq0
returns-then-last-eq0 c =
    λ bs. several_unwalked _ _ c.head_refusal.ensures (ap refused_by c.in_ok-head_refusal.was) c.if-r-n.false (last_none _ _ (c.walked_to-last.ensures _) c.requires.3 c.requires.4 c.if-last-eq0.true)

pub overflow_sub-n : goal.overflow_sub-n
overflow_sub-n c =
    let k = c.requires.4 in omega arith

pub met-requires : goal.met-requires
met-requires c =
    before_last (heap c.args.r c.args.words.now c.args.colours.now c.args.words.now) _ (c.walked_to-last.ensures _) c.if-last-eq0.false c.requires.4 c.requires.3 c.requires.1

pub returns-then-met : goal.returns-then-met
returns-then-met c =
    λ bs.
    several_repeats _ _ c.head_refusal.ensures (ap refused_by c.in_ok-head_refusal.was) c.if-r-n.false (last_walks _ _ (c.walked_to-last.ensures _) c.if-last-eq0.false)
    (repeats _ _ (c.walked_to-last.ensures _) c.if-last-eq0.false c.requires.4 (c.met.ensures _ _ bs) c.if-met.true)

pub returns : goal.returns
returns c =
    λ bs.
    several_good _ _ c.head_refusal.ensures (ap refused_by c.in_ok-head_refusal.was) c.if-r-n.false (last_walks _ _ (c.walked_to-last.ensures _) c.if-last-eq0.false)
    (differs _ _ (c.walked_to-last.ensures _) c.if-last-eq0.false c.requires.4 (c.met.ensures _ _ bs) c.if-met.false)
