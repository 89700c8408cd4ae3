-- `part_take::hold` meets its contract. Assumes nothing.
use Rattle.machine.proofs.Allocating.{held_root, held_word}
use Rattle.part_take.proofs.hold.Goals as goal

pub returns-then-b-eq0 : goal.returns-then-b-eq0
returns-then-b-eq0 c = λ cs. held_root _ _ _ _ c.if-b-eq0.true

pub put_reference-requires : goal.put_reference-requires
put_reference-requires c = (c.requires.0, (c.requires.1 c.if-b-eq0.false).0, (c.requires.1 c.if-b-eq0.false).1)

pub returns : goal.returns
returns c = λ cs. held_word _ _ _ _ c.if-b-eq0.false (c.put_reference.ensures _ cs)
