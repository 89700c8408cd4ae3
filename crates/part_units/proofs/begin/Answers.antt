-- `part_units::begin` meets its contract. Assumes nothing.
use Rattle.std.proofs.Common.{refl}
use Rattle.machine.proofs.Sweeping.{begin_empty, begin_root}
use Rattle.part_units.proofs.begin.Goals as goal

pub returns-then-r-eq0 : goal.returns-then-r-eq0
returns-then-r-eq0 c = λ ws bs. begin_empty _ ws _ bs refl c.if-r-eq0.true

pub to_grey-head-requires : goal.to_grey-head-requires
to_grey-head-requires c = c.requires c.if-r-eq0.false

pub returns : goal.returns
returns c = λ ws bs. begin_root _ ws _ bs refl c.if-r-eq0.false (c.to_grey-head.ensures _)
