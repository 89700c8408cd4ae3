-- `part_search::meet` meets its contract: one law for each way out. Assumes nothing.
use native.Mathlib.Omega.{arith}
use Rattle.part_search.proofs.Steps.{room, met_new, met_old, met_none}
use Rattle.part_search.proofs.meet.Goals as goal

pub bounds-queue-n : goal.bounds-queue-n
bounds-queue-n c =
    let p = c.requires.3.places in
    let r = room c.requires.3 _ c.if-i-m.true c.if-came-i-eq0.true in omega arith

pub returns-then-came-i-eq0 : goal.returns-then-came-i-eq0
returns-then-came-i-eq0 c =
    met_new c.requires.3 _ _ _ _ c.ranges.x.fits c.requires.0 c.less_two-i.ensures c.if-i-m.true c.if-came-i-eq0.true

pub returns-else-came-i-eq0 : goal.returns-else-came-i-eq0
returns-else-came-i-eq0 c =
    met_old c.requires.3 _ _ _ _ c.ranges.x.fits c.requires.0 c.less_two-i.ensures c.if-i-m.true c.if-came-i-eq0.false

pub returns-else-i-m : goal.returns-else-i-m
returns-else-i-m c = met_none c.requires.3 _ _ _ _ c.ranges.x.fits c.requires.0 c.less_two-i.ensures (omega arith)
