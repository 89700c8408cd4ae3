-- `part_take::list_refusal` meets its contract. Assumes nothing.
use Rattle.machine.proofs.Allocating.{list_none, list_uncounted, list_counted, list_good, list_bad}
use Rattle.part_take.proofs.list_refusal.Goals as goal

pub returns-then-r-eq0-2 : goal.returns-then-r-eq0-2
returns-then-r-eq0-2 c = λ bs. list_none _ c.if-r-eq0.true c.if-r-eq0-2.true

pub returns-then-r-eq0 : goal.returns-then-r-eq0
returns-then-r-eq0 c = λ bs. list_uncounted _ c.if-r-eq0.true c.if-r-eq0-2.false

pub returns-then-r-eq0-3 : goal.returns-then-r-eq0-3
returns-then-r-eq0-3 c = λ bs. list_counted _ c.if-r-eq0.false c.if-r-eq0-3.true

pub first_fits-requires : goal.first_fits-requires
first_fits-requires c = (c.requires.0, c.requires.1, c.requires.2, c.requires.3 c.if-r-eq0.false)

pub returns-then-first_fits : goal.returns-then-first_fits
returns-then-first_fits c = λ bs. list_good _ c.if-r-eq0.false c.if-r-eq0-3.false (c.first_fits.ensures bs) c.if-first_fits.true

pub returns : goal.returns
returns c = λ bs. list_bad _ c.if-r-eq0.false c.if-r-eq0-3.false (c.first_fits.ensures bs) c.if-first_fits.false
