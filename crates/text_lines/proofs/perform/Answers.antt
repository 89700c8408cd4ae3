-- `text_lines::perform` meets its contract: what each call gives, as it is said. Assumes nothing.
use Rattle.text_lines.specs.Line.{performed}
use Rattle.text_lines.proofs.Lending.{asks}
use Rattle.text_lines.proofs.perform.Goals as goal

pub returns-in-Format : goal.returns-in-Format
unfolding performed
returns-in-Format c = asks _ c.in-Format.is (c.from.ensures _ _ _ _ c.format.ensures)

pub returns-in-Read : goal.returns-in-Read
unfolding performed
returns-in-Read c = asks _ c.in-Read.is (c.of_read.ensures _ _ _ _ c.read.ensures)

pub returns-in-StoreNumber : goal.returns-in-StoreNumber
unfolding performed
returns-in-StoreNumber c = asks _ c.in-StoreNumber.is (c.from-in-StoreNumber.ensures _ _ _ _ c.store_number.ensures)

pub returns-in-StoreReference : goal.returns-in-StoreReference
unfolding performed
returns-in-StoreReference c = asks _ c.in-StoreReference.is (c.from-in-StoreReference.ensures _ _ _ _ c.store_reference.ensures)

pub returns-in-SetRoot : goal.returns-in-SetRoot
unfolding performed
returns-in-SetRoot c = asks _ c.in-SetRoot.is (c.from-in-SetRoot.ensures _ _ _ _ c.set_root.ensures)

pub returns-in-Allocate : goal.returns-in-Allocate
unfolding performed
returns-in-Allocate c = asks _ c.in-Allocate.is (c.from-in-Allocate.ensures _ _ _ _ c.allocate.ensures)

pub returns-in-Work : goal.returns-in-Work
unfolding performed
returns-in-Work c = asks _ c.in-Work.is (c.from-in-Work.ensures _ _ _ _ c.work.ensures)

pub returns-in-Audit : goal.returns-in-Audit
unfolding performed
returns-in-Audit c = asks _ c.in-Audit.is (c.from-in-Audit.ensures _ _ _ _ c.audit.ensures.answered)
