-- `call_allocate::start_refusal` meets its contract: the first test that refuses. Assumes nothing.
use Rattle.machine.proofs.Tests.{handed_on}
use Rattle.machine.proofs.Entering.{entry_ready}
use Rattle.machine.proofs.Refusals.{unrefused, stops_by, passes_by}
use Rattle.call_allocate.proofs.start_refusal.Goals as goal

pub returns-in_err-entry : goal.returns-in_err-entry
returns-in_err-entry c = rw (handed_on c.from_residual.ensures) (stops_by c.entry.ensures _ c.in_err-entry.was)

pub holder_place-requires : goal.holder_place-requires
holder_place-requires c = (entry_ready _ (unrefused c.entry.ensures c.in_ok-entry.was)).most

pub returns : goal.returns
returns c = passes_by c.entry.ensures c.in_ok-entry.was c.holder_place.ensures
