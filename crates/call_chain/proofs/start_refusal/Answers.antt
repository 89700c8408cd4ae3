-- `call_chain::start_refusal` meets its contract: the first test that refuses. Assumes nothing.
use Rattle.machine.proofs.Tests.{handed_on}
use Rattle.machine.proofs.Entering.{entry_ready}
use Rattle.machine.proofs.Refusals.{unrefused, stops_by, passes_by}
use Rattle.call_chain.proofs.start_refusal.Goals as goal

pub returns-in_err-entry : goal.returns-in_err-entry
returns-in_err-entry c = rw (handed_on c.from_residual.ensures) (stops_by c.entry.ensures _ c.in_err-entry.was)

pub chain_place-requires : goal.chain_place-requires
chain_place-requires c = (entry_ready _ (unrefused c.entry.ensures c.in_ok-entry.was)).most

pub returns : goal.returns
returns c = passes_by c.entry.ensures c.in_ok-entry.was c.chain_place.ensures
