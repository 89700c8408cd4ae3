-- `call_chain::chain_place` meets its contract. Assumes nothing.
use Rattle.machine.proofs.Tests.{handed_on}
use Rattle.machine.proofs.Refusals.{stops_by, passes_by}
use Rattle.call_chain.proofs.chain_place.Goals as goal

pub returns-in_err-holder_place : goal.returns-in_err-holder_place
returns-in_err-holder_place c = rw (handed_on c.from_residual.ensures) (stops_by c.holder_place.ensures _ c.in_err-holder_place.was)

pub returns : goal.returns
returns c = passes_by c.holder_place.ensures c.in_ok-holder_place.was c.chain_length.ensures
