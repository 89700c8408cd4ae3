-- `call_chain::chain_length` meets its contract. Assumes nothing.
use Rattle.machine.proofs.Chaining.{length_fits, length_none, length_high}
use Rattle.call_chain.proofs.chain_length.Goals as goal

pub returns-then-n-lt1 : goal.returns-then-n-lt1
returns-then-n-lt1 c = length_none _ c.if-n-lt1.true

pub returns-then-n-gt-MOST_CHAIN : goal.returns-then-n-gt-MOST_CHAIN
returns-then-n-gt-MOST_CHAIN c = length_high _ c.if-n-lt1.false c.if-n-gt-MOST_CHAIN.true

pub returns : goal.returns
returns c = length_fits _ c.if-n-lt1.false c.if-n-gt-MOST_CHAIN.false
