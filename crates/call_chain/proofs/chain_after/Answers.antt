-- `call_chain::chain_after` meets its contract: a law for each way out. Assumes nothing.
use mathlib.Core.Path.{ap}
use Rattle.machine.specs.Refusal.{refused_by}
use Rattle.machine.specs.Chain.{chain}
use Rattle.machine.proofs.Refusals.{told_refuses, told_so, unrefused}
use Rattle.machine.proofs.Serving.{serves_refused, serves_done}
use Rattle.call_chain.proofs.chain_after.Goals as goal

pub take_several_refusal-tested-requires : goal.take_several_refusal-tested-requires
take_several_refusal-tested-requires c =
    (c.requires.0.most, c.requires.0.words, c.requires.0.colours, c.requires.0.free, c.requires.2, λ n. (c.requires.1 n).0)

pub returns-in-Err : goal.returns-in-Err
returns-in-Err c =
    serves_refused chain _ _ _ _ _ (told_so (c.take_several_refusal-tested.ensures _) c.into.ensures c.in-Err.is) (told_refuses _ c.into.ensures) (c.answered.ensures _ _ _)

pub serve_chain-s-requires : goal.serve_chain-s-requires
serve_chain-s-requires c =
    (c.requires.0, c.requires.1, c.requires.2, unrefused (c.take_several_refusal-tested.ensures _) c.in_default.is)

pub returns : goal.returns
returns c =
    serves_done chain _ _ _ _ _ (c.take_several_refusal-tested.ensures _) (ap refused_by c.in_default.is) c.serve_chain-s.ensures (c.answered-2.ensures _ _ _)
