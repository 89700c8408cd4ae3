-- `call_store::set_root` meets its contract: refused, or the barrier and then the root written. Assumes nothing.
use mathlib.Core.Path.{ap}
use Rattle.machine.specs.Refusal.{refused_by}
use Rattle.machine.proofs.Refusals.{told_refuses, told_so, unrefused}
use Rattle.machine.proofs.Storing.{root_refused, root_set, root_ready, root_named}
use Rattle.call_store.proofs.set_root.Goals as goal

pub returns-in-Err : goal.returns-in-Err
returns-in-Err c =
    root_refused _ _ (told_so c.root_refusal.ensures c.into.ensures c.in-Err.is) (told_refuses _ c.into.ensures) (c.refused.ensures _ _ _)

pub barrier-s-requires : goal.barrier-s-requires
barrier-s-requires c =
    let z = unrefused c.root_refusal.ensures c.in_default.is in ((root_ready _ _ z).colours, root_named _ _ z)

pub returns : goal.returns
returns c = root_set _ _ _ c.root_refusal.ensures (ap refused_by c.in_default.is) (c.done.ensures _ _ _) (c.barrier-s.ensures _ _)
