-- `call_store::store_reference` meets its contract: refused, or the barrier and then the word and its bit written. Assumes nothing.
use mathlib.Core.Path.{ap}
use Rattle.machine.specs.Refusal.{refused_by}
use Rattle.machine.proofs.Refusals.{told_refuses, told_so, unrefused}
use Rattle.machine.proofs.Storing.{reference_refused, reference_stored, storable, store_named, word_writable}
use Rattle.call_store.proofs.store_reference.Goals as goal

pub returns-in-Err : goal.returns-in-Err
returns-in-Err c =
    reference_refused _ _ _ _ (told_so c.store_refusal.ensures c.into.ensures c.in-Err.is) (told_refuses _ c.into.ensures) (c.refused.ensures _ _ _)

pub barrier-s-requires : goal.barrier-s-requires
barrier-s-requires c =
    let z = unrefused c.store_refusal.ensures c.in_default.is in ((storable _ _ _ _ z).ready.colours, store_named _ _ _ _ z)

pub put_reference-requires : goal.put_reference-requires
put_reference-requires c = word_writable (storable _ _ _ _ (unrefused c.store_refusal.ensures c.in_default.is))

pub returns : goal.returns
returns c =
    reference_stored _ _ _ _ _ _ c.store_refusal.ensures (ap refused_by c.in_default.is) (c.done.ensures _ _ _) (c.put_reference.ensures _ _) (c.barrier-s.ensures _ _)
