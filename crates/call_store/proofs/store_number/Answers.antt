-- `call_store::store_number` meets its contract: refused, or the word and its bit written. Assumes nothing.
use mathlib.Core.Path.{ap}
use Rattle.machine.specs.Refusal.{refused_by}
use Rattle.machine.proofs.Refusals.{told_refuses, told_so, unrefused, readable}
use Rattle.machine.proofs.Storing.{number_refused, number_stored, word_writable}
use Rattle.call_store.proofs.store_number.Goals as goal

pub returns-in-Err : goal.returns-in-Err
returns-in-Err c =
    number_refused _ _ _ _ (told_so c.read_refusal-checked.ensures c.into.ensures c.in-Err.is) (told_refuses _ c.into.ensures) (c.refused.ensures _ _ _)

pub put_number-requires : goal.put_number-requires
put_number-requires c = word_writable (readable _ _ _ (unrefused c.read_refusal-checked.ensures c.in_default.is))

pub returns : goal.returns
returns c =
    number_stored _ _ _ _ _ c.read_refusal-checked.ensures (ap refused_by c.in_default.is) (c.done.ensures _ _ _) (c.put_number.ensures _ _)
