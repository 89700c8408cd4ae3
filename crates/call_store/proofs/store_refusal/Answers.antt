-- `call_store::store_refusal` meets its contract: the first test that refuses. Assumes nothing.
use mathlib.Core.Path.{refl}
use Rattle.machine.proofs.Tests.{handed_on}
use Rattle.machine.proofs.Entering.{entry_ready, none_or_block}
use Rattle.machine.proofs.Refusals.{unrefused, stops_by, passes_by, word_zero, target_zero}
use Rattle.machine.specs.Store.{store_refusal}
use Rattle.call_store.proofs.store_refusal.Goals as goal

pub returns-in_err-entry : goal.returns-in_err-entry
unfolding store_refusal
returns-in_err-entry c = rw (handed_on c.from_residual.ensures) (stops_by c.entry.ensures _ c.in_err-entry.was)

pub word_refusal-requires : goal.word_refusal-requires
word_refusal-requires c = (entry_ready _ (unrefused c.entry.ensures c.in_ok-entry.was)).most

pub returns-in_err-word_refusal : goal.returns-in_err-word_refusal
unfolding store_refusal
returns-in_err-word_refusal c =
    rw (handed_on c.from_residual-in_err-word_refusal.ensures)
    (passes_by c.entry.ensures c.in_ok-entry.was (stops_by c.word_refusal.ensures _ c.in_err-word_refusal.was))

pub target_place-requires : goal.target_place-requires
target_place-requires c = (entry_ready _ (unrefused c.entry.ensures c.in_ok-entry.was)).most

pub returns-in_err-target_place : goal.returns-in_err-target_place
unfolding store_refusal
returns-in_err-target_place c =
    rw (handed_on c.from_residual-in_err-target_place.ensures)
    (passes_by c.entry.ensures c.in_ok-entry.was
    (passes_by c.word_refusal.ensures c.in_ok-word_refusal.was (stops_by c.target_place.ensures _ c.in_err-target_place.was)))

pub holder_refusal-requires : goal.holder_refusal-requires
holder_refusal-requires c =
    let d = entry_ready _ (unrefused c.entry.ensures c.in_ok-entry.was) in
    (d.most, d.colours, (word_zero _ _ _ (unrefused c.word_refusal.ensures c.in_ok-word_refusal.was)).0)

pub returns-in_err-holder_refusal : goal.returns-in_err-holder_refusal
unfolding store_refusal
returns-in_err-holder_refusal c =
    rw (handed_on c.from_residual-in_err-holder_refusal.ensures)
    (passes_by c.entry.ensures c.in_ok-entry.was
    (passes_by c.word_refusal.ensures c.in_ok-word_refusal.was
    (passes_by c.target_place.ensures c.in_ok-target_place.was
    (stops_by (c.holder_refusal.ensures _ _ _ refl refl refl) _ c.in_err-holder_refusal.was))))

pub target_refusal-requires : goal.target_refusal-requires
target_refusal-requires c =
    let d = entry_ready _ (unrefused c.entry.ensures c.in_ok-entry.was) in
    (d.most, d.colours, none_or_block _ _ (target_zero _ _ (unrefused c.target_place.ensures c.in_ok-target_place.was)))

pub returns : goal.returns
unfolding store_refusal
returns c =
    passes_by c.entry.ensures c.in_ok-entry.was
    (passes_by c.word_refusal.ensures c.in_ok-word_refusal.was
    (passes_by c.target_place.ensures c.in_ok-target_place.was
    (passes_by (c.holder_refusal.ensures _ _ _ refl refl refl) c.in_ok-holder_refusal.was (c.target_refusal.ensures _ _ _ refl refl refl))))
