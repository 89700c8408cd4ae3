-- `part_checks::read_refusal_after` meets its contract: the first test that refuses. Assumes nothing.
use mathlib.Core.Path.{refl}
use Rattle.machine.proofs.Tests.{handed_on}
use Rattle.machine.proofs.Refusals.{unrefused, stops_by, passes_by, word_zero}
use Rattle.machine.proofs.Entering.{entry_ready}
use Rattle.machine.specs.Read.{read_refusal}
use Rattle.part_checks.proofs.read_refusal_after.Goals as goal

pub returns-in_err-e : goal.returns-in_err-e
unfolding read_refusal
returns-in_err-e c = rw (handed_on c.from_residual.ensures) (stops_by c.requires _ c.in_err-e.was)

pub word_refusal-requires : goal.word_refusal-requires
word_refusal-requires c = (entry_ready _ (unrefused c.requires c.in_ok-e.was)).most

pub returns-in_err-word_refusal : goal.returns-in_err-word_refusal
unfolding read_refusal
returns-in_err-word_refusal c =
    rw (handed_on c.from_residual-in_err-word_refusal.ensures)
    (passes_by c.requires c.in_ok-e.was (stops_by c.word_refusal.ensures _ c.in_err-word_refusal.was))

pub holder_refusal-requires : goal.holder_refusal-requires
holder_refusal-requires c =
    let d = entry_ready _ (unrefused c.requires c.in_ok-e.was) in
    (d.most, d.colours, (word_zero _ _ _ (unrefused c.word_refusal.ensures c.in_ok-word_refusal.was)).0)

pub returns : goal.returns
unfolding read_refusal
returns c =
    passes_by c.requires c.in_ok-e.was (passes_by c.word_refusal.ensures c.in_ok-word_refusal.was (c.holder_refusal.ensures _ _ _ refl refl refl))
