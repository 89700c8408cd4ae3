-- `part_block::ask_in` meets its contract: the state decides. Assumes nothing.
use mathlib.Core.Path.{refl, sym, ap, ◌∙◌}
use mathlib.Core.Bool.{and-false}
use Rattle.machine.specs.Audit.{mark_passes, state_passes}
use Rattle.machine.proofs.Passing.{white_as, doomed_as, outside_off, free_state, free_state_lem, mark_free, mark_state}
use Rattle.part_block.specs.Asked.{answered}
use Rattle.part_block.proofs.ask_in.Goals as goal

pub returns-in-LiveWhite : goal.returns-in-LiveWhite
unfolding answered
returns-in-LiveWhite g c =
    let told = c.in-LiveWhite.is in
    λ r k part byte p q m i told_empty. mark_state r k _ part byte told (c.ask_used.ensures r k _ m (free_state_lem r k _ i (ap free_state told))) (white_as r k _ _ _ _ refl)

pub returns-in-Doomed : goal.returns-in-Doomed
unfolding answered
returns-in-Doomed g c =
    let told = c.in-Doomed.is in
    λ r k part byte p q m i told_empty. mark_state r k _ part byte told (c.ask_used-in-Doomed.ensures r k _ m (free_state_lem r k _ i (ap free_state told))) (doomed_as r k _ _ _)

pub returns-in-Grey : goal.returns-in-Grey
returns-in-Grey g c =
    let told = c.in-Grey.is in
    λ r k part byte p q m i told_empty. mark_state r k _ part byte told (c.ask_used-in-Grey.ensures r k _ m (free_state_lem r k _ i (ap free_state told))) (c.ask_grey.ensures r k _ _ _ p)

pub returns-in-Black : goal.returns-in-Black
returns-in-Black g c =
    let told = c.in-Black.is in
    λ r k part byte p q m i told_empty. mark_state r k _ part byte told (c.ask_used-in-Black.ensures r k _ m (free_state_lem r k _ i (ap free_state told))) (c.ask_black.ensures r k _ _ p q)

pub returns-then-empty : goal.returns-then-empty
unfolding answered state_passes
returns-then-empty g c =
    let told = c.in-Free.is in
    λ r k part byte p q m i told_empty. mark_state r k _ part byte told (mark_free r k _ _ (free_state_lem r k _ i (ap free_state told))) (sym c.if-empty.true ∙ told_empty _ c.empty.ensures)

pub returns-in-Free : goal.returns-in-Free
unfolding answered state_passes
returns-in-Free g c =
    let told = c.in-Free.is in
    λ r k part byte p q m i told_empty. mark_state r k _ part byte told (mark_free r k _ _ (free_state_lem r k _ i (ap free_state told))) (sym c.if-empty.false ∙ told_empty _ c.empty.ensures)

pub returns : goal.returns
unfolding answered
returns g c =
    let told = c.in-Outside.is in
    λ r k part byte p q m i told_empty. mark_state r k _ part byte told (sym (and-false (mark_passes r k _))) (outside_off r k _ _ _)
