-- `part_sweep::sweeps` meets its contract: the whole is what remains of it, unit by unit. Assumes nothing.
use mathlib.Core.Path.{refl, ◌∙◌}
use native.Mathlib.Omega.{arith}
use Rattle.part_sweep.proofs.Ending.{stop_within}
use Rattle.part_sweep.proofs.Rows.{swept_first, here_ready, swept_on, swept_off, swept_end, stop_nearer}
use Rattle.part_sweep.proofs.sweeps.Goals as goal

pub stop-last-requires : goal.stop-last-requires
stop-last-requires c =
    let m = c.requires.0.most in
    let k = c.requires.0.marked in
    (omega arith, (c.requires.0.placed c.requires.1).1)

pub loop-s-init : goal.loop-s-init
loop-s-init c =
    (refl, refl, refl, swept_first _ _ _ _ _ _ c.requires.0 c.requires.1 (stop_within _ _ _ (c.requires.0.placed c.requires.1).1 c.requires.2 c.stop-last.ensures))

pub sweep_unit-requires : goal.sweep_unit-requires
sweep_unit-requires c = (here_ready _ _ _ _ _ _ _ _ c.loop-s.invariant.3 c.loop-s-test.true, c.loop-s.invariant.3.phase)

pub overflow_sub-result : goal.overflow_sub-result
overflow_sub-result c = c.loop-s.invariant.3.from

pub shape_of-words-in_default : goal.shape_of-words-in_default
shape_of-words-in_default c = c.sweep_unit.auto.words ∙ c.loop-s.invariant.0

pub shape_of-colours-in_default : goal.shape_of-colours-in_default
shape_of-colours-in_default c = c.sweep_unit.auto.colours ∙ c.loop-s.invariant.1

pub shape_of-bytes-in_default : goal.shape_of-bytes-in_default
shape_of-bytes-in_default c = c.sweep_unit.auto.bytes ∙ c.loop-s.invariant.2

pub returns-in_default : goal.returns-in_default
returns-in_default c =
    swept_off _ _ _ _ c.loop-s.s c.loop-s.words c.loop-s.colours c.loop-s.bytes c.loop-s.invariant.3 c.loop-s-test.true _ _ _ c.sweep_unit.ensures.0 c.in_default.is

pub loop-s-smaller : goal.loop-s-smaller
loop-s-smaller c = stop_nearer _ _ _ _ _ _ _ _ c.loop-s.invariant.3 c.loop-s-test.true c.sweep_unit.ensures.1 _ c.in-Ok.is

pub loop-s-preserved : goal.loop-s-preserved
loop-s-preserved c = (
  c.sweep_unit.auto.words ∙ c.loop-s.invariant.0,
  c.sweep_unit.auto.colours ∙ c.loop-s.invariant.1,
  c.sweep_unit.auto.bytes ∙ c.loop-s.invariant.2,
  swept_on _ _ _ _ c.loop-s.s c.loop-s.words c.loop-s.colours c.loop-s.bytes c.loop-s.invariant.3 c.loop-s-test.true
      _ _ _ c.sweep_unit.ensures.0 c.sweep_unit.ensures.1 _ c.in-Ok.is,
)

pub settled-requires : goal.settled-requires
settled-requires c =
    let e = c.loop-s.invariant.3.mark in
    let m = c.requires.0.most in
    let k = c.requires.0.marked in
    omega arith

pub overflow_sub-result-2 : goal.overflow_sub-result-2
overflow_sub-result-2 c = c.loop-s.invariant.3.from

pub shape_of-words : goal.shape_of-words
shape_of-words c = c.loop-s.invariant.0

pub shape_of-colours : goal.shape_of-colours
shape_of-colours c = c.loop-s.invariant.1

pub shape_of-bytes : goal.shape_of-bytes
shape_of-bytes c = c.loop-s.invariant.2

pub returns : goal.returns
returns c = swept_end _ _ _ _ _ _ _ _ c.loop-s.invariant.3 c.loop-s-test.false c.settled.ensures
