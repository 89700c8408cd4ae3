-- `part_sweep::sweep_unit` meets its contract: a law for each step. Assumes nothing.
use mathlib.Core.Path.{refl, ap}
use native.Mathlib.Omega.{arith}
use Rattle.machine.specs.OneUnit.{finish, act, ended, passed}
use Rattle.machine.proofs.Blocks.{block_as}
use Rattle.machine.proofs.Running.{met_sweeping, unit_by, sweeps_block}
use Rattle.part_step.proofs.Picking.{sweeps_or}
use Rattle.part_sweep.proofs.Ending.{advance_settles, stepped}
use borrow.Enum.Refused.{opened}
use Rattle.part_sweep.proofs.sweep_unit.Goals as goal

pub word_of-word-requires : goal.word_of-word-requires
word_of-word-requires c = block_as c.requires.0.colours (sweeps_block _ c.requires.0 c.requires.1)

pub reclaim-requires : goal.reclaim-requires
reclaim-requires c = (c.requires.0, sweeps_block _ c.requires.0 c.requires.1)

pub whiten-requires : goal.whiten-requires
whiten-requires c = (c.requires.0.most, c.requires.0.colours, sweeps_block _ c.requires.0 c.requires.1)

pub onward-requires : goal.onward-requires
onward-requires c =
    let m = c.requires.0.most in
    let b = sweeps_block _ c.requires.0 c.requires.1 in
    omega arith

pub returns-in-Reclaim : goal.returns-in-Reclaim
unfolding act ended
returns-in-Reclaim c =
    let met = met_sweeping c.args.r c.args.words.now c.args.colours.now c.args.bytes.now c.requires.1 (sweeps_block _ c.requires.0 c.requires.1) c.word_of-word.ensures in
    (unit_by c.args.r c.args.words.now c.args.colours.now c.args.bytes.now met c.step.ensures c.in-Reclaim.is c.reclaim.ensures.0, c.reclaim.ensures.1)

pub returns-in-Whiten : goal.returns-in-Whiten
unfolding act ended
returns-in-Whiten c =
    let met = met_sweeping c.args.r c.args.words.now c.args.colours.now c.args.bytes.now c.requires.1 (sweeps_block _ c.requires.0 c.requires.1) c.word_of-word.ensures in (
      unit_by c.args.r c.args.words.now c.args.colours.now c.args.bytes.now met c.step.ensures c.in-Whiten.is (ap finish (c.whiten.ensures.0 _ _)),
      stepped c.args.r _ c.whiten.ensures.1 refl refl refl,
    )

pub returns-in-Pass : goal.returns-in-Pass
unfolding act ended passed
returns-in-Pass c =
    let met = met_sweeping c.args.r c.args.words.now c.args.colours.now c.args.bytes.now c.requires.1 (sweeps_block _ c.requires.0 c.requires.1) c.word_of-word.ensures in (
      unit_by c.args.r c.args.words.now c.args.colours.now c.args.bytes.now met c.step.ensures c.in-Pass.is (rw (c.onward.ensures, advance_settles c.args.r) refl),
      stepped c.args.r _ c.onward.ensures refl refl refl,
    )

pub returns-in_default : goal.returns-in_default
unfolding act ended
returns-in_default c =
    let met = met_sweeping c.args.r c.args.words.now c.args.colours.now c.args.bytes.now c.requires.1 (sweeps_block _ c.requires.0 c.requires.1) c.word_of-word.ensures in
    (unit_by c.args.r c.args.words.now c.args.colours.now c.args.bytes.now met c.step.ensures (sweeps_or _ _ _ _ c.step.ensures c.requires.1 (opened c.in_default.in_default-own.keys4)) refl, tt)
