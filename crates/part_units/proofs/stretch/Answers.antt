-- `part_units::stretch` meets its contract: one unit, or the loop of the phase that the step tells. Assumes nothing.
use Rattle.std.proofs.Common.{refl, ap, arith}
use Rattle.machine.specs.OneUnit.{finish, act}
use Rattle.machine.proofs.Blocks.{block_as}
use Rattle.machine.proofs.Running.{met_word_lem, unit_by, sweeps_block}
use Rattle.part_step.proofs.Going.{single_on, single_off}
use Rattle.part_step.proofs.Picking.{picks_mark, picks_sweep}
use Rattle.part_units.proofs.stretch.Goals as goal

pub met_word-word-requires : goal.met_word-word-requires
met_word-word-requires c =
    let d = c.requires.0 in
    let p = d.phase in
    (d.most, d.colours, λ i k. sweeps_block _ d (omega arith))

pub step-requires : goal.step-requires
step-requires c = c.requires.0.most

pub begin-requires : goal.begin-requires
begin-requires c =
    let d = c.requires.0 in
    λ n. block_as d.colours (d.root n)

pub marks-requires : goal.marks-requires
marks-requires c =
    let k = picks_mark _ _ _ _ c.step.ensures c.in-Mark.is in
    (c.requires.0, k.0, k.1, c.requires.1)

pub sweeps-requires : goal.sweeps-requires
sweeps-requires c = (c.requires.0, picks_sweep _ _ _ _ c.step.ensures c.in_default.in_default-own.keys5, c.requires.1)

pub returns-in-Begin : goal.returns-in-Begin
unfolding act
returns-in-Begin c =
    rw c.single.ensures
    (single_on _ _ _ _ _ c.requires.1 _ c.requires.0
    (unit_by c.args.r c.args.words.now c.args.colours.now c.args.bytes.now (met_word_lem c.args.r c.args.words.now c.args.colours.now c.args.bytes.now c.met_word-word.ensures) c.step.ensures c.in-Begin.is (ap finish (c.begin.ensures _ _))))

pub returns-in-Turn : goal.returns-in-Turn
unfolding act
returns-in-Turn c =
    rw c.single-in-Turn.ensures
    (single_on _ _ _ _ _ c.requires.1 _ c.requires.0
    (unit_by c.args.r c.args.words.now c.args.colours.now c.args.bytes.now (met_word_lem c.args.r c.args.words.now c.args.colours.now c.args.bytes.now c.met_word-word.ensures) c.step.ensures c.in-Turn.is (ap finish (c.turn.ensures _ _ _))))

pub returns-in-Mark : goal.returns-in-Mark
returns-in-Mark c = c.marks.ensures

pub returns-in-Damage : goal.returns-in-Damage
unfolding act
returns-in-Damage c =
    single_off _ _ _ _ _ c.requires.1 c.args.r
    (unit_by c.args.r c.args.words.now c.args.colours.now c.args.bytes.now (met_word_lem c.args.r c.args.words.now c.args.colours.now c.args.bytes.now c.met_word-word.ensures) c.step.ensures c.in-Damage.is refl)

pub returns-in_default : goal.returns-in_default
returns-in_default c = c.sweeps.ensures
