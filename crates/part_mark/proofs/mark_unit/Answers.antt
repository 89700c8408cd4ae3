-- `part_mark::mark_unit` meets its contract: the block is marked, or there is damage. Assumes nothing.
use mathlib.Core.Path.{refl}
use Rattle.machine.specs.OneUnit.{act, ended}
use Rattle.machine.proofs.Blocks.{block_as}
use Rattle.machine.proofs.Running.{met_marking, unit_by, marks_block}
use Rattle.part_step.proofs.Picking.{marks_or}
use borrow.Enum.Refused.{opened}
use Rattle.part_mark.proofs.mark_unit.Goals as goal

pub word_of-word-requires : goal.word_of-word-requires
word_of-word-requires c = block_as c.requires.0.colours (marks_block _ c.requires.0 c.requires.2)

pub mark-requires : goal.mark-requires
mark-requires c = (c.requires.0, marks_block _ c.requires.0 c.requires.2)

pub returns-in-Mark : goal.returns-in-Mark
unfolding act ended
returns-in-Mark c =
    let met = met_marking c.args.r c.args.words.now c.args.colours.now c.args.bytes.now c.requires.1 (marks_block _ c.requires.0 c.requires.2) c.word_of-word.ensures in
    unit_by c.args.r c.args.words.now c.args.colours.now c.args.bytes.now met c.step.ensures c.in-Mark.is c.mark.ensures

pub returns : goal.returns
unfolding act ended
returns c =
    let met = met_marking c.args.r c.args.words.now c.args.colours.now c.args.bytes.now c.requires.1 (marks_block _ c.requires.0 c.requires.2) c.word_of-word.ensures in
    unit_by c.args.r c.args.words.now c.args.colours.now c.args.bytes.now met c.step.ensures (marks_or _ _ _ _ c.step.ensures c.requires.1 c.requires.2 (opened c.in_default.in_default-own.keys2)) refl
