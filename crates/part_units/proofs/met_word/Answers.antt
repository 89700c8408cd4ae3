-- `part_units::met_word` meets its contract: the block met, by the phase. Assumes nothing.
use Rattle.machine.specs.Colouring.{coloured}
use Rattle.machine.proofs.Blocks.{block_as}
use Rattle.machine.proofs.Running.{met_as, met_at, meets_root, meets_grey, meets_position}
use Rattle.part_units.proofs.met_word.Goals as goal

pub word_met-requires : goal.word_met-requires
word_met-requires c = (c.requires.0, c.requires.1)

pub word_met-requires-in-1 : goal.word_met-requires-in-1
word_met-requires-in-1 c = (c.requires.0, c.requires.1)

pub word_of-requires : goal.word_of-requires
word_of-requires c = block_as c.requires.1 (c.requires.2 c.in_default.in_default-own.rest.0.1 c.in_default.in_default-own.rest.1)

pub returns-in-0 : goal.returns-in-0
returns-in-0 c =
    met_as _ (coloured c.args.r.blocks c.args.r.grey c.args.colours.now) (meets_root _ _ c.in-0.is) c.word_met.ensures

pub returns-in-1 : goal.returns-in-1
returns-in-1 c =
    met_as _ (coloured c.args.r.blocks c.args.r.grey c.args.colours.now) (meets_grey _ _ c.in-1.is) c.word_met-in-1.ensures

pub returns-in_default : goal.returns-in_default
returns-in_default c =
    let i = c.in_default.in_default-own.rest.0.1 in
    let k = c.in_default.in_default-own.rest.1 in
    met_at _ (coloured c.args.r.blocks c.args.r.grey c.args.colours.now) (meets_position _ _ i k) (c.requires.2 i k) c.word_of.ensures
