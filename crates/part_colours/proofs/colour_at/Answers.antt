-- `part_colours::colour_at` meets its contract. Assumes nothing.
use Rattle.machine.proofs.Blocks.{block_as, block_is_block}
use Rattle.machine.proofs.Colours.{colour_as}
use Rattle.part_colours.proofs.colour_at.Goals as goal

pub word_of-requires : goal.word_of-requires
word_of-requires c = block_as c.requires.1 c.requires.2

pub returns : goal.returns
returns c = λ g. colour_as _ g _ _ (block_is_block _ _ c.requires.2) c.word_of.ensures c.colour.ensures
