-- `part_colours::word_met` meets its contract. Assumes nothing.
use mathlib.Core.Path.{◌∙◌, sym}
use Rattle.machine.proofs.Tests.{so, if_true, if_false}
use Rattle.machine.proofs.Tests.{so}
use Rattle.machine.proofs.Blocks.{block_within}
use Rattle.part_colours.proofs.word_met.Goals as goal

pub word_of-requires : goal.word_of-requires
word_of-requires c = block_within c.requires.1 (so c.is_block.ensures c.if-is_block.true)

pub returns-then-is_block : goal.returns-then-is_block
returns-then-is_block c = c.word_of.ensures ∙ sym (if_true _ _ (so c.is_block.ensures c.if-is_block.true))

pub returns : goal.returns
returns c = sym (if_false _ _ (so c.is_block.ensures c.if-is_block.false))
