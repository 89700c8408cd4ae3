-- `part_colours::grey_white` meets its contract: a law of the layout for each way out. Assumes nothing.
use mathlib.Core.Path.{sym, ◌∙◌}
use native.Mathlib.Omega.{arith}
use Rattle.machine.proofs.Tests.{so}
use Rattle.machine.proofs.Blocks.{block_is_block, below_is_block, block_as}
use Rattle.machine.proofs.Colours.{not_a_block, not_white, was_white}
use Rattle.part_colours.proofs.grey_white.Goals as goal

pub word_of-requires : goal.word_of-requires
word_of-requires c = c.requires c.if-b-ne0.true

pub to_grey-requires : goal.to_grey-requires
to_grey-requires c = c.requires c.if-b-ne0.true

pub returns-then-word_of-eq-WHITE : goal.returns-then-word_of-eq-WHITE
returns-then-word_of-eq-WHITE c =
    λ m e. c.to_grey.ensures m ∙ was_white _ _ (block_is_block m _ (block_as (sym e) (c.requires c.if-b-ne0.true))) (so c.word_of.ensures c.if-word_of-eq-WHITE.true)

pub returns-else-word_of-eq-WHITE : goal.returns-else-word_of-eq-WHITE
returns-else-word_of-eq-WHITE c = λ m e. not_white _ _ (λ z. c.if-word_of-eq-WHITE.false (c.word_of.ensures ∙ z))

pub returns-else-b-ne0 : goal.returns-else-b-ne0
returns-else-b-ne0 c = λ m e. not_a_block _ _ (below_is_block _ _ (omega arith))
