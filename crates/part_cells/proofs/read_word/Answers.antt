-- `part_cells::read_word` meets its contract: the word's bit tells a reference from a number. Assumes nothing.
use Rattle.machine.proofs.Tests.{so, by_test}
use Rattle.machine.proofs.Reading.{word_reference, word_number}
use Rattle.part_cells.proofs.read_word.Goals as goal

pub returns : goal.returns
returns c r cs =
    by_test c.bit.result
    (λ t. rw (c.from.ensures, t) (word_reference _ _ _ (so c.bit.ensures t)))
    (λ t. rw (c.from.ensures, t) (word_number _ _ _ (so c.bit.ensures t)))
