-- `text_numbers::number_of` meets its contract: a test for each way out, and the digits read so far. Assumes nothing.
use Rattle.std.proofs.Common.{rules, tests}
use Rattle.text_numbers.specs.Numbers.{is_digit}
use Rattle.text_numbers.proofs.Digits.{reads_on, reads_off, reads_all, no_digits, empty_piece, long_piece}
use Rattle.text_numbers.proofs.number_of.Goals as goal
use Rattle.text_numbers.proofs.number_of.Goals.{then-is_empty-via-then-is_empty, then-is_empty-via-else-is_empty+then-piece-gt-MOST_DIGITS}

pub returns-then-is_empty : goal.returns-then-is_empty
returns-then-is_empty c =
    elim c.then-is_empty.branch [
      | then-is_empty-via-then-is_empty w ↦ empty_piece c.args.piece.now (search (rules, tests))
      | then-is_empty-via-else-is_empty+then-piece-gt-MOST_DIGITS w ↦ long_piece c.args.piece.now (search rules)
    ]

pub returns-then-not-is_ascii_digit : goal.returns-then-not-is_ascii_digit
unfolding is_digit
returns-then-not-is_ascii_digit c =
    no_digits c.args.piece.now (reads_off c.args.piece.now _ _ c.loop-b.invariant (search rules) (search (rules, tests)))

pub loop-b-preserved : goal.loop-b-preserved
unfolding is_digit
loop-b-preserved c = reads_on c.args.piece.now _ _ c.loop-b.invariant (search rules) (search (rules, tests)) (search rules)

pub returns : goal.returns
returns c =
    reads_all c.args.piece.now _ _ c.loop-b.invariant _ (search rules) (search (rules, tests)) (search rules) (λ h. search rules) (λ h. search rules)
