-- `text_numbers::number_at` meets its contract: the piece at the place, and the number that it is. Assumes nothing.
use Rattle.std.proofs.Common.{rules, ◌∙◌, ap}
use Rattle.text_numbers.specs.Numbers.{piece}
use Rattle.text_numbers.proofs.Digits.{no_text, rest_is, number_is}
use Rattle.text_numbers.proofs.number_at.Goals as goal

pub returns-in_err-get : goal.returns-in_err-get
returns-in_err-get c = c.from_residual.ensures ∙ no_text c.args.text.now c.args.start.at (search rules)

pub returns-in_err-value : goal.returns-in_err-value
returns-in_err-value c =
    c.from_residual-in_err-value.ensures ∙ (number_is c.args.text.now c.args.start.at c.piece-digits.result.now _ (c.piece-digits.ensures ∙ ap piece (rest_is c.args.text.now c.args.start.at c.in_ok-get.ensures.lookup.0.2)) c.number_of.ensures).0 (search rules)

pub returns : goal.returns
returns c =
    (number_is c.args.text.now c.args.start.at c.piece-digits.result.now _ (c.piece-digits.ensures ∙ ap piece (rest_is c.args.text.now c.args.start.at c.in_ok-get.ensures.lookup.0.2)) c.number_of.ensures).1 _ (search rules)
