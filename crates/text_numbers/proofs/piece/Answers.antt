-- `text_numbers::piece` meets its contract: the first space, or the end. Assumes nothing.
use Rattle.std.proofs.Common.{rules, tests}
use lib.Dec.{eqb}
use Rattle.std.proofs.lemmas.Iterator.{YieldsList-from_slice}
use Rattle.std.proofs.lemmas.Iterator.Search.{position_from_yields_List}
use Rattle.text_numbers.proofs.Digits.{piece_found}
use Rattle.text_numbers.proofs.piece.Goals as goal

pub returns : goal.returns
returns c =
    piece_found c.args.text.now c.position.result _ (position_from_yields_List (λ x. eqb x 32) _ _ _ c.position.ensures.ran (YieldsList-from_slice c.args.text.now cc) (λ x b q k. search (rules, tests))) c.unwrap_or-end.ensures
