use Rattle.text_numbers.proofs.Digits.{Reading}
use Rattle.text_numbers.proofs.number_of.Given as goal

abbrev pub invariant-loop-b : goal.invariant-loop-b
invariant-loop-b l = Reading l.piece l.b-index l.n
