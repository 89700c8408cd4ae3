use Rattle.text_commands.proofs.Gathering.{Gathered}
use Rattle.text_commands.proofs.numbers_after.Given as goal

abbrev pub invariant-loop-count : goal.invariant-loop-count
invariant-loop-count l = Gathered l.text l.fn.start.at l.at l.count l.numbers
