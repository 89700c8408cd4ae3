-- An export's answer in numbers, for a caller that takes no enum.
--     reason_number r       1 to 4, in the order of the tests
--     refusal_number r      the number by which reading a row was refused, else 0
--     numbers_of x          complete 1 or 0; the rows; the reason, 0 where complete; the refusal, 0 where there is none
--     NumbersGiven, in_numbers g     what an export gives, with its answer in numbers
-- Assumes nothing.
use Rattle.std.specs.Prelude.{ℕ, List, Result, Ok, Err}
use Rattle.part_rows.specs.declared.Reason.{Reason}
use Rattle.part_rows.specs.declared.Reason.TheVariants.{Circle, NoRoom, Refused, NoReference}
use Rattle.part_rows.specs.declared.Stopped.{Stopped}
use Rattle.part_rows.specs.declared.ExportAnswer.{ExportAnswer}
use Rattle.part_rows.specs.Rows.{ExportGiven}

abbrev pub reason_number : Reason → ℕ
reason_number Circle = 1
reason_number NoRoom = 2
reason_number (Refused e) = 3
reason_number NoReference = 4

abbrev pub refusal_number : Reason → ℕ
refusal_number Circle = 0
refusal_number NoRoom = 0
refusal_number (Refused e) = e
refusal_number NoReference = 0

abbrev pub numbers_of : Result ℕ Stopped → ExportAnswer
numbers_of (Ok n) = record { complete = 1; rows = n; reason = 0; refusal = 0 }
numbers_of (Err s) = record { complete = 0; rows = s.rows; reason = reason_number s.reason; refusal = refusal_number s.reason }

pub record NumbersGiven : Type 0 where
  pub answer : ExportAnswer
  pub out : List ℕ

unfoldable pub in_numbers : ExportGiven → NumbersGiven
in_numbers g = record { answer = numbers_of g.answer; out = g.out }
