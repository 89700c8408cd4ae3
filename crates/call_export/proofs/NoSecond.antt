-- No second outcome fits a contract.
--     no_second_outcome
-- Assumes nothing.
use Rattle.part_rows.proofs.Steps.{same_given, same_numbers}
use Rattle.call_export.specs.NoSecond.{NoSecondOutcome}

pub no_second_outcome : NoSecondOutcome
no_second_outcome =
    record {
      of_export = λ b w h out x y os ps e f. same_given e f;
      of_numbers = λ b w h out x y os ps e f. same_numbers e f;
    }
