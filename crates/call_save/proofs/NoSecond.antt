-- No second outcome fits the contract: two things equal to a third are equal.
--     no_second_outcome
-- Assumes nothing.
use mathlib.Core.Path.{sym, ◌∙◌, ap}
use Rattle.machine.specs.Save.{SaveGiven}
use Rattle.call_save.specs.NoSecond.{NoSecondOutcome}

pub no_second_outcome : NoSecondOutcome
no_second_outcome h out x y os ps e f =
    let q = e ∙ sym f in
    (ap (λ (g : SaveGiven). g.answer) q, ap (λ (g : SaveGiven). g.out) q)
