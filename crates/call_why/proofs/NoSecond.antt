-- No second outcome fits a contract: two things equal to a third are equal.
--     no_second_outcome
-- Assumes nothing.
use mathlib.Core.Path.{sym, ◌∙◌, ap}
use Rattle.machine.specs.Why.{WhyGiven}
use Rattle.call_why.specs.Numbers.{NumbersGiven}
use Rattle.call_why.specs.NoSecond.{NoSecondOutcome}

pub no_second_outcome : NoSecondOutcome
no_second_outcome =
    record {
      of_why = λ b h path queue came x y ps qs cs ps' qs' cs' e f.
          let q = e ∙ sym f in (
            ap (λ (g : WhyGiven). g.answer) q,
            ap (λ (g : WhyGiven). g.path) q,
            ap (λ (g : WhyGiven). g.queue) q,
            ap (λ (g : WhyGiven). g.came) q,
          );
      of_numbers = λ b h path queue came x y ps qs cs ps' qs' cs' e f.
          let q = e ∙ sym f in (
            ap (λ (g : NumbersGiven). g.answer) q,
            ap (λ (g : NumbersGiven). g.path) q,
            ap (λ (g : NumbersGiven). g.queue) q,
            ap (λ (g : NumbersGiven). g.came) q,
          );
    }
