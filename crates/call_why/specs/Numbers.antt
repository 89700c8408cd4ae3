-- Why with its answer in numbers, for a caller that takes no enum.
--     NumbersGiven         what the call gives
--     why_in_numbers path queue came b h     the call
-- Assumes nothing.
use Rattle.std.specs.Prelude.{ℕ, List}
use Rattle.machine.specs.declared.WhyNumbers.{WhyNumbers}
use Rattle.machine.specs.Heap.{Heap}
use Rattle.machine.specs.Why.{WhyGiven, why, why_numbers}

pub record NumbersGiven : Type 0 where
  pub answer : WhyNumbers
  pub path : List ℕ
  pub queue : List ℕ
  pub came : List ℕ

unfoldable pub in_numbers : WhyGiven → NumbersGiven
in_numbers g = record { answer = why_numbers g.answer; path = g.path; queue = g.queue; came = g.came }

abbrev pub why_in_numbers : List ℕ → List ℕ → List ℕ → ℕ → Heap → NumbersGiven
why_in_numbers path queue came b h = in_numbers (why path queue came b h)
