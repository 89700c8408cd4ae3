-- That no second outcome fits the contract of `why`, or of `why_numbers`.
--     NoSecondOutcome      two outcomes that fit are the same: the answer, and the three lent buffers afterwards
-- Assumes nothing.
use Rattle.std.specs.Prelude.{ℕ, ◌≡◌, List, Result}
use Rattle.machine.specs.declared.Why.{Why}
use Rattle.machine.specs.declared.WhyNumbers.{WhyNumbers}
use Rattle.machine.specs.Heap.{Heap}
use Rattle.machine.specs.Why.{why}
use Rattle.call_why.specs.Numbers.{why_in_numbers}

pub record NoSecondOutcome : Type 0 where
  pub of_why :
      (b : ℕ) (h : Heap) (path queue came : List ℕ) (x y : Result Why ℕ) (ps qs cs ps' qs' cs' : List ℕ)
      → (record { answer = x; path = ps; queue = qs; came = cs }) ≡ why path queue came b h
      → (record { answer = y; path = ps'; queue = qs'; came = cs' }) ≡ why path queue came b h
      → (x ≡ y) × (ps ≡ ps') × (qs ≡ qs') × (cs ≡ cs')
  pub of_numbers :
      (b : ℕ) (h : Heap) (path queue came : List ℕ) (x y : WhyNumbers) (ps qs cs ps' qs' cs' : List ℕ)
      → (record { answer = x; path = ps; queue = qs; came = cs }) ≡ why_in_numbers path queue came b h
      → (record { answer = y; path = ps'; queue = qs'; came = cs' }) ≡ why_in_numbers path queue came b h
      → (x ≡ y) × (ps ≡ ps') × (qs ≡ qs') × (cs ≡ cs')
