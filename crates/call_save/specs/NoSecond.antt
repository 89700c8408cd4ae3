-- That no second outcome fits the contract of `save`.
--     NoSecondOutcome      two outcomes that fit are the same: the answer, and the output afterwards
-- Assumes nothing.
use Rattle.std.specs.Prelude.{ℕ, ◌≡◌, List}
use Rattle.machine.specs.declared.Answer.{Answer}
use Rattle.machine.specs.Heap.{Heap}
use Rattle.machine.specs.Save.{save}

abbrev pub NoSecondOutcome : Type 0
NoSecondOutcome =
    (h : Heap) (out : List ℕ) (x y : Answer) (os ps : List ℕ)
    → (record { answer = x; out = os }) ≡ save out h → (record { answer = y; out = ps }) ≡ save out h → (x ≡ y) × (os ≡ ps)
