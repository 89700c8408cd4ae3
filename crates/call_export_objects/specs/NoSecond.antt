-- That no second outcome fits the contract of `export_objects`, or of `export_objects_numbers`.
--     NoSecondOutcome      two outcomes that fit are the same: the answer, and the buffer afterwards
-- Assumes nothing.
use Rattle.std.specs.Prelude.{ℕ, ◌≡◌, List, Result}
use Rattle.machine.specs.Heap.{Heap}
use Rattle.part_rows.specs.declared.Stopped.{Stopped}
use Rattle.part_rows.specs.declared.ExportAnswer.{ExportAnswer}
use Rattle.call_export_objects.specs.Objects.{export_objects, export_objects_numbers}

pub record NoSecondOutcome : Type 0 where
  pub of_export :
      (b n link : ℕ) (h : Heap) (out : List ℕ) (x y : Result ℕ Stopped) (os ps : List ℕ)
      → (record { answer = x; out = os }) ≡ export_objects b n link h out → (record { answer = y; out = ps }) ≡ export_objects b n link h out
      → (x ≡ y) × (os ≡ ps)
  pub of_numbers :
      (b n link : ℕ) (h : Heap) (out : List ℕ) (x y : ExportAnswer) (os ps : List ℕ)
      → (record { answer = x; out = os }) ≡ export_objects_numbers b n link h out
      → (record { answer = y; out = ps }) ≡ export_objects_numbers b n link h out → (x ≡ y) × (os ≡ ps)
