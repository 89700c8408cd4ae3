-- That no second outcome fits the contract of `export`, or of `export_numbers`.
--     NoSecondOutcome      two outcomes that fit are the same: the answer, and the buffer afterwards
-- Assumes nothing.
use Rattle.std.specs.Prelude.{ℕ, ◌≡◌, List, Result}
use Rattle.machine.specs.Heap.{Heap}
use Rattle.part_rows.specs.declared.Stopped.{Stopped}
use Rattle.part_rows.specs.declared.ExportAnswer.{ExportAnswer}
use Rattle.call_export.specs.Export.{export, export_numbers}

pub record NoSecondOutcome : Type 0 where
  pub of_export :
      (b w : ℕ) (h : Heap) (out : List ℕ) (x y : Result ℕ Stopped) (os ps : List ℕ)
      → (record { answer = x; out = os }) ≡ export b w h out → (record { answer = y; out = ps }) ≡ export b w h out → (x ≡ y) × (os ≡ ps)
  pub of_numbers :
      (b w : ℕ) (h : Heap) (out : List ℕ) (x y : ExportAnswer) (os ps : List ℕ)
      → (record { answer = x; out = os }) ≡ export_numbers b w h out → (record { answer = y; out = ps }) ≡ export_numbers b w h out → (x ≡ y) × (os ≡ ps)
