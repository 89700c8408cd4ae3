-- What the answer of an export of objects means.
--     ObjectsMean b n link h out     with numbers in range it is the meaning of every export, of the rows that these objects are; numbers
--                          out of range are refused at once
-- Assumes nothing.
use Rattle.std.specs.Prelude.{ℕ, ◌≡◌, true, false, List}
use Rattle.machine.specs.Heap.{Heap}
use Rattle.part_rows.specs.declared.Reason.TheVariants.{Refused}
use Rattle.part_rows.specs.Rows.{stopped, export_rows}
use Rattle.part_rows.specs.Meaning.{ExportMeans}
use Rattle.call_export_objects.specs.Objects.{object_rows, row_fits, export_objects}

pub record ObjectsMean (b n link : ℕ) (h : Heap) (out : List ℕ) : Type 0 where
  pub given : row_fits n link ≡ true → export_objects b n link h out ≡ export_rows (object_rows n link h) b out
  pub means : row_fits n link ≡ true → ExportMeans (object_rows n link h) b out
  pub outside : row_fits n link ≡ false → export_objects b n link h out ≡ stopped 0 (Refused 3) out
