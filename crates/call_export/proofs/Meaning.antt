-- An export's answer means what `ExportMeans` says.
--     export_means         the meaning of the export, on every heap, for every link word, start and buffer
-- Assumes nothing.
use Prim.Native.Nat.{ℕ}
use mathlib.Core.List.{List}
use Rattle.machine.specs.Heap.{Heap}
use Rattle.part_rows.specs.Meaning.{ExportMeans}
use Rattle.part_rows.proofs.Meaning.{rows_mean}
use Rattle.call_export.specs.Export.{block_rows}
use Rattle.call_export.proofs.Steps.{block_rows_lem}

pub export_means : (h : Heap) (w b : ℕ) (out : List ℕ) → ExportMeans (block_rows w h) b out
export_means h w b out = rows_mean (block_rows_lem h w) b out
