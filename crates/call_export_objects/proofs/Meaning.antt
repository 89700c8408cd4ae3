-- The answer of an export of objects means what `ObjectsMean` says.
--     export_objects_means     on every heap, for every start, numbers and buffer
-- Assumes nothing.
use Prim.Native.Nat.{ℕ}
use mathlib.Core.List.{List}
use Rattle.machine.specs.Heap.{Heap}
use Rattle.part_rows.proofs.Meaning.{rows_mean}
use Rattle.call_export_objects.specs.Meaning.{ObjectsMean}
use Rattle.call_export_objects.proofs.Steps.{object_rows_lem, objects_fit, objects_off}

pub export_objects_means : (b n link : ℕ) (h : Heap) (out : List ℕ) → ObjectsMean b n link h out
export_objects_means b n link h out =
    record {
      given = λ d. objects_fit h b n link out d;
      means = λ d. rows_mean (object_rows_lem h n link d) b out;
      outside = λ d. objects_off h b n link out d;
    }
