-- What an export's stopping means on a well-formed heap.
--     NeverRefused         from 0 or a reachable start, by a link word 0 to 7, Read refuses no block of the list
--     TrueCircle kind      an export that stops after M rows is of a list that has no end
-- So such an export is complete, or the buffer is too short, or a link word of the list holds a number, or the list runs in a circle.
-- Assumes nothing.
use Rattle.std.specs.Prelude.{ℕ, ◌≤◌, ◌≡◌, ◌≢◌, List, length}
use Rattle.machine.specs.Heap.{Heap}
use Rattle.machine.specs.WellFormed.{WellFormed}
use Rattle.part_rows.specs.declared.Reason.TheVariants.{Circle, Refused}
use Rattle.part_rows.specs.Rows.{off, export_rows}
use Rattle.part_rows.specs.Lists.{Listed}
use Rattle.call_export.specs.Export.{export}
use Rattle.theory_clause.specs.Lasting.{Kind, Hangs}

abbrev pub NeverRefused : Type 0
NeverRefused =
    (h : Heap) → WellFormed h → (s w : ℕ) → w ≤ 7 → Hangs h s → (out : List ℕ) (n e : ℕ) → (export s w h out).answer ≢ off n (Refused e)

-- on any heap: a list that ends has no more rows than the heap has blocks
pub record TrueCircle (kind : Kind) : Type 0 where
  pub short : (h : Heap) (s : ℕ) (bs : List ℕ) → Listed (kind.shape h) s bs → length bs ≤ h.regs.blocks
  pub endless :
      (h : Heap) (s n : ℕ) (out : List ℕ) → (export_rows (kind.shape h) s out).answer ≡ off n Circle → (bs : List ℕ)
      → Listed (kind.shape h) s bs → ⊥
