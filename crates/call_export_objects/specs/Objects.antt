-- The export of a list whose rows are objects.
--     fields_from n k b h   the values of n fields of the object b, from field k on, as Read field answers them
--     fields_of n b h       its fields 0 to n - 1
--     refusal_from n k b h, row_refusal n b h     the first refusal that reading these fields in order gives, or 0
--     link_of n link b h    what reading these fields answers of the field link: that first refusal, or the field
--     object_rows n link h  such rows on the heap h: an object's first n fields, going on by the reference in field link
--     row_fits n link       the numbers are in range
--     export_objects b n link h out     the export
--     export_objects_numbers b n link h out     the same, with its answer in numbers
-- Assumes nothing.
use Rattle.std.specs.Prelude.{ℕ, zero, suc, ◌+◌, Bool, ◌&&◌, List, [], ◌∷◌, eqb, leb, ltb, if◌then◌else◌}
use Rattle.machine.specs.declared.ReadAnswer.{ReadAnswer}
use Rattle.machine.specs.Tests.{◌▷◌}
use Rattle.machine.specs.Heap.{Heap}
use Rattle.machine.specs.Read.{read_refused}
use Rattle.machine.specs.Field.{read_field}
use Rattle.part_rows.specs.declared.Reason.TheVariants.{Refused}
use Rattle.part_rows.specs.Shape.{Shape}
use Rattle.part_rows.specs.Rows.{ExportGiven, stopped, export_rows}
use Rattle.part_rows.specs.Numbers.{NumbersGiven, in_numbers}

unfoldable pub fields_from : ℕ → ℕ → ℕ → Heap → List ℕ
fields_from zero k b h = []
fields_from (suc n) k b h = (read_field b k h).answer.value ∷ fields_from n (k + 1) b h

abbrev pub fields_of : ℕ → ℕ → Heap → List ℕ
fields_of n b h = fields_from n 0 b h

-- "the first refusal that reading its fields in order gives"
unfoldable pub refusal_from : ℕ → ℕ → ℕ → Heap → ℕ
refusal_from zero k b h = 0
refusal_from (suc n) k b h = (read_field b k h).answer.refusal ▷ refusal_from n (k + 1) b h

abbrev pub row_refusal : ℕ → ℕ → Heap → ℕ
row_refusal n b h = refusal_from n 0 b h

unfoldable pub link_of : ℕ → ℕ → ℕ → Heap → ReadAnswer
link_of n link b h = if eqb (row_refusal n b h) 0 then (read_field b link h).answer else read_refused (row_refusal n b h)

abbrev pub object_rows : ℕ → ℕ → Heap → Shape
object_rows n link h =
    record {
      width = n;
      most = h.regs.blocks;
      link = λ b. link_of n link b h;
      row = λ b. fields_of n b h;
    }

-- "fields words a row (1 to 1,792) .., link (below fields)"
unfoldable pub row_fits : ℕ → ℕ → Bool
row_fits n link = leb 1 n && (leb n 1792 && ltb link n)

-- "Numbers out of range are told at once as refused by 3 with no row."
unfoldable pub export_objects : ℕ → ℕ → ℕ → Heap → List ℕ → ExportGiven
export_objects b n link h out = if row_fits n link then export_rows (object_rows n link h) b out else stopped 0 (Refused 3) out

abbrev pub export_objects_numbers : ℕ → ℕ → ℕ → Heap → List ℕ → NumbersGiven
export_objects_numbers b n link h out = in_numbers (export_objects b n link h out)
