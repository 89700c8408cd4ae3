-- The export of a list, as one total function, whatever its rows are.
--     ExportGiven          what an export gives: its answer, and the buffer afterwards
--     complete n out, stopped n r out     the two ways in which it ends, with the buffer as it then is.
--     off n r              the answer of the second.     after n r     the record in it
--     followed a           what a link leads to, by what reading it answers; lead s b, for the row of the block b
--     with_row at row out   the buffer out with this row from word at on
--     onward f on halt     on to the next block, or a halt for a reason
--     export_from s k n b out     the rest of an export that has n rows, from b on; k rows more are as many as the heap has blocks
--     export_rows s b out   the export
-- "An export is complete, or says that it is not."
-- The tests of a block come in this order, all before its row is written: there are M rows already; the row doesn't fit; reading the
-- row is refused; its link is no reference.
-- Assumes nothing.
use Rattle.std.specs.Prelude.{ℕ, zero, suc, ◌+◌, ◌*◌, List, ◌++◌, Result, Ok, Err, eqb, ltb, length, take, drop, if◌then◌else◌}
use Rattle.machine.specs.declared.ReadAnswer.{ReadAnswer}
use Rattle.part_rows.specs.declared.Reason.{Reason}
use Rattle.part_rows.specs.declared.Reason.TheVariants.{Circle, NoRoom, Refused, NoReference}
use Rattle.part_rows.specs.declared.Stopped.{Stopped}
use Rattle.part_rows.specs.Shape.{Shape}

pub record ExportGiven : Type 0 where
  pub answer : Result ℕ Stopped
  pub out : List ℕ

abbrev pub complete : ℕ → List ℕ → ExportGiven
complete n out = record { answer = Ok n; out = out }

abbrev pub after : ℕ → Reason → Stopped
after n r = record { rows = n; reason = r }

abbrev pub off : ℕ → Reason → Result ℕ Stopped
off n r = Err (after n r)

abbrev pub stopped : ℕ → Reason → List ℕ → ExportGiven
stopped n r out = record { answer = off n r; out = out }

unfoldable pub followed : ReadAnswer → Result ℕ Reason
followed a =
    if eqb a.refusal 0
    then (if eqb a.reference 1 then Ok a.value else Err NoReference)
    else Err (Refused a.refusal)

abbrev pub lead : Shape → ℕ → Result ℕ Reason
lead s b = followed (s.link b)

unfoldable pub with_row : ℕ → List ℕ → List ℕ → List ℕ
with_row at row out = take at out ++ (row ++ drop (at + length row) out)

-- on to the next block, or the end of the export
unfoldable pub onward : Result ℕ Reason → (ℕ → ExportGiven) → (Reason → ExportGiven) → ExportGiven
onward (Ok next) on halt = on next
onward (Err r) on halt = halt r

unfoldable pub export_from : Shape → ℕ → ℕ → ℕ → List ℕ → ExportGiven
export_from s zero n b out = if eqb b 0 then complete n out else stopped n Circle out
export_from s (suc k) n b out =
    if eqb b 0 then complete n out else
    if ltb (length out) (s.width * n + s.width) then stopped n NoRoom out else
    onward (lead s b) (λ next. export_from s k (n + 1) next (with_row (s.width * n) (s.row b) out)) (λ r. stopped n r out)

unfoldable pub export_rows : Shape → ℕ → List ℕ → ExportGiven
export_rows s b out = export_from s s.most 0 b out
