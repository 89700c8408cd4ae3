-- An export goes along a list: one row for each block that leads on.
--     leads_lead, lead_leads     a link that leads on, as a relation and as the definition has it
--     rows_length          the rows of a list of blocks
--     rows_none, rows_more no row is none, and one row more is one behind another
--     row_kept             a row that fits leaves the buffer as long as it was
--     along_export         along a list whose rows fit, an export is what it is at the list's end, with the rows written
-- Assumes nothing.
use Prim.Native.Nat.{ℕ, suc, ◌+◌, ◌-◌, ◌*◌, ◌≤◌}
use mathlib.Core.Path.{◌≡◌, refl, sym, ◌∙◌, subst}
use mathlib.Core.List.{List, [], ◌++◌, append_assoc}
use native.Mathlib.Omega.{arith}
use native.Mathlib.Nat.{mul-le-mul_left}
use lib.ListN.{length, take, drop, length-append, length-take, length-drop, take-append-drop}
use lib.Seq.{take_at, drop-append-add, drop-drop, length-take-le}
use Rattle.std.specs.Prelude.{Ok}
use Rattle.part_rows.specs.Shape.{Shape, Sound}
use Rattle.part_rows.specs.Rows.{lead, with_row, export_from}
use Rattle.part_rows.specs.Lists.{Leads, Along, here, past, rows_of}
use Rattle.part_rows.proofs.Steps.{followed_to, to_followed, export_on}

module _ {s : Shape} {b x : ℕ} where
  pub leads_lead : Leads s b x → lead s b ≡ Ok x
  leads_lead l = followed_to (s.link b) l.readable l.reference l.value

  pub lead_leads : lead s b ≡ Ok x → Leads s b x
  lead_leads e = let t = to_followed (s.link b) e in record { readable = t.0; reference = t.1; value = t.2 }

pub rows_length : {s : Shape} {b c : ℕ} {bs : List ℕ} → Sound s → Along s b bs c → length (rows_of s bs) ≡ s.width * length bs
unfolding rows_of
rows_length d (here e) = omega arith
rows_length d (past {b} l a) = simp length-append (omega (arith, d.wide b l.readable, rows_length d a))

pub rows_none : (out : List ℕ) (at : ℕ) → out ≡ with_row at [] out
unfolding with_row
rows_none out at = let e : at + 0 ≡ at = omega arith in rw e (sym (take-append-drop at out))

module _ (out : List ℕ) (at : ℕ) (room : at ≤ length out) (row rows : List ℕ) where
  front : length (take at out) ≡ at
  front = length-take-le at out room

  pub rows_more : with_row (at + length row) rows (with_row at row out) ≡ with_row at (row ++ rows) out
  unfolding with_row
  rows_more =
      let a = take at out in
      let d = drop (at + length row) out in
      let p : length (a ++ row) ≡ at + length row = simp length-append (omega (arith, front)) in
      let t : take (at + length row) (a ++ (row ++ d)) ≡ a ++ row = rw (← append_assoc a row d) (take_at (a ++ row) d (at + length row) p) in
      let longer : at + length row + length rows ≡ at + length (row ++ rows) = simp length-append (omega arith) in
      let seam : drop (at + length row + length rows) ((a ++ row) ++ d) ≡ drop (length rows) d =
      subst (λ (k : ℕ). drop (k + length rows) ((a ++ row) ++ d) ≡ drop (length rows) d) p (drop-append-add (a ++ row) d (length rows)) in
      let u : drop (at + length row + length rows) (a ++ (row ++ d)) ≡ drop (at + length (row ++ rows)) out =
      rw (← append_assoc a row d) (seam ∙ drop-drop (length rows) (at + length row) out ∙ (rw longer refl)) in
      rw (t, u) (simp append_assoc)

pub row_kept : (out row : List ℕ) (at : ℕ) → at + length row ≤ length out → length (with_row at row out) ≡ length out
unfolding with_row
row_kept out row at l = simp (length-append, length-take, length-drop) (omega arith)

module _ {s : Shape} (d : Sound s) (m : ℕ) where
  pub along_export : {b c : ℕ} {bs : List ℕ} (n : ℕ) (out : List ℕ) → Along s b bs c → n + length bs ≤ m → s.width * (n + length bs) ≤ length out
      → export_from s (m - n) n b out ≡ export_from s (m - (n + length bs)) (n + length bs) c (with_row (s.width * n) (rows_of s bs) out)
  unfolding rows_of
  along_export n out (here e) l r =
      let z : n + 0 ≡ n = omega arith in
      rw (z, e, ← rows_none out (s.width * n)) refl
  along_export n out (past {b} {next} {c} {bs} q a) l r =
      let row = s.row b in
      let wide = d.wide b q.readable in
      let z : n + 1 + length bs ≡ n + suc (length bs) = omega arith in
      let fits : s.width * (n + 1 + length bs) ≤ length out = rw z r in
      let one : s.width * n + s.width ≤ length out = omega (arith, mul-le-mul_left s.width (let o : n + 1 ≤ n + 1 + length bs = omega arith in o)) in
      let k = row_kept out row (s.width * n) (omega arith) in
      let u = export_on s out m n b (d.some b q.readable) (omega arith) one refl (leads_lead q) refl in
      let t = along_export (n + 1) (with_row (s.width * n) row out) a (omega arith) (omega (arith, k)) in
      let p : s.width * (n + 1) ≡ s.width * n + length row = omega (arith, wide) in
      u ∙ t ∙ (rw (z, p, rows_more out (s.width * n) (omega arith) row (rows_of s bs)) refl)
