-- Laws of the definition: what numbers in range are, and one law for each way of a row's link.
--     InRange, fits_range  what numbers in range are.
--     find_entry, find_place, find_off, find_ends     the ways in which a row is refused, or not
--     link_refused, link_passed     the two ways of link_of
--     follow_refused, follow_read     the two ways of a row's link
--     follow_zero          a row that leads on is refused nothing
--     object_rows_lem          the rows are Sound
--     objects_fit, objects_off     the two ways of export_objects
-- Assumes nothing.
use Prim.Native.Nat.{ℕ, zero, suc, ◌+◌, ◌-◌, ◌/◌, ◌%◌, ◌≤◌, ◌<◌}
use mathlib.Core.Path.{◌≡◌, refl, sym, ◌∙◌, ap}
use mathlib.Core.Logic.{◌≢◌}
use mathlib.Core.Bool.{true, false, ◌&&◌}
use mathlib.Core.List.{List}
use native.Mathlib.Omega.{arith}
use lib.Dec.{leb, ltb}
use lib.ListN.{length}
use borrow.Author.Tests.{eq-eqb, ne_eqb, leb-true, ltb-true}
use Rattle.std.specs.Prelude.{Err, IsOk, is_ok}
use Rattle.machine.specs.Tests.{◌▷◌}
use Rattle.machine.specs.Heap.{Heap}
use Rattle.machine.specs.Entry.{entry}
use Rattle.machine.specs.Read.{read_answer, read_refused}
use Rattle.machine.specs.Field.{field_place, field_block, walk_refusal, field_refusal, read_field}
use Rattle.machine.specs.WellFormed.{Block}
use Rattle.machine.proofs.Tests.{both_true, by_eq}
use Rattle.machine.proofs.Steps.{never}
use Rattle.machine.proofs.Entering.{first_zero}
use Rattle.machine.proofs.Refusals.{Readable, stops, passes}
use Rattle.machine.proofs.Fields.{field_readable, field_zero}
use Rattle.part_rows.specs.declared.Reason.TheVariants.{Refused}
use Rattle.part_rows.specs.Shape.{Sound}
use Rattle.part_rows.specs.Rows.{followed, lead, stopped, export_rows}
use Rattle.part_rows.proofs.Steps.{followed_refused}
use Rattle.call_export_objects.specs.Objects.{fields_from, row_refusal, link_of, object_rows, row_fits, export_objects}
use Rattle.call_export_objects.proofs.Walks.{way_splits, row_refusal_lem, row_field}

pub record InRange (n link : ℕ) : Type 0 where
  pub some : 1 ≤ n
  pub most : n ≤ 1792
  pub among : link < n

module _ (n link : ℕ) where
  pub fits_range : row_fits n link ≡ true → InRange n link
  unfolding row_fits
  fits_range e =
      let a = both_true (leb 1 n) (leb n 1792 && ltb link n) e in
      let p = both_true (leb n 1792) (ltb link n) a.1 in
      record { some = leb-true 1 n a.0; most = leb-true n 1792 p.0; among = ltb-true link n p.1 }

-- the ways in which a row of n fields is refused, as its tests come
module _ (h : Heap) (b n : ℕ) where
  pub find_entry : {x : ℕ} → x ≡ entry h → x ≢ 0 → x ≡ field_refusal b (n - 1) h
  unfolding field_refusal
  find_entry e z = stops _ e z

  module _ {x : ℕ} (e : x ≡ entry h) (z : x ≡ 0) where
    pub find_place : {p : ℕ} → p ≡ field_place h.regs.blocks b (n - 1) → p ≢ 0 → p ≡ field_refusal b (n - 1) h
    unfolding field_refusal
    find_place f y = passes e z (stops _ f y)

    module _ {p : ℕ} (f : p ≡ field_place h.regs.blocks b (n - 1)) (y : p ≡ 0) (i j : ℕ) (s : i + j ≡ (n - 1) / 7) where
      split : walk_refusal ((n - 1) / 7) b h ≡ walk_refusal i b h ▷ walk_refusal j (field_block i b h) h
      split = rw s at (way_splits h i j b)

      pub find_off : {w : ℕ} → w ≡ walk_refusal i b h → w ≢ 0 → w ≡ field_refusal b (n - 1) h
      unfolding field_refusal
      find_off g q = passes e z (passes f y (rw split (stops _ g q)))

      pub find_ends : {w v at : ℕ} → w ≡ walk_refusal i b h → w ≡ 0 → at ≡ field_block i b h → v ≡ walk_refusal j at h → v ≡ field_refusal b (n - 1) h
      unfolding field_refusal
      find_ends g q k r = passes e z (passes f y (rw split (passes g q (rw k at r))))

module _ (h : Heap) (b n link : ℕ) (d : row_fits n link ≡ true) where
  row_as : row_refusal n b h ≡ field_refusal b (n - 1) h
  row_as = let r = fits_range n link d in row_refusal_lem h b n r.some r.most

  pub link_refused : field_refusal b (n - 1) h ≢ 0 → link_of n link b h ≡ read_refused (field_refusal b (n - 1) h)
  unfolding link_of
  link_refused z = rw row_as (simp (ne_eqb (field_refusal b (n - 1) h) 0 z))

  pub link_passed : field_refusal b (n - 1) h ≡ 0 → link_of n link b h ≡ read_answer (field_block (link / 7) b h) (link % 7) h
  unfolding link_of read_field
  link_passed z =
      let r = fits_range n link d in
      let y = row_field h b n link r.among r.most z in
      rw row_as (simp (eq-eqb (field_refusal b (n - 1) h) 0 z, eq-eqb (field_refusal b link h) 0 y))

  pub follow_refused : {x : ℕ} → x ≡ field_refusal b (n - 1) h → x ≢ 0 → Err (Refused x) ≡ lead (object_rows n link h) b
  follow_refused e z =
      let q = link_refused (λ y. z (e ∙ y)) in
      sym (followed_refused (link_of n link b h) z (rw q (sym e)))

  module _ (z : field_refusal b (n - 1) h ≡ 0) (at : ℕ) (f : at ≡ field_block (link / 7) b h) where
    pub link_readable : Readable h at (link % 7)
    link_readable = let r = fits_range n link d in field_readable h b link at f (row_field h b n link r.among r.most z)

    pub follow_read : followed (read_answer at (link % 7) h) ≡ lead (object_rows n link h) b
    follow_read = rw (link_passed z, ← f) refl

  pub link_zero : (link_of n link b h).refusal ≡ 0 → field_refusal b (n - 1) h ≡ 0
  link_zero e = by_eq (field_refusal b (n - 1) h) 0 (λ z. z) (λ z. rw (link_refused z) at e)

  pub follow_zero : IsOk (lead (object_rows n link h) b) → field_refusal b (n - 1) h ≡ 0
  follow_zero f = by_eq (field_refusal b (n - 1) h) 0 (λ z. z) (λ z. let g = ap is_ok (follow_refused refl z) in absurd (never (cc)))

  pub row_block : field_refusal b (n - 1) h ≡ 0 → Block h.regs.blocks b
  unfolding field_refusal
  row_block e =
      let a = first_zero (entry h) (field_place h.regs.blocks b (n - 1) ▷ walk_refusal ((n - 1) / 7) b h) e in
      field_zero _ _ (n - 1) (first_zero (field_place h.regs.blocks b (n - 1)) (walk_refusal ((n - 1) / 7) b h) a.1).0

pub fields_length : (n k b : ℕ) (h : Heap) → length (fields_from n k b h) ≡ n
unfolding fields_from
fields_length zero k b h = refl
fields_length (suc n) k b h = ap suc (fields_length n (k + 1) b h)

pub object_rows_lem : (h : Heap) (n link : ℕ) → row_fits n link ≡ true → Sound (object_rows n link h)
object_rows_lem h n link d =
    record {
      wide = λ b e. fields_length n 0 b h;
      some = λ b e z. let l = (row_block h b n link d (link_zero h b n link d e)).low in absurd (omega arith);
    }

module _ (h : Heap) (b n link : ℕ) (out : List ℕ) where
  pub objects_fit : row_fits n link ≡ true → export_objects b n link h out ≡ export_rows (object_rows n link h) b out
  unfolding export_objects
  objects_fit e = simp e

  pub objects_off : row_fits n link ≡ false → export_objects b n link h out ≡ stopped 0 (Refused 3) out
  unfolding export_objects
  objects_off e = simp e
