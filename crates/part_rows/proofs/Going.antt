-- What the loop of an export keeps, and what it makes of it.
--     Going                n rows of the export from start are written, up to the word at, and b is the next
--     going_starts         at the start
--     going_ends, going_circle, going_full, going_halts     the four ways in which the loop ends
--     going_on             a turn of it
--     Turned g f x         x is f, its error turned by g.     turned_ok, turned_err     what x says of f
-- Assumes nothing.
use Prim.Native.Nat.{ℕ, ◌+◌, ◌-◌, ◌*◌, ◌≤◌, ◌<◌}
use mathlib.Core.Path.{◌≡◌, refl, sym, ◌∙◌}
use mathlib.Core.Logic.{◌≢◌}
use mathlib.Core.List.{List, ◌++◌}
use native.Mathlib.Omega.{arith}
use lib.ListN.{length, take, drop}
use Rattle.std.specs.Prelude.{Result, Ok, Err, MatchResult, IsErrAnd}
use Rattle.part_rows.specs.declared.Reason.{Reason}
use Rattle.part_rows.specs.declared.Reason.TheVariants.{Circle, NoRoom}
use Rattle.part_rows.specs.Shape.{Shape}
use Rattle.part_rows.specs.Rows.{complete, stopped, lead, export_from, export_rows}
use Rattle.part_rows.proofs.Steps.{export_whole, export_end, export_circle, export_full, export_off, export_on}
use Rattle.part_rows.proofs.Walks.{row_kept}
use Rattle.part_rows.proofs.Copying.{row_back}

pub record Going (s : Shape) (start : ℕ) (before : List ℕ) (n b at : ℕ) (out : List ℕ) : Type 0 where
  pub place : at ≡ s.width * n
  pub within : at ≤ length out
  pub few : n ≤ s.most
  pub whole : export_rows s start before ≡ export_from s (s.most - n) n b out

pub going_starts : {s : Shape} {start : ℕ} {before : List ℕ} → Going s start before 0 start 0 before
going_starts {s} {start} {before} = record { place = omega arith; within = omega arith; few = omega arith; whole = export_whole s before start }

module _ {s : Shape} {start : ℕ} {before : List ℕ} {n b at : ℕ} {out : List ℕ} (g : Going s start before n b at out) where
  pub going_ends : b ≡ 0 → complete n out ≡ export_rows s start before
  going_ends z = export_end s out (s.most - n) n b z ∙ sym g.whole

  module _ {most : ℕ} (m : most ≡ s.most) (some : b ≢ 0) where
    pub going_circle : n ≡ most → stopped n Circle out ≡ export_rows s start before
    going_circle e = export_circle s out s.most n b (e ∙ m) some ∙ sym g.whole

    module _ (less : n ≢ most) {width : ℕ} (w : width ≡ s.width) where
      few : n < s.most
      few = let l = g.few in let z : n ≢ s.most = λ e. less (e ∙ sym m) in omega arith

      pub going_full : length out - at < width → stopped n NoRoom out ≡ export_rows s start before
      going_full l = let p = g.place in let i = g.within in export_full s out s.most n b some few (omega arith) ∙ sym g.whole

      module _ (l : width ≤ length out - at) {f : Result ℕ Reason} (h : f ≡ lead s b) where
        room : s.width * n + s.width ≤ length out
        room = let p = g.place in let i = g.within in omega arith

        pub going_halts : {r : Reason} → f ≡ Err r → stopped n r out ≡ export_rows s start before
        going_halts {r} e = export_off s out s.most n b some few room h {r = r} e ∙ sym g.whole

        -- the row stands in its place
        pub going_on : {next : ℕ} {row : List ℕ} → f ≡ Ok next → row ≡ s.row b → length row ≡ width
            → Going s start before (n + 1) next (at + width) (take at out ++ (row ++ drop (at + width - at) (drop at out)))
        going_on {next} {row} e q k =
            let p = g.place in
            let i = g.within in
            let f = few in
            let long : length (s.row b) ≡ width = rw q at k in
            let back = row_back out (s.row b) at (at + width) q (omega arith) in
            let same = row_kept out (s.row b) at (omega arith) in
            rw back
            (record {
              place = omega arith;
              within = omega arith;
              few = omega arith;
              whole = g.whole ∙ export_on s out s.most n b some few room h e (rw p refl);
            })

-- x is f, its error turned by g
abbrev pub Turned : {T E D : Type 0} → (E → D) → Result T E → Result T D → Type 0
Turned g f x = MatchResult f (λ y. x ≡ Ok y) (λ e. IsErrAnd x (λ d. d ≡ g e))

pub record Turns {T E D : Type 0} (g : E → D) (f : Result T E) (d : D) : Type 0 where
  pub error : E
  pub was : f ≡ Err error
  pub is : d ≡ g error

module _ {T E D : Type 0} (g : E → D) where
  pub turned_ok : (f : Result T E) (x : Result T D) → Turned g f x → {y : T} → x ≡ Ok y → f ≡ Ok y
  turned_ok (Ok a) x t q = cc
  turned_ok (Err a) (Ok b) t q = absurd t
  turned_ok (Err a) (Err b) t q = cc

  pub turned_err : (f : Result T E) (x : Result T D) → Turned g f x → {d : D} → x ≡ Err d → Turns g f d
  turned_err (Ok a) x t q = cc
  turned_err (Err a) (Ok b) t q = absurd t
  turned_err (Err a) (Err b) t q = record { error = a; was = refl; is = cc }
