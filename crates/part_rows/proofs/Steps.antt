-- Laws of the definition: one for each way of a link, and of a turn of an export's loop.
--     followed_to, followed_refused, followed_number     the three ways of followed.     to_followed    what a link that leads on says
--     export_whole         an export at its start
--     export_end, export_circle, export_full, export_off, export_on     the ways of export_from, where n of m rows are written
--     same_given, same_numbers     no second outcome is what an export gives: two things equal to a third are equal
-- Assumes nothing.
use Prim.Native.Nat.{ℕ, zero, suc, ◌+◌, ◌-◌, ◌*◌, ◌≤◌, ◌<◌}
use mathlib.Core.Path.{◌≡◌, refl, sym, ◌∙◌, ap}
use mathlib.Core.Logic.{◌≢◌}
use mathlib.Core.List.{List}
use Rattle.std.specs.Prelude.{Result, Ok, Err}
use native.Mathlib.Omega.{arith}
use lib.ListN.{length}
use borrow.Author.Tests.{eq-eqb, ne_eqb, lt-ltb, le-ltb}
use Rattle.machine.specs.declared.ReadAnswer.{ReadAnswer}
use Rattle.machine.proofs.Tests.{by_eq}
use Rattle.machine.proofs.Steps.{never}
use Rattle.part_rows.specs.declared.Reason.{Reason}
use Rattle.part_rows.specs.declared.Reason.TheVariants.{Circle, NoRoom, Refused, NoReference}
use Rattle.part_rows.specs.declared.Stopped.{Stopped}
use Rattle.part_rows.specs.declared.ExportAnswer.{ExportAnswer}
use Rattle.part_rows.specs.Shape.{Shape}
use Rattle.part_rows.specs.Numbers.{NumbersGiven}
use Rattle.part_rows.specs.Rows.{ExportGiven, complete, stopped, followed, lead, with_row, onward, export_from, export_rows}

module _ (a : ReadAnswer) where
  pub followed_to : {x : ℕ} → a.refusal ≡ 0 → a.reference ≡ 1 → a.value ≡ x → followed a ≡ Ok x
  unfolding followed
  followed_to z o v = simp (eq-eqb a.refusal 0 z, eq-eqb a.reference 1 o, v)

  pub followed_refused : {e : ℕ} → e ≢ 0 → a.refusal ≡ e → followed a ≡ Err (Refused e)
  unfolding followed
  followed_refused {e} z q = rw q (simp (ne_eqb e 0 z))

  pub followed_number : a.refusal ≡ 0 → a.reference ≢ 1 → followed a ≡ Err NoReference
  unfolding followed
  followed_number z o = simp (eq-eqb a.refusal 0 z, ne_eqb a.reference 1 o)

  pub to_followed : {x : ℕ} → followed a ≡ Ok x → (a.refusal ≡ 0) × (a.reference ≡ 1) × (a.value ≡ x)
  to_followed e =
      by_eq a.refusal 0
      (λ z. by_eq a.reference 1
      (λ o. let f = followed_to z o refl in (z, o, cc))
      (λ o. let f = followed_number z o in never (cc)))
      (λ z. let f = followed_refused z refl in never (cc))

module _ (s : Shape) where
  pub export_whole : (out : List ℕ) (b : ℕ) → export_rows s b out ≡ export_from s (s.most - 0) 0 b out
  unfolding export_rows
  export_whole out b = let e : s.most - 0 ≡ s.most = omega arith in rw e refl

  pub export_end : (out : List ℕ) (k n b : ℕ) → b ≡ 0 → complete n out ≡ export_from s k n b out
  unfolding export_from
  export_end out zero n b e = simp (eq-eqb b 0 e)
  export_end out (suc k) n b e = simp (eq-eqb b 0 e)

  module _ (out : List ℕ) (m n b : ℕ) where
    pub export_circle : n ≡ m → b ≢ 0 → stopped n Circle out ≡ export_from s (m - n) n b out
    unfolding export_from
    export_circle e z = let k : m - n ≡ 0 = omega arith in rw k (simp (ne_eqb b 0 z))

    module _ (some : b ≢ 0) (less : n < m) where
      fuel : m - n ≡ suc (m - (n + 1))
      fuel = omega arith

      pub export_full : length out < s.width * n + s.width → stopped n NoRoom out ≡ export_from s (m - n) n b out
      unfolding export_from
      export_full l = rw fuel (simp (ne_eqb b 0 some, lt-ltb (length out) (s.width * n + s.width) l))

      module _ (room : s.width * n + s.width ≤ length out) {f : Result ℕ Reason} (e : f ≡ lead s b) where
        pub export_off : {r : Reason} → f ≡ Err r → stopped n r out ≡ export_from s (m - n) n b out
        unfolding export_from onward
        export_off q = rw fuel (simp (ne_eqb b 0 some, le-ltb (length out) (s.width * n + s.width) room, ← e, q))

        pub export_on : {next : ℕ} {out' : List ℕ} → f ≡ Ok next → out' ≡ with_row (s.width * n) (s.row b) out
            → export_from s (m - n) n b out ≡ export_from s (m - (n + 1)) (n + 1) next out'
        unfolding export_from onward
        export_on q o = rw fuel (simp (ne_eqb b 0 some, le-ltb (length out) (s.width * n + s.width) room, ← e, q, o))

pub same_given : {g : ExportGiven} {x y : Result ℕ Stopped} {os ps : List ℕ}
    → (record { answer = x; out = os }) ≡ g → (record { answer = y; out = ps }) ≡ g → (x ≡ y) × (os ≡ ps)
same_given e f = let q = e ∙ sym f in (ap (λ (g : ExportGiven). g.answer) q, ap (λ (g : ExportGiven). g.out) q)

pub same_numbers : {g : NumbersGiven} {x y : ExportAnswer} {os ps : List ℕ}
    → (record { answer = x; out = os }) ≡ g → (record { answer = y; out = ps }) ≡ g → (x ≡ y) × (os ≡ ps)
same_numbers e f = let q = e ∙ sym f in (ap (λ (g : NumbersGiven). g.answer) q, ap (λ (g : NumbersGiven). g.out) q)
