-- An export's answer means what `ExportMeans` says.
--     Ending, Way          how an export goes: along blocks whose rows fit, to 0 or to a block at which it halts
--     way                  every export goes some way
--     ended_complete, ended_stopped     what an export gives that goes such a way
--     given_complete, given_stopped     the same, of a list as `Completes` and `Stops` have it
--     rows_mean            the meaning: there is a way, and the way settles what is given
-- Assumes nothing.
use Prim.Native.Nat.{ℕ, zero, suc, ◌+◌, ◌-◌, ◌*◌, ◌≤◌, ◌<◌}
use mathlib.Core.Path.{◌≡◌, refl, sym, ◌∙◌, ap, subst}
use mathlib.Core.Logic.{◌≢◌}
use mathlib.Core.List.{List, [], ◌∷◌, ◌++◌}
use native.Mathlib.Omega.{arith}
use lib.Dec.{ltb}
use lib.ListN.{length, drop, length-append, length-drop}
use Rattle.machine.proofs.Tests.{by_test, by_eq}
use Rattle.machine.proofs.Steps.{never}
use borrow.Author.Tests.{ltb-true, ltb-false}
use Rattle.part_rows.specs.declared.Reason.{Reason}
use Rattle.part_rows.specs.declared.Reason.TheVariants.{Refused, NoReference}
use Rattle.part_rows.specs.declared.Stopped.{Stopped}
use Rattle.std.specs.Prelude.{Result, Ok, Err}
use Rattle.part_rows.specs.Shape.{Shape, Sound}
use Rattle.part_rows.specs.Rows.{ExportGiven, complete, off, stopped, lead, with_row, export_from, export_rows}
use Rattle.part_rows.specs.Lists.{Leads, Along, here, past, rows_of}
use Rattle.part_rows.specs.Meaning.{Completes, Halts, circle, full, refused, number, Stops, ExportMeans}
use Rattle.part_rows.proofs.Steps.{followed_to, followed_refused, followed_number, export_whole, export_end, export_circle, export_full, export_off}
use Rattle.part_rows.proofs.Walks.{lead_leads, rows_length, along_export}

data Ending (s : Shape) (at n room : ℕ) : Type 0 where
  done : at ≡ 0 → Ending s at n room
  halts : {r : Reason} → at ≢ 0 → Halts s at n room r → Ending s at n room

record Way (s : Shape) (b n room : ℕ) : Type 0 where
  blocks : List ℕ
  at : ℕ
  along : Along s b blocks at
  few : n + length blocks ≤ s.most
  fits : s.width * (n + length blocks) ≤ room
  ending : Ending s at (n + length blocks) room

module _ (s : Shape) where
  -- what reading a row says where its link leads nowhere
  stuck : (b n room : ℕ) {r : Reason} → n < s.most → s.width * n + s.width ≤ room → lead s b ≡ Err r → Halts s b n room r
  stuck b n room {r} l g e =
      by_eq (s.link b).refusal 0
      (λ z. by_eq (s.link b).reference 1
      (λ o. let q = followed_to (s.link b) z o refl in never (cc))
      (λ o. let q = followed_number (s.link b) z o in let t : NoReference ≡ r = cc in subst (Halts s b n room) t (number l g z o)))
      (λ z. let q = followed_refused (s.link b) z refl in let t : Refused (s.link b).refusal ≡ r = cc in subst (Halts s b n room) t (refused l g z refl))

  module _ (room : ℕ) where
    short : (b n : ℕ) → n ≤ s.most → s.width * n ≤ room → Ending s b n room → Way s b n room
    short b n l g e =
        let z : n + 0 ≡ n = omega arith in
        record { blocks = []; at = b; along = here refl; few = omega arith; fits = rw z g; ending = rw z e }

    longer : {b next n : ℕ} → Leads s b next → Way s next (n + 1) room → Way s b n room
    longer {b} {next} {n} l v =
        let z : n + 1 + length v.blocks ≡ n + suc (length v.blocks) = omega arith in
        record {
          blocks = b ∷ v.blocks;
          at = v.at;
          along = past l v.along;
          few = omega (arith, v.few);
          fits = rw z at v.fits;
          ending = rw z at v.ending;
        }

    way : (k n b : ℕ) → k + n ≡ s.most → s.width * n ≤ room → Way s b n room
    way zero n b e g = by_eq b 0 (λ z. short b n (omega arith) g (done z)) (λ z. short b n (omega arith) g (halts z (circle (omega arith))))
    way (suc k) n b e g =
        by_eq b 0 (λ z. short b n (omega arith) g (done z))
        (λ z. by_test (ltb room (s.width * n + s.width))
        (λ t. short b n (omega arith) g (halts z (full (omega arith) (ltb-true room (s.width * n + s.width) t))))
        (λ t. let l = ltb-false room (s.width * n + s.width) t in go z l (λ next. way k (n + 1) next (omega arith) (omega arith)) (lead s b) refl))
      where
        go : b ≢ 0 → s.width * n + s.width ≤ room → ((next : ℕ) → Way s next (n + 1) room) → (f : Result ℕ Reason) → lead s b ≡ f → Way s b n room
        go z l on (Ok next) q = longer (lead_leads q) (on next)
        go z l on (Err r) q = short b n (omega arith) g (halts z (stuck b n room (omega arith) l q))

  halts_stop : (at n : ℕ) (out : List ℕ) {r : Reason} → at ≢ 0 → Halts s at n (length out) r → stopped n r out ≡ export_from s (s.most - n) n at out
  halts_stop at n out z (circle e) = export_circle s out _ n at e z
  halts_stop at n out z (full l g) = export_full s out _ n at z l g
  halts_stop at n out z (refused l g e q) = export_off s out _ n at z l g refl (followed_refused (s.link at) e q)
  halts_stop at n out z (number l g e q) = export_off s out _ n at z l g refl (followed_number (s.link at) e q)

module _ {s : Shape} (d : Sound s) (b : ℕ) (out : List ℕ) {bs : List ℕ} {at : ℕ} (a : Along s b bs at) (few : length bs ≤ s.most) (fits : s.width * length bs ≤ length out) where
  gone : List ℕ
  gone = with_row (s.width * 0) (rows_of s bs) out

  gone_is : gone ≡ rows_of s bs ++ drop (s.width * length bs) out
  unfolding gone with_row
  gone_is =
      let z : s.width * 0 ≡ 0 = omega arith in
      let e : 0 + length (rows_of s bs) ≡ s.width * length bs = omega (arith, rows_length d a) in
      rw (z, e) refl

  gone_length : length gone ≡ length out
  gone_length = rw gone_is (simp (length-append, length-drop) (omega (arith, rows_length d a)))

  reached : export_rows s b out ≡ export_from s (s.most - length bs) (length bs) at gone
  unfolding gone
  reached =
      let z : 0 + length bs ≡ length bs = omega arith in
      export_whole s out b ∙ (rw z at (along_export d s.most 0 out a (omega arith) (rw z fits)))

  pub ended_complete : at ≡ 0 → export_rows s b out ≡ complete (length bs) (rows_of s bs ++ drop (s.width * length bs) out)
  ended_complete z = reached ∙ sym (export_end s gone _ (length bs) at z) ∙ ap (complete (length bs)) gone_is

  ended_stopped : {r : Reason} → at ≢ 0 → Halts s at (length bs) (length out) r → export_rows s b out ≡ stopped (length bs) r (rows_of s bs ++ drop (s.width * length bs) out)
  ended_stopped {r} z q = reached ∙ sym (halts_stop s at (length bs) gone z (rw gone_length q)) ∙ ap (stopped (length bs) r) gone_is

off_same : {n m : ℕ} {r t : Reason} → off n r ≡ off m t → (n ≡ m) × (r ≡ t)
off_same e = let q = same e in (ap (λ (s : Stopped). s.rows) q, ap (λ (s : Stopped). s.reason) q)
  where
    same : {s t : Stopped} → ◌≡◌ {A = Result ℕ Stopped} (Err s) (Err t) → s ≡ t
    same e = cc

module _ {s : Shape} (d : Sound s) (b : ℕ) (out : List ℕ) where
  the_way : Way s b 0 (length out)
  the_way = way s (length out) s.most 0 b (omega arith) (omega arith)

  completes : (n : ℕ) → (export_rows s b out).answer ≡ Ok n → Completes s b n out
  completes n e = go v.ending
    where
      v : Way s b 0 (length out)
      v = the_way

      o : 0 + length v.blocks ≡ length v.blocks
      o = omega arith

      go : Ending s v.at (0 + length v.blocks) (length out) → Completes s b n out
      go (done z) =
          let p = ap (λ (g : ExportGiven). g.answer) (ended_complete d b out v.along (rw o at v.few) (rw o at v.fits) z) in
          let m : length v.blocks ≡ n = cc in
          record { blocks = v.blocks; listed = rw z at v.along; many = m; few = rw (o, m) at v.few; room = rw (o, m) at v.fits }
      go (halts z q) =
          let p = ap (λ (g : ExportGiven). g.answer) (ended_stopped d b out v.along (rw o at v.few) (rw o at v.fits) z (rw o at q)) in
          never (cc)

  stops : (n : ℕ) (r : Reason) → (export_rows s b out).answer ≡ off n r → Stops s b n r out
  stops n r e = go v.ending
    where
      v : Way s b 0 (length out)
      v = the_way

      o : 0 + length v.blocks ≡ length v.blocks
      o = omega arith

      go : Ending s v.at (0 + length v.blocks) (length out) → Stops s b n r out
      go (done z) =
          let p = ap (λ (g : ExportGiven). g.answer) (ended_complete d b out v.along (rw o at v.few) (rw o at v.fits) z) in
          never (cc)
      go (halts {r = t} z q) =
          let q' = rw o at q in
          let p = ap (λ (g : ExportGiven). g.answer) (ended_stopped d b out v.along (rw o at v.few) (rw o at v.fits) z q') in
          let (m, u) = off_same (sym p ∙ e) in
          record { blocks = v.blocks; at = v.at; along = v.along; more = z; many = m; few = rw (o, m) at v.few; room = rw (o, m) at v.fits; why = rw (m, u) at q' }

  pub given_complete : {n : ℕ} (c : Completes s b n out) → export_rows s b out ≡ complete n (rows_of s c.blocks ++ drop (s.width * n) out)
  given_complete c = rw c.many at (ended_complete d b out c.listed (rw c.many c.few) (rw c.many c.room) refl)

  given_stopped : {n : ℕ} {r : Reason} (c : Stops s b n r out) → export_rows s b out ≡ stopped n r (rows_of s c.blocks ++ drop (s.width * n) out)
  given_stopped c =
      rw c.many at (ended_stopped d b out c.along (rw c.many c.few) (rw c.many c.room) c.more (rw (← c.many) at c.why))

  pub rows_mean : ExportMeans s b out
  unfolding rows_of
  rows_mean =
      let z : s.width * 0 ≡ 0 = omega arith in
      record {
        completes = λ n. (completes n, λ c. ap (λ (g : ExportGiven). g.answer) (given_complete c));
        stops = λ n r. (stops n r, λ c. ap (λ (g : ExportGiven). g.answer) (given_stopped c));
        rows = λ c. ap (λ (g : ExportGiven). g.out) (given_complete c);
        written = λ c. ap (λ (g : ExportGiven). g.out) (given_stopped c);
        empty = rw z at (ended_complete d 0 out (here refl) (omega arith) (omega arith) refl);
      }
