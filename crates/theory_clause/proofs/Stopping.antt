-- What stopping means: Read refuses no block of a list that hangs from the root, and a circle is one.
--     never_refused            Read refuses no block of a list whose rows are a block each
--     circles, true_circle     a stop after M rows means that the list has no end: for every kind of rows that is Steady, and for those
--     halts_refused            what a refusal says of the row at which an export stops
-- A list that ends meets no block twice, so it has at most M rows: an export that stops after M rows, with a buffer that has room for
-- them, would have been complete.
-- Assumes nothing.
use Prim.Native.Nat.{ℕ, zero, suc, ◌+◌, ◌≤◌}
use mathlib.Core.Path.{◌≡◌, refl, sym, ◌∙◌}
use mathlib.Core.Bool.{true}
use mathlib.Core.Logic.{◌≢◌, ⊎_elim}
use mathlib.Core.List.Memᴰ
use mathlib.Core.List.{List, Memᴰ}
use native.Mathlib.Omega.{arith}
use native.Mathlib.Nat.{mul-le-mul_left}
use lib.ListN.{length}
use borrow.Author.Tests.{eq-eqb}
use Rattle.machine.specs.Heap.{Heap}
use Rattle.machine.specs.Audit.{count_from}
use Rattle.machine.specs.Read.{read_refusal, read_answer, read}
use Rattle.machine.specs.WellFormed.{Block, ends, goes}
use Rattle.machine.specs.WellFormed as well_formed
use Rattle.machine.proofs.Steps.{never}
use Rattle.machine.proofs.Listing.{listed_distinct}
use Rattle.machine.proofs.Counting.{among, count_among, count_le}
use Rattle.theory_promises.proofs.Losing.{reachable_live}
use Rattle.part_rows.specs.declared.Reason.TheVariants.{Circle, Refused}
use Rattle.part_rows.specs.Shape.{Shape}
use Rattle.part_rows.specs.Lists.{Along, here, past, Listed}
use Rattle.part_rows.specs.Meaning.{Halts, circle, refused, Completes}
use Rattle.part_rows.proofs.Meaning.{rows_mean}
use Rattle.call_export.proofs.Meaning.{export_means}
use Rattle.theory_clause.specs.Lasting.{Kind, one_block}
use Rattle.theory_clause.specs.Stopping.{NeverRefused, TrueCircle}
use Rattle.theory_clause.proofs.Steadiness.{Steady, along_hangs}
use Rattle.theory_clause.proofs.Following.{live_reads, one_steady}

pub halts_refused : {s : Shape} {b n room e : ℕ} → Halts s b n room (Refused e) → (e ≢ 0) × ((s.link b).refusal ≡ e)
halts_refused (refused l g z q) = (z, q)

-- the refusal that Read answers
read_zero : (h : Heap) (b w : ℕ) → read_refusal b w h ≡ 0 → (read b w h).answer.refusal ≡ 0
unfolding read read_answer
read_zero h b w e = simp (eq-eqb (read_refusal b w h) 0 e)

pub never_refused : NeverRefused
never_refused h f s w l g out n e q =
    let t = ((export_means h w s out).stops n (Refused e)).0 q in
    let v = live_reads h f t.at w l (reachable_live h f t.at (along_hangs (one_steady w) t.along g t.more)) in
    let r = halts_refused t.why in
    r.0 (sym r.1 ∙ read_zero h t.at w v)

count_all : (n b : ℕ) → count_from (λ x. true) n b ≡ n
unfolding count_from
count_all zero b = refl
count_all (suc n) b = omega (arith, count_all n (b + 1))

halts_circle : {s : Shape} {b n room : ℕ} → Halts s b n room Circle → n ≡ s.most
halts_circle (circle e) = e

module _ {kind : Kind} (d : Steady kind) where
  -- the list as one that goes by a function
  by_value : {h : Heap} {b : ℕ} {bs : List ℕ} → Listed (kind.shape h) b bs → well_formed.Listed (λ x. ((kind.shape h).link x).value) 0 b bs
  by_value (here e) = ends e
  by_value {h} (past {b} {bs = bs} l a) = goes {l = bs} ((d.sound h).some b l.readable) (rw l.value (by_value a))

  member_block : {h : Heap} {b c : ℕ} {bs : List ℕ} → Along (kind.shape h) b bs c → (x : ℕ) → Memᴰ x bs → Block h.regs.blocks x
  member_block (here e) x i = absurd (Memᴰ.not-nil i)
  member_block {h} (past l a) x i = ⊎_elim (λ e. rw e (d.block h l)) (λ j. member_block a x j) (Memᴰ.cases_cons i)

  short : (h : Heap) (s : ℕ) (bs : List ℕ) → Listed (kind.shape h) s bs → length bs ≤ h.regs.blocks
  short h s bs a =
      let m = h.regs.blocks in
      let c = count_among m 2 (listed_distinct (by_value a)) (λ x i. let l = member_block a x i in (l.low, omega arith)) in
      omega (arith, c, count_le (λ x. true) (among bs) (λ x t. refl) m 2, count_all m 2)

  pub circles : TrueCircle kind
  circles =
      record {
        short = short;
        endless = λ h s n out q bs a.
            let x = rows_mean (d.sound h) s out in
            let t = (x.stops n Circle).0 q in
            let e = halts_circle t.why in
            let l : length bs ≤ n = omega (arith, short h s bs a, e, d.most h) in
            let c : Completes (kind.shape h) s (length bs) out =
            record { blocks = bs; listed = a; many = refl; few = rw (← e) l; room = omega (arith, t.room, mul-le-mul_left (kind.shape h).width l) } in
            let p = (x.completes (length bs)).1 c in
            never (cc);
      }

pub true_circle : (w : ℕ) → TrueCircle (one_block w)
true_circle w = circles (one_steady w)
