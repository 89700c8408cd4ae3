-- A cycle marks only blocks that were reachable when it began.
--     Traced M start h     of the cycle that began at start, while it marks: only what was reachable or free at start isn't white (trail), and
--                          what is white or grey was allocated at start (early)
--     begin_traced, traced_on, run_traced     it is so at a beginning, after each move, after a run
--     dark_reached         a block that was allocated at start and isn't white was reachable at start
--     Marked M K start n h      the cycle has marked n blocks: at most K, for at most K were reachable at start
--     begin_marked, marked_on, run_marked     known at a beginning, after each move, after a run
--     marks_reachable      the statement MarksReachable
-- A block taken while the collector marks is black, so what is white or grey isn't new, and a grey block is none but one of those reachable
-- at start. The blocks that were allocated at start and pend no longer were marked, each once, and all of them were reachable at start.
-- Assumes nothing.
use Prim.Native.Nat.{ℕ, ◌+◌, ◌-◌, ◌≤◌}
use mathlib.Core.Path.{◌≡◌, ap, subst}
use mathlib.Core.Logic.{◌≢◌}
use native.Mathlib.Omega.{arith}
use Rattle.theory_reach.specs.Sums.{Block, total}
use Rattle.theory_reach.specs.Listed.{In}
use Rattle.theory_reach.proofs.Splits.{never}
use Rattle.theory_reach.proofs.Sums.{total_same, total_plus}
use Rattle.theory_reach.proofs.Listed.{pigeonhole}
use Rattle.theory_moves.specs.Tints.{White, Free}
use Rattle.theory_moves.specs.Heaps.{Abs, marking, Reached, Sound}
use Rattle.theory_moves.specs.Moves.{Begin, Mark, Move}
use Rattle.theory_moves.specs.Kinds.{marked, begun}
use Rattle.theory_moves.specs.Runs.{Run, rest, step, marks, begins, Proper, ProperRun}
use Rattle.theory_moves.specs.Demand3.{stands, allocated, Few}
use Rattle.theory_moves.specs.Sharper.{MarksReachable}
use Rattle.theory_moves.proofs.ByKind.{marks?, was_marking}
use Rattle.theory_moves.proofs.Soundness.{begin_sound, move_sound}
use Rattle.theory_moves.proofs.Garbage.{Trail, Inside, begin_trail, trail_on}
use Rattle.theory_moves.proofs.Bounds.{pends, pending, due, due_marking, move_pends, move_due, begin_pends, begin_due, cycle_units}
use Rattle.theory_moves.proofs.Taking.{stands_one, stands_some}

pub record Traced (M : ℕ) (start h : Abs) : Type 0 where
  pub trail : h.phase ≡ marking → Trail M (Inside start) h
  pub early : h.phase ≡ marking → (c : ℕ) → Block M c → pends (h.tint c) ≤ stands (start.tint c)

module _ {M : ℕ} where
  pub begin_traced : {h k : Abs} → Sound M h → Begin M h k → Traced M h k
  begin_traced s m = record { trail = λ q. begin_trail s m; early = λ q c l. omega (arith, begin_pends s m c l) }

  pub traced_on : {start h k : Abs} → Sound M h → Traced M start h → (m : Move M h k) → begun m ≡ 0 → Proper m → Traced M start k
  traced_on s t m e p =
      record {
        trail = λ q. let z = was_marking m e q in trail_on s m p z q (t.trail z);
        early = λ q c l. let z = was_marking m e q in omega (arith, move_pends m z q c l, t.early z c l);
      }

  pub run_traced : {start h k : Abs} → Sound M h → Traced M start h → (r : Run M h k) → begins r ≡ 0 → ProperRun r → Traced M start k
  run_traced s t rest e p = t
  run_traced s t (step m r) e p = run_traced (move_sound s m) (traced_on s t m (omega arith) p.0) r (omega arith) p.1

module _ {M : ℕ} {start h : Abs} (t : Traced M start h) (q : h.phase ≡ marking) where
  pub dark_reached : (c : ℕ) → Block M c → start.tint c ≢ Free → h.tint c ≢ White → Reached start c
  dark_reached c l a n = (t.trail q).dark_in c l n a

  -- the blocks allocated at start that pend no longer
  done : ℕ → ℕ
  done c = stands (start.tint c) - pends (h.tint c)

  done_pending : total M done + pending M h ≡ allocated M start
  unfolding done
  done_pending =
      omega (
        arith,
        total_plus M done (λ c. pends (h.tint c)),
        total_same M (λ c. done c + pends (h.tint c)) (λ c. stands (start.tint c)) (λ c l. omega (arith, t.early q c l)),
      )

  done_few : {K : ℕ} → Few K start → total M done ≤ K
  unfolding done
  done_few f = omega (arith, pigeonhole M done f.list (λ c l. omega (arith, stands_one (start.tint c))) listed, f.short)
    where
      listed : (c : ℕ) → Block M c → done c ≢ 0 → In c f.list
      listed c l n =
          let a = stands_some (start.tint c) (λ z. n (omega arith)) in
          f.has c (dark_reached c l a (λ z. n (omega (arith, stands_one (start.tint c), ap pends z))))

pub record Marked (M K : ℕ) (start : Abs) (n : ℕ) (h : Abs) : Type 0 where
  pub reach : Few K start
  pub traced : Traced M start h
  pub counted : n + due M h ≤ allocated M start
  pub few : n ≤ K

module _ {M K : ℕ} where
  pub begin_marked : {h k : Abs} → Sound M h → Begin M h k → Few K h → Marked M K h 0 k
  begin_marked s m f =
      record { reach = f; traced = begin_traced s m; counted = omega (arith, begin_due s m); few = omega arith }

  pub marked_on : {start h k : Abs} {n : ℕ} → Sound M h → Marked M K start n h → (m : Move M h k) → begun m ≡ 0 → Proper m
      → Marked M K start (n + marked m) k
  marked_on {start} {k = k} {n} s b m e p =
      let t = traced_on s b.traced m e p in
      let c : n + marked m + due M k ≤ allocated M start = omega (arith, move_due m e, b.counted) in
      record {
        reach = b.reach;
        traced = t;
        counted = c;
        few = marks? m
            (λ x y. omega (arith, c, due_marking M k y.after, done_pending t y.after, done_few t y.after b.reach))
            (λ z. omega (arith, b.few));
      }

  pub run_marked : {start h k : Abs} (n : ℕ) → Sound M h → Marked M K start n h → (r : Run M h k) → begins r ≡ 0 → ProperRun r
      → Marked M K start (n + marks r) k
  run_marked {start} {k = k} n s b rest e p = subst (λ (x : ℕ). Marked M K start x k) (omega arith) b
  run_marked {start} {k = k} n s b (step m r) e p =
      subst (λ (x : ℕ). Marked M K start x k) (omega arith)
      (run_marked (n + marked m) (move_sound s m) (marked_on s b m (omega arith) p.0) r (omega arith) p.1)

module _ {M : ℕ} {h i : Abs} (s : Sound M h) (m : Begin M h i) where
  only_reached : {j k : Abs} (r : Run M i j) → begins r ≡ 0 → ProperRun r → (b : ℕ) → Mark M b j k → Reached h b
  only_reached r e p b y =
      let t = run_traced (begin_sound s m) (begin_traced s m) r e p in
      dark_reached t y.before b y.block
      (stands_some (h.tint b) (λ z. omega (arith, t.early y.before b y.block, ap pends y.grey)))
      (λ z. never (cc y.grey))

  few_marks : {K : ℕ} {k : Abs} → Few K h → (r : Run M i k) → begins r ≡ 0 → ProperRun r → marks r ≤ K
  few_marks f r e p = omega (arith, (run_marked 0 (begin_sound s m) (begin_marked s m f) r e p).few)

pub marks_reachable : MarksReachable
marks_reachable =
    record {
      only = λ s m r e p b y. only_reached s m r e p b y;
      few = λ s m f r e p. few_marks s m f r e p;
      most = λ s m f r e p. omega (arith, cycle_units s m r e, few_marks s m f r e p);
    }
