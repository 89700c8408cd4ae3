-- The turn and the sweep moves: how many of them a cycle has still to do.
--     ahead h              their number (ahead_idle, ahead_marking, ahead_sweeping: by phase)
--     move_ahead, run_ahead     in a cycle every unit but a mark lowers it by 1, and nothing else changes it
--     move_ahead_most, run_ahead_most     from any heap, a bound
-- All are stated with the span before and after: a take that raises the mark adds as much to one as to the other. A take on an idle heap raises
-- the span alone, for it comes after the cycle's end: only the bound holds of it.
-- Assumes nothing.
use Prim.Native.Nat.{ℕ, zero, suc, ◌+◌, ◌-◌, ◌≤◌}
use mathlib.Core.Path.{◌≡◌, refl, ◌∙◌}
use mathlib.Core.Logic.{◌≢◌}
use native.Mathlib.Omega.{arith}
use Rattle.theory_reach.proofs.Splits.{by_eq}
use Rattle.theory_moves.specs.Heaps.{Abs, idle, marking, sweeping, Sound, span}
use Rattle.theory_moves.specs.Moves.{Turning, entering, skipping, Turn, Onward, going, ending, Sweep, Steady}
use Rattle.theory_moves.specs.Moves.{Fresh, new_marking, new_ahead, new_behind, new_idle, Taken}
use Rattle.theory_moves.specs.Moves.{Move, begin, mark, turn, sweep, write_number, write_ref, set_root, take_held, take_root}
use Rattle.theory_moves.specs.Kinds.{cost, marked, begun}
use Rattle.theory_moves.specs.Runs.{Run, rest, step, units, marks, begins}
use Rattle.theory_moves.proofs.ByKind.{stays_idle, idle_cost, mark_rises}
use Rattle.theory_moves.proofs.Soundness.{move_sound}

ahead_in : ℕ → ℕ → ℕ → ℕ
ahead_in zero e p = 0
ahead_in (suc zero) e p = 1 + e
ahead_in (suc (suc q)) e p = e + 2 - p

unfoldable pub ahead : Abs → ℕ
unfolding ahead_in
ahead h = ahead_in h.phase (span h) h.position

module _ (h : Abs) where
  pub ahead_idle : h.phase ≡ idle → ahead h ≡ 0
  unfolding ahead ahead_in
  ahead_idle e = rw e refl

  pub ahead_marking : h.phase ≡ marking → ahead h ≡ 1 + span h
  unfolding ahead ahead_in
  ahead_marking e = rw e refl

  pub ahead_sweeping : h.phase ≡ sweeping → ahead h ≡ span h + 2 - h.position
  unfolding ahead ahead_in
  ahead_sweeping e = rw e refl

steady_ahead : {h k : Abs} → Steady h k → k.mark ≡ h.mark → ahead k + span h ≡ ahead h + span k
unfolding ahead
steady_ahead s e = rw (s.phase, s.position, e) refl

module _ {M : ℕ} {h k : Abs} where
  turn_ahead : Turn M h k → 1 + ahead k + span h ≡ ahead h + span k
  turn_ahead m = go m.turning
    where
      go : Turning h k → 1 + ahead k + span h ≡ ahead h + span k
      go (entering n p e) = omega (arith, ahead_marking h m.before, ahead_sweeping k p, m.mark)
      go (skipping e p) = omega (arith, ahead_marking h m.before, ahead_idle k p, m.mark)

  sweep_ahead : Sweep M h k → 1 + ahead k + span h ≡ ahead h + span k
  sweep_ahead m = go m.onward
    where
      go : Onward h k h.mark → 1 + ahead k + span h ≡ ahead h + span k
      go (going n p e) = omega (arith, ahead_sweeping h m.before, ahead_sweeping k p, m.mark, m.short)
      go (ending e p) = omega (arith, ahead_sweeping h m.before, ahead_idle k p, m.mark, m.block.low)

  taken_ahead : {x : ℕ} → Sound M h → h.phase ≢ idle → Steady h k → Taken M x h k → ahead k + span h ≡ ahead h + span k
  taken_ahead {x} s n q t = go t.fresh
    where
      while_sweeping : h.phase ≡ sweeping → ahead k + span h ≡ ahead h + span k
      while_sweeping p =
          omega (arith, ahead_sweeping h p, ahead_sweeping k (q.phase ∙ p), q.position, s.swept_mark p, s.mark_low, t.mark)

      go : Fresh h x (k.tint x) → ahead k + span h ≡ ahead h + span k
      go (new_marking p e) = omega (arith, ahead_marking h p, ahead_marking k (q.phase ∙ p))
      go (new_ahead p l e) = while_sweeping p
      go (new_behind p l e) = while_sweeping p
      go (new_idle p e) = absurd (n p)

  pub move_ahead : Sound M h → h.phase ≢ idle → (m : Move M h k) → cost m + ahead k + span h ≡ marked m + ahead h + span k
  move_ahead s n (begin m) = absurd (n m.before)
  move_ahead s n (mark b m) = omega (arith, ahead_marking h m.before, ahead_marking k m.after, m.mark)
  move_ahead s n (turn m) = omega (arith, turn_ahead m)
  move_ahead s n (sweep m) = omega (arith, sweep_ahead m)
  move_ahead s n (write_number b w v m) = omega (arith, steady_ahead m.steady m.mark)
  move_ahead s n (write_ref b w t m) = omega (arith, steady_ahead m.steady m.mark)
  move_ahead s n (set_root t m) = omega (arith, steady_ahead m.steady m.mark)
  move_ahead s n (take_held x b w m) = omega (arith, taken_ahead s n m.steady m.taken)
  move_ahead s n (take_root x m) = omega (arith, taken_ahead s n m.steady m.taken)

  pub move_ahead_most : Sound M h → (m : Move M h k) → begun m ≡ 0 → cost m + ahead k + span h ≤ marked m + ahead h + span k
  move_ahead_most s m e =
      by_eq h.phase idle
      (λ i. omega (arith, idle_cost i m e, ahead_idle k (stays_idle i m e), mark_rises m))
      (λ n. omega (arith, move_ahead s n m))

module _ {M : ℕ} where
  -- a collector that is idle stays so along a run that begins no cycle
  run_idle : {h k : Abs} → h.phase ≡ idle → (r : Run M h k) → begins r ≡ 0 → k.phase ≡ idle
  run_idle i rest e = i
  run_idle i (step m r) e = run_idle (stays_idle i m (omega arith)) r (omega arith)

  pub run_ahead : {h k : Abs} → Sound M h → (r : Run M h k) → begins r ≡ 0 → k.phase ≢ idle → units r + ahead k + span h ≡ marks r + ahead h + span k
  run_ahead s rest e n = omega arith
  run_ahead s (step m r) e n =
      omega (arith, move_ahead s (λ i. n (run_idle i (step m r) e)) m, run_ahead (move_sound s m) r (omega arith) n)

  pub run_ahead_most : {h k : Abs} → Sound M h → (r : Run M h k) → begins r ≡ 0 → units r + ahead k + span h ≤ marks r + ahead h + span k
  run_ahead_most s rest e = omega arith
  run_ahead_most s (step m r) e = omega (arith, move_ahead_most s m (omega arith), run_ahead_most (move_sound s m) r (omega arith))
