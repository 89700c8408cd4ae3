-- The laws of runs.
--     frees_now            a run whose first move frees g has it freed: the move is a sweep
--     run_sound            a run keeps a sound heap sound
--     run_mark             a run doesn't lower the mark
--     moves_keep           the statement MovesKeep
--     joined_units, joined_begins, joined_marks, joined_ends, joined_proper, freed_left, freed_right     of two runs joined
-- Assumes nothing.
use Prim.Native.Nat.{ℕ, ◌+◌, ◌≤◌}
use mathlib.Core.Path.{◌≡◌}
use mathlib.Core.Logic.{◌≢◌}
use native.Mathlib.Omega.{arith}
use Rattle.theory_reach.specs.Sums.{Block}
use Rattle.theory_moves.specs.Tints.{Free}
use Rattle.theory_moves.specs.Heaps.{Abs, Sound}
use Rattle.theory_moves.specs.Moves.{Move}
use Rattle.theory_moves.specs.Runs.{Run, rest, step, joined, units, marks, begins, ends, ProperRun, FreedIn, freed_now, freed_later}
use Rattle.theory_moves.specs.Demand2.{MovesKeep}
use Rattle.theory_moves.proofs.Heaps.{fresh_sound}
use Rattle.theory_moves.proofs.ByKind.{mark_rises}
use Rattle.theory_moves.proofs.Soundness.{move_sound}
use Rattle.theory_moves.proofs.Safety.{freed_sweep}

-- a move that frees g is a sweep
pub frees_now : {M g : ℕ} {h i k : Abs} {r : Run M i k} → Block M g → (m : Move M h i) → h.tint g ≢ Free → i.tint g ≡ Free → FreedIn M g h k (step m r)
frees_now l m a f = freed_now m (freed_sweep m _ l a f) a f

pub run_sound : {M : ℕ} {h k : Abs} → Sound M h → Run M h k → Sound M k
run_sound s rest = s
run_sound s (step m r) = run_sound (move_sound s m) r

pub run_mark : {M : ℕ} {h k : Abs} → Run M h k → h.mark ≤ k.mark
run_mark rest = omega arith
run_mark (step m r) = omega (arith, mark_rises m, run_mark r)

pub moves_keep : MovesKeep
moves_keep = record { fresh = fresh_sound; move = move_sound; run = run_sound }

module _ {M : ℕ} where
  pub joined_units : {h i k : Abs} (r : Run M h i) (s : Run M i k) → units (joined r s) ≡ units r + units s
  joined_units rest s = omega arith
  joined_units (step m r) s = omega (arith, joined_units r s)

  pub joined_begins : {h i k : Abs} (r : Run M h i) (s : Run M i k) → begins (joined r s) ≡ begins r + begins s
  joined_begins rest s = omega arith
  joined_begins (step m r) s = omega (arith, joined_begins r s)

  pub joined_marks : {h i k : Abs} (r : Run M h i) (s : Run M i k) → marks (joined r s) ≡ marks r + marks s
  joined_marks rest s = omega arith
  joined_marks (step m r) s = omega (arith, joined_marks r s)

  pub joined_ends : {h i k : Abs} (r : Run M h i) (s : Run M i k) → ends (joined r s) ≡ ends r + ends s
  joined_ends rest s = omega arith
  joined_ends (step m r) s = omega (arith, joined_ends r s)

  pub joined_proper : {h i k : Abs} (r : Run M h i) (s : Run M i k) → ProperRun r → ProperRun s → ProperRun (joined r s)
  joined_proper rest s p q = q
  joined_proper (step m r) s p q = (p.0, joined_proper r s p.1 q)

  pub freed_left : {g : ℕ} {h i k : Abs} {r : Run M h i} → FreedIn M g h i r → (s : Run M i k) → FreedIn M g h k (joined r s)
  freed_left (freed_now m w a f) s = freed_now m w a f
  freed_left (freed_later m d) s = freed_later m (freed_left d s)

  pub freed_right : {g : ℕ} {h i k : Abs} (r : Run M h i) {s : Run M i k} → FreedIn M g i k s → FreedIn M g h k (joined r s)
  freed_right rest d = d
  freed_right (step m r) d = freed_later m (freed_right r d)
