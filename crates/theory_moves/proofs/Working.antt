-- Units in a row: the running program sees nothing of them.
--     work_over, work_back     what is reachable stays so, and nothing else becomes reachable
--     work_root, work_mark      the root stays, and the mark
--     work_live            a reachable block is live afterwards: not freed, not doomed
--     work_cells           its words and reference bits stay
-- Assumes nothing.
use Prim.Native.Nat.{ℕ}
use mathlib.Core.Path.{◌≡◌, refl, ◌∙◌}
use Rattle.theory_moves.specs.Heaps.{Abs, Reached, Live, Sound}
use Rattle.theory_moves.specs.Moves.{SameCells}
use Rattle.theory_moves.specs.Runs.{Run, rest, step, OnlyUnits}
use Rattle.theory_moves.proofs.Heaps.{reached_live}
use Rattle.theory_moves.proofs.ByKind.{unit_mark}
use Rattle.theory_moves.proofs.Runs.{run_sound}
use Rattle.theory_moves.proofs.Soundness.{move_sound}
use Rattle.theory_moves.proofs.Safety.{unit_cells, unit_root, unit_over, unit_back}

cells_join : {h i k : Abs} {b : ℕ} → SameCells h i b → SameCells i k b → SameCells h k b
cells_join p q = record { words = λ w. q.words w ∙ p.words w; bits = λ w. q.bits w ∙ p.bits w }

module _ {M : ℕ} where
  pub work_over : {h k : Abs} → Sound M h → (r : Run M h k) → OnlyUnits r → {x : ℕ} → Reached h x → Reached k x
  work_over s rest o p = p
  work_over s (step m r) o p = work_over (move_sound s m) r o.1 (unit_over s m o.0 p)

  pub work_back : {h k : Abs} → Sound M h → (r : Run M h k) → OnlyUnits r → {x : ℕ} → Reached k x → Reached h x
  work_back s rest o p = p
  work_back s (step m r) o p = unit_back s m o.0 (work_back (move_sound s m) r o.1 p)

  pub work_root : {h k : Abs} (r : Run M h k) → OnlyUnits r → k.root ≡ h.root
  work_root rest o = refl
  work_root (step m r) o = work_root r o.1 ∙ unit_root m o.0

  pub work_mark : {h k : Abs} (r : Run M h k) → OnlyUnits r → k.mark ≡ h.mark
  work_mark rest o = refl
  work_mark (step m r) o = work_mark r o.1 ∙ unit_mark m o.0

  pub work_live : {h k : Abs} → Sound M h → (r : Run M h k) → OnlyUnits r → {x : ℕ} → Reached h x → Live M k x
  work_live s r o p = reached_live (run_sound s r) (work_over s r o p)

  pub work_cells : {h k : Abs} → Sound M h → (r : Run M h k) → OnlyUnits r → {x : ℕ} → Reached h x → SameCells h k x
  work_cells s rest o p = record { words = λ w. refl; bits = λ w. refl }
  work_cells s (step m r) o p =
      cells_join (unit_cells m o.0 (reached_live s p)) (work_cells (move_sound s m) r o.1 (unit_over s m o.0 p))
