-- On a well-formed heap units in a row are a run of moves, none meets damage, and all are counted.
--     unit_formed              a unit leaves a well-formed heap well-formed
--     run_is                   n units in a row are n deeds, and none of them meets damage
--     Worked m h n             n units from h as a run of n unit moves
--     units_worked             units in a row are that
-- Assumes nothing.
use Prim.Native.Nat.{ℕ, zero, suc, ◌+◌}
use mathlib.Core.Path.{◌≡◌, refl, sym, ◌∙◌, ap, subst}
use native.Mathlib.Omega.{arith}
use lib.ListN.{replicate}
use Rattle.machine.specs.Heap.{Heap}
use Rattle.machine.specs.OneUnit.{unit}
use Rattle.machine.specs.Units.{stopped, run}
use Rattle.machine.specs.WellFormed.{WellFormed}
use Rattle.machine.proofs.Tests.{if_true}
use Rattle.theory_moves.specs.Heaps.{Sound}
use Rattle.theory_moves.specs.Moves.{Move}
use Rattle.theory_moves.specs.Kinds.{cost}
use Rattle.theory_moves.specs.Runs.{Run, rest, step, units, OnlyUnits}
use Rattle.theory_moves.proofs.Soundness.{move_sound}
use Rattle.theory_promises.specs.View.{view}
use Rattle.theory_promises.specs.Deeds.{a_unit, deed, after}
use Rattle.theory_promises.proofs.Viewing.{wf_shape, wf_sound, shape_wf}
use Rattle.theory_promises.proofs.UnitMoves.{Goes, unit_goes}

goes : (h : Heap) → WellFormed h → Goes h (unit h)
goes h f = unit_goes h (wf_shape h f) (wf_sound h f)

pub unit_formed : (h : Heap) → WellFormed h → WellFormed (unit h).heap
unit_formed h f =
    let g = goes h f in
    shape_wf (unit h).heap g.shape (subst (λ (m : ℕ). Sound m (view (unit h).heap)) (sym g.blocks) (move_sound (wf_sound h f) g.move))

runs : (n i : ℕ) (h : Heap) → WellFormed h → run n i h ≡ stopped 0 (i + n) (after (replicate n a_unit) h)
unfolding run after deed
runs zero i h f = ap (λ (x : ℕ). stopped 0 x h) (omega arith)
runs (suc n) i h f =
    let k = (unit h).heap in
    let e : i + 1 + n ≡ i + suc n = omega arith in
    if_true (run n (i + 1) k) (stopped 8 i k) (goes h f).finished
    ∙ runs n (i + 1) k (unit_formed h f)
    ∙ ap (λ (x : ℕ). stopped 0 x (after (replicate n a_unit) k)) e

pub run_is : (n : ℕ) (h : Heap) → WellFormed h → run n 0 h ≡ stopped 0 n (after (replicate n a_unit) h)
run_is n h f = let e : 0 + n ≡ n = omega arith in runs n 0 h f ∙ ap (λ (x : ℕ). stopped 0 x (after (replicate n a_unit) h)) e

pub record Worked (m : ℕ) (h : Heap) (n : ℕ) : Type 0 where
  pub blocks : (after (replicate n a_unit) h).regs.blocks ≡ m
  pub pace : (after (replicate n a_unit) h).regs.pace ≡ h.regs.pace
  pub run : Run m (view h) (view (after (replicate n a_unit) h))
  pub only : OnlyUnits run
  pub long : units run ≡ n
  pub formed : WellFormed (after (replicate n a_unit) h)

pub units_worked : (m n : ℕ) (h : Heap) → h.regs.blocks ≡ m → WellFormed h → Worked m h n
unfolding after deed
units_worked m zero h e f = record { blocks = e; pace = refl; run = rest; only = tt; long = refl; formed = f }
units_worked m (suc n) h e f =
    let g = goes h f in
    let v : (v : Move m (view h) (view (unit h).heap)) × (cost v ≡ 1) =
    subst (λ (j : ℕ). (v : Move j (view h) (view (unit h).heap)) × (cost v ≡ 1)) e (g.move, g.unit) in
    let w = units_worked m n (unit h).heap (g.blocks ∙ e) (unit_formed h f) in
    record {
      blocks = w.blocks;
      pace = w.pace ∙ g.pace;
      run = step v.0 w.run;
      only = (v.1, w.only);
      long = ap (λ (x : ℕ). x + units w.run) v.1 ∙ ap (λ (x : ℕ). 1 + x) w.long ∙ omega arith;
      formed = w.formed;
    }
