-- Laws of Work, one for each way out.
--     work_refused, work_over, work_none, work_done     refused by 1 or 2, by 9, no units asked for, and done
-- Assumes nothing.
use Prim.Native.Nat.{ℕ, ◌≤◌, ◌<◌}
use mathlib.Core.Path.{◌≡◌, refl, ◌∙◌, ap}
use mathlib.Core.Logic.{◌≢◌}
use native.Mathlib.Omega.{arith}
use borrow.Author.Tests.{le-leb, lt-leb}
use Rattle.machine.specs.Heap.{Heap}
use Rattle.machine.specs.Entry.{entry}
use Rattle.machine.specs.Answers.{Given, refuse, done}
use Rattle.machine.specs.Units.{RunEnd, run}
use Rattle.machine.specs.Work.{count_refusal, worked, work}
use Rattle.machine.proofs.Refusals.{stops, passes}
use Rattle.machine.proofs.Storing.{unless_stops, unless_passes}

module _ (k : ℕ) (h : Heap) {g : Given} {n : ℕ} where
  pub work_refused : n ≡ entry h → n ≢ 0 → g ≡ refuse n h → g ≡ work k h
  unfolding work
  work_refused e z r = unless_stops _ (stops (count_refusal k) e z) z r

  pub work_over : n ≡ entry h → n ≡ 0 → 65535 < k → g ≡ refuse 9 h → g ≡ work k h
  unfolding work count_refusal
  work_over e z l r = unless_stops {n = 9} _ (passes e z (simp (lt-leb k 65535 l))) (λ i. absurd (omega arith)) r

  pub work_none : n ≡ entry h → n ≡ 0 → k ≡ 0 → g ≡ done 0 h → g ≡ work k h
  unfolding work count_refusal run
  work_none e z o r = rw o (unless_passes h (passes {n = 0} e z refl) refl r)

  pub work_done : {e : RunEnd} → n ≡ entry h → n ≡ 0 → k ≤ 65535 → e ≡ run k 0 h → g ≡ worked e → g ≡ work k h
  unfolding work count_refusal
  work_done e z l u r = unless_passes h (passes {n = 0} e z (simp (le-leb k 65535 l))) refl (r ∙ ap worked u)
