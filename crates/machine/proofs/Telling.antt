-- Laws of State, one for each way out.
--     tell_refused, tell_told      refused by 1 or 2, and told
-- Assumes nothing.
use Prim.Native.Nat.{ℕ}
use mathlib.Core.Path.{◌≡◌, refl}
use mathlib.Core.Logic.{◌≢◌}
use Rattle.machine.specs.declared.State.{State}
use Rattle.machine.specs.Heap.{Heap}
use Rattle.machine.specs.State.{state_of}
use Rattle.machine.specs.Entry.{entry}
use Rattle.machine.specs.Answers.{Given, refuse, done}
use Rattle.machine.specs.Tell.{state_number, tell_state}
use Rattle.machine.proofs.Storing.{unless_stops, unless_passes}

module _ (b : ℕ) (h : Heap) {g : Given} {n : ℕ} (e : n ≡ entry h) where
  pub tell_refused : n ≢ 0 → g ≡ refuse n h → g ≡ tell_state b h
  unfolding tell_state
  tell_refused z f = unless_stops _ e z f

  pub tell_told : (s : State) (v : ℕ) → n ≡ 0 → s ≡ state_of h b → v ≡ state_number s → g ≡ done v h → g ≡ tell_state b h
  unfolding tell_state
  tell_told s v z i a f = unless_passes h e z (rw (f, a, i) refl)
