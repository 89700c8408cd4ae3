-- Runs: moves in a row, and what is counted along them.
--     Run M h k            moves that lead from h to k
--     joined r s           the run r and then the run s
--     units, marks, begins, ends     how many moves of the run are units, are marks, begin a cycle, end one
--     taken r              the blocks that the run takes, the latest first
--     Proper m, ProperRun r     each such target is 0 or reachable at that moment
--     OnlyUnits r          every move of the run is a unit
--     FreedIn M g h k r    some sweep move of the run frees g
--     WritesIn r b w       some move of the run writes word w of b
-- Assumes nothing.
use Rattle.std.specs.Prelude.{ℕ, ◌+◌, ◌≡◌, ◌≢◌, ◌⊎◌, List, [], ◌++◌}
use Rattle.theory_moves.specs.Tints.{Free}
use Rattle.theory_moves.specs.Heaps.{Abs, Reached}
use Rattle.theory_moves.specs.Moves.{Sweep, Move}
use Rattle.theory_moves.specs.Kinds.{cost, Writes, marked, begun, ended, taking, target}

pub data Run (M : ℕ) : Abs → Abs → Type 0 where
  rest : {h : Abs} → Run M h h
  step : {h i k : Abs} → Move M h i → Run M i k → Run M h k

abbrev pub joined : {M : ℕ} {h i k : Abs} → Run M h i → Run M i k → Run M h k
joined rest s = s
joined (step m r) s = step m (joined r s)

abbrev pub units : {M : ℕ} {h k : Abs} → Run M h k → ℕ
units rest = 0
units (step m r) = cost m + units r

abbrev pub marks : {M : ℕ} {h k : Abs} → Run M h k → ℕ
marks rest = 0
marks (step m r) = marked m + marks r

abbrev pub begins : {M : ℕ} {h k : Abs} → Run M h k → ℕ
begins rest = 0
begins (step m r) = begun m + begins r

abbrev pub ends : {M : ℕ} {h k : Abs} → Run M h k → ℕ
ends rest = 0
ends (step m r) = ended m + ends r

abbrev pub taken : {M : ℕ} {h k : Abs} → Run M h k → List ℕ
taken rest = []
taken (step m r) = taken r ++ taking m

abbrev pub Proper : {M : ℕ} {h k : Abs} → Move M h k → Type 0
Proper {M} {h} m = target m ≢ 0 → Reached h (target m)

abbrev pub ProperRun : {M : ℕ} {h k : Abs} → Run M h k → Type 0
ProperRun rest = Unit {0}
ProperRun (step m r) = Proper m × ProperRun r

abbrev pub OnlyUnits : {M : ℕ} {h k : Abs} → Run M h k → Type 0
OnlyUnits rest = Unit {0}
OnlyUnits (step m r) = (cost m ≡ 1) × OnlyUnits r

pub data FreedIn (M g : ℕ) : (h k : Abs) → Run M h k → Type 0 where
  freed_now : {h i k : Abs} {r : Run M i k} (m : Move M h i) → Sweep M h i → h.tint g ≢ Free → i.tint g ≡ Free → FreedIn M g h k (step m r)
  freed_later : {h i k : Abs} {r : Run M i k} (m : Move M h i) → FreedIn M g i k r → FreedIn M g h k (step m r)

abbrev pub WritesIn : {M : ℕ} {h k : Abs} → Run M h k → ℕ → ℕ → Type 0
WritesIn rest b w = ⊥
WritesIn (step m r) b w = Writes m b w ⊎ WritesIn r b w
