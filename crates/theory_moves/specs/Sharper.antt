-- How large a heap has to be: demand 3 in the abstract, sharper. Demand 3 stays beside it; its room and its margin follow from it.
--     MarksReachable       a cycle marks only blocks that were reachable when it began: at most K, so it takes at most K + H + 2 units
--     RoomWithin           with at most P blocks at or below the mark: how many blocks are allocated, with those about to be taken
--     SharperRoom, SharperMargin     EnoughRoom and RoomMargin with a smaller N
--     Frugal s             after an event of the session s that raised the mark, as many blocks are allocated as lie at or below it
--     RestUntouched        in a frugal session for which P blocks are enough, the blocks above P + 1 are never taken, however many there are
-- H is the number of blocks at or below the mark at the cycle's end, and K as in demand 3: at most K blocks are reachable after every event.
-- N is any number with K + M + 2 ≤ U * N, or K + P + 2 ≤ U * N; demand 3 has 2M + 2 there. The rule is the same: K + 2N + B - 1 ≤ M, or ≤ P.
-- Assumes nothing.
use Rattle.std.specs.Prelude.{ℕ, ◌+◌, ◌*◌, max, ◌≤◌, ◌<◌, ◌≡◌}
use Rattle.theory_moves.specs.Heaps.{Abs, Reached, Sound, span}
use Rattle.theory_moves.specs.Moves.{Begin, Mark}
use Rattle.theory_moves.specs.Runs.{Run, units, marks, begins, ProperRun, OnlyUnits}
use Rattle.theory_moves.specs.Demand3.{allocated, unused, Few, Session, over, next, Settled}

-- h is the heap at the beginning, i just after it; the beginning is the first unit
pub record MarksReachable : Type 0 where
  -- a block that the cycle marks was reachable when it began
  pub only : {M : ℕ} {h i j k : Abs} → Sound M h → Begin M h i → (r : Run M i j) → begins r ≡ 0 → ProperRun r
      → (b : ℕ) → Mark M b j k → Reached h b
  -- it marks each of them once at most
  pub few : {M K : ℕ} {h i k : Abs} → Sound M h → Begin M h i → Few K h → (r : Run M i k) → begins r ≡ 0 → ProperRun r → marks r ≤ K
  -- at every moment, the cycle's last unit among them
  pub most : {M K : ℕ} {h i k : Abs} → Sound M h → Begin M h i → Few K h → (r : Run M i k) → begins r ≡ 0 → ProperRun r
      → 1 + units r ≤ K + span k + 2

-- after the units for n blocks, before they are taken. The mark never falls, so no heap of the session has more than P blocks at or below it
abbrev pub RoomWithin : Type 0
RoomWithin =
    (M U B K N P : ℕ) (h k i : Abs) → K + P + 2 ≤ U * N → Sound M h → Settled M K h → Session M U B K h k → span k ≤ P
    → (r : Run M k i) → OnlyUnits r → (n : ℕ) → n ≤ B → U * n ≤ units r → allocated M i + n < K + 2 * N + B

-- once the units for n blocks are done, n blocks are free
abbrev pub SharperRoom : Type 0
SharperRoom =
    (M U B K N : ℕ) (h k i : Abs) → K + M + 2 ≤ U * N → Sound M h → Settled M K h → Session M U B K h k
    → (r : Run M k i) → OnlyUnits r → (n : ℕ) → n ≤ B → U * n ≤ units r → K + 2 * N + B ≤ M + 1 → n ≤ unused M i

-- after every event at least M - K - 2N - (B - 1) blocks are free
abbrev pub SharperMargin : Type 0
SharperMargin =
    (M U B K N : ℕ) (h k : Abs) → K + M + 2 ≤ U * N → Sound M h → Settled M K h → Session M U B K h k
    → M + 1 ≤ unused M k + K + 2 * N + B

-- after each event the mark is where it was, or as many blocks are allocated as lie at or below it. So it is where a block that was never used
-- is taken only when no other is free, the lowest first
abbrev pub Frugal : {M U B K : ℕ} {h k : Abs} → Session M U B K h k → Type 0
Frugal over = Unit {0}
Frugal {M} (next {h} {i} e f s) = (span i ≤ max (span h) (allocated M i)) × Frugal s

pub record RestUntouched : Type 0 where
  -- the mark stays at or below P + 1
  pub stays : (M U B K N P : ℕ) (h k : Abs) → K + P + 2 ≤ U * N → K + 2 * N + B ≤ P + 1 → Sound M h → Settled M K h → span h ≤ P
      → (s : Session M U B K h k) → Frugal s → span k ≤ P
  -- and once the units for n blocks are done, n blocks are free
  pub room : (M U B K N P : ℕ) (h k i : Abs) → K + P + 2 ≤ U * N → K + 2 * N + B ≤ P + 1 → P ≤ M → Sound M h → Settled M K h → span h ≤ P
      → (s : Session M U B K h k) → Frugal s
      → (r : Run M k i) → OnlyUnits r → (n : ℕ) → n ≤ B → U * n ≤ units r → n ≤ unused M i
