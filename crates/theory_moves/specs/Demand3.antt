-- Demand 3 in the abstract, as statements about runs.
--     stands, lies         the weights: 1 for what is allocated, for what is free, else 0
--     allocated M h, unused M h     the number of allocated and of free blocks
--     CycleShort           a cycle that begins with A allocated blocks takes at most A + H + 2 units, and how many exactly
--     Few K h              a list of at most K numbers in which each reachable block occurs
--     Event M U B h k      some units, and then moves of the running program that take at most B blocks, with U units for each of them
--     Session M U B K h k  events from h to k, after each of which at most K blocks are reachable
--     Settled M K h        idle, with at most K blocks allocated, as on a fresh heap
--     EnoughRoom           once the units for n blocks are done, n blocks are free
--     RoomMargin           after every event at least M - K - 2N - (B - 1) blocks are free
-- H is the number of blocks at or below the mark at the cycle's end, which is its last unit: at most M.
-- N is any number with 2M + 2 ≤ U * N, and EnoughRoom asks for K + 2N + B - 1 ≤ M. With B = 1, as for single blocks: K + 2N ≤ M, and at least
-- M - K - 2N are free.
-- Assumes nothing.
use Rattle.std.specs.Prelude.{ℕ, ◌+◌, ◌*◌, ◌≤◌, ◌≡◌, ◌≢◌, List, length}
use Rattle.theory_reach.specs.Sums.{Block, total}
use Rattle.theory_reach.specs.Listed.{In}
use Rattle.theory_moves.specs.Tints.{Tint, White, Grey, Black, Free}
use Rattle.theory_moves.specs.Heaps.{Abs, idle, Reached, Sound, span}
use Rattle.theory_moves.specs.Moves.{Begin, Move}
use Rattle.theory_moves.specs.Kinds.{cost, ended}
use Rattle.theory_moves.specs.Runs.{Run, units, marks, begins, taken, ProperRun, OnlyUnits}

abbrev pub stands : Tint → ℕ
stands White = 1
stands Grey = 1
stands Black = 1
stands Free = 0

abbrev pub lies : Tint → ℕ
lies White = 0
lies Grey = 0
lies Black = 0
lies Free = 1

abbrev pub allocated : ℕ → Abs → ℕ
allocated M h = total M (λ c. stands (h.tint c))

abbrev pub unused : ℕ → Abs → ℕ
unused M h = total M (λ c. lies (h.tint c))

-- h is the heap at the beginning, i just after it; the beginning is the first unit
pub record CycleShort : Type 0 where
  pub counted : (M : ℕ) (h : Abs) → allocated M h + unused M h ≡ M
  -- at every moment, the cycle's last unit among them: the mark only rises
  pub most : {M : ℕ} {h i k : Abs} → Sound M h → Begin M h i → (r : Run M i k) → begins r ≡ 0 → 1 + units r ≤ allocated M h + span k + 2
  -- a whole cycle takes 2 units, one for each block marked, and one for each block that the sweep visits; m is its last unit
  pub exact : {M : ℕ} {h i j k : Abs} → Sound M h → Begin M h i → (r : Run M i j) → begins r ≡ 0 → (m : Move M j k) → ended m ≡ 1
      → 1 + units r + cost m ≡ 2 + marks r + span k
  pub marked : {M : ℕ} {h i k : Abs} → Sound M h → Begin M h i → (r : Run M i k) → begins r ≡ 0 → marks r ≤ allocated M h

pub record Few (K : ℕ) (h : Abs) : Type 0 where
  pub list : List ℕ
  pub short : length list ≤ K
  pub has : (x : ℕ) → Reached h x → In x list

pub record Event (M U B : ℕ) (h k : Abs) : Type 0 where
  pub between : Abs
  pub work : Run M h between
  pub only : OnlyUnits work
  pub acts : Run M between k
  pub still : units acts ≡ 0
  pub proper : ProperRun acts
  pub most : length (taken acts) ≤ B
  pub pace : U * length (taken acts) ≤ units work

pub data Session (M U B K : ℕ) : Abs → Abs → Type 0 where
  over : {h : Abs} → Session M U B K h h
  next : {h i k : Abs} → Event M U B h i → Few K i → Session M U B K i k → Session M U B K h k

pub record Settled (M K : ℕ) (h : Abs) : Type 0 where
  pub phase : h.phase ≡ idle
  pub list : List ℕ
  pub short : length list ≤ K
  pub has : (g : ℕ) → Block M g → h.tint g ≢ Free → In g list

abbrev pub EnoughRoom : Type 0
EnoughRoom =
    (M U B K N : ℕ) (h k i : Abs) → 2 * M + 2 ≤ U * N → Sound M h → Settled M K h → Session M U B K h k
    → (r : Run M k i) → OnlyUnits r → (n : ℕ) → n ≤ B → U * n ≤ units r → K + 2 * N + B ≤ M + 1 → n ≤ unused M i

abbrev pub RoomMargin : Type 0
RoomMargin =
    (M U B K N : ℕ) (h k : Abs) → 2 * M + 2 ≤ U * N → Sound M h → Settled M K h → Session M U B K h k
    → M + 1 ≤ unused M k + K + 2 * N + B
