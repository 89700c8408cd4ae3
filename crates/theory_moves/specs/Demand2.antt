-- Demand 2 in the abstract, as statements about moves and runs.
--     MovesKeep            a heap with all blocks free, none handed out, is sound; every move and every run keeps a sound heap sound
--     SameCell h k b w     word w of b and its reference bit are as they were
--     NothingLost          no move frees a reachable block, and only a write into it or a take held by it changes its words
--     GarbageGoes          a block that is allocated and out of reach when a cycle begins is freed before the cycle ends
--     GarbageWaits         a block out of reach stays so until it is freed, at the latest by the second end of a cycle
-- Assumes nothing.
use Rattle.std.specs.Prelude.{ℕ, ◌≤◌, ◌≡◌, ◌≢◌, false}
use Rattle.theory_reach.specs.Sums.{Block}
use Rattle.theory_reach.specs.Listed.{In}
use Rattle.theory_moves.specs.Tints.{Free}
use Rattle.theory_moves.specs.Heaps.{Abs, idle, Reached, Live, Sound}
use Rattle.theory_moves.specs.Moves.{SameCells, Begin, Move}
use Rattle.theory_moves.specs.Kinds.{cost, Writes, taking}
use Rattle.theory_moves.specs.Runs.{Run, begins, ends, Proper, ProperRun, FreedIn}

pub record MovesKeep : Type 0 where
  pub fresh : (M : ℕ) (h : Abs) → h.root ≡ 0 → h.phase ≡ idle → h.mark ≡ 1 → ((b : ℕ) → Block M b → h.tint b ≡ Free)
      → ((b w : ℕ) → Block M b → h.is_ref b w ≡ false) → Sound M h
  pub move : {M : ℕ} {h k : Abs} → Sound M h → Move M h k → Sound M k
  pub run : {M : ℕ} {h k : Abs} → Sound M h → Run M h k → Sound M k

-- one cell as it was
pub record SameCell (h k : Abs) (b w : ℕ) : Type 0 where
  pub word : k.word b w ≡ h.word b w
  pub bit : k.is_ref b w ≡ h.is_ref b w

pub record NothingLost : Type 0 where
  -- a reachable block is live: allocated, and the running sweep won't free it
  pub live : {M : ℕ} {h : Abs} → Sound M h → {x : ℕ} → Reached h x → Live M h x
  pub kept : {M : ℕ} {h k : Abs} → Sound M h → Move M h k → {x : ℕ} → Reached h x → k.tint x ≢ Free
  pub same : {M : ℕ} {h k : Abs} → Sound M h → (m : Move M h k) {b : ℕ} → Reached h b → (w : ℕ) → (Writes m b w → ⊥) → SameCell h k b w
  -- a block that is taken was out of reach
  pub taken : {M : ℕ} {h k : Abs} {x : ℕ} → Sound M h → (m : Move M h k) → In x (taking m) → Reached h x → ⊥
  -- a unit changes no root and no cell of a live block, so what is reachable stays the same
  pub root : {M : ℕ} {h k : Abs} (m : Move M h k) → cost m ≡ 1 → k.root ≡ h.root
  pub cells : {M : ℕ} {h k : Abs} (m : Move M h k) → cost m ≡ 1 → {b : ℕ} → Live M h b → SameCells h k b
  pub over : {M : ℕ} {h k : Abs} → Sound M h → (m : Move M h k) → cost m ≡ 1 → {x : ℕ} → Reached h x → Reached k x
  pub back : {M : ℕ} {h k : Abs} → Sound M h → (m : Move M h k) → cost m ≡ 1 → {x : ℕ} → Reached k x → Reached h x

-- h is the heap at the beginning, i the heap just after it, k idle again; in between each reference written and each root set is 0 or
-- names a block that is reachable then
abbrev pub GarbageGoes : Type 0
GarbageGoes =
    (M g : ℕ) (h i k : Abs) → Sound M h → Begin M h i → Block M g → h.tint g ≢ Free → (Reached h g → ⊥)
    → (r : Run M i k) → begins r ≡ 0 → ProperRun r → k.phase ≡ idle → FreedIn M g i k r

pub record GarbageWaits : Type 0 where
  pub stays : {M : ℕ} {h k : Abs} → Sound M h → (m : Move M h k) → Proper m → {g : ℕ} → h.tint g ≢ Free → (Reached h g → ⊥) → Reached k g → ⊥
  -- from an idle heap by the end of the next cycle, whatever the phase by the second end
  pub once : {M g : ℕ} → Block M g → {h k : Abs} → Sound M h → h.phase ≡ idle → h.tint g ≢ Free → (Reached h g → ⊥)
      → (r : Run M h k) → ProperRun r → ends r ≢ 0 → FreedIn M g h k r
  pub twice : {M g : ℕ} → Block M g → {h k : Abs} → Sound M h → h.tint g ≢ Free → (Reached h g → ⊥)
      → (r : Run M h k) → ProperRun r → 2 ≤ ends r → FreedIn M g h k r
