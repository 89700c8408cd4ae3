-- How large a heap has to be: demand 3 as statements about the calls, sharper. Demand 3 stays beside it.
--     short_cycles k p u    N': (K + P + 2)/U rounded up
--     ProperCycle h cs xs ys zs     a cycle in the session cs from h, in which each target named is 0 or reachable at that moment
--     CycleShorter         such a cycle marks only blocks that were reachable at its beginning: at most K. So it has at most K + H + 2 units
--     NoWant R             no call is refused for want of room, where R holds of M, U, K and B
--     SharperRoomFor, SharperMarginFor     K + 2N' + B - 1 ≤ M suffices, and the margin: RoomFor and MarginFor with N' for N
--     peak ds h            the most blocks that are allocated at once, on h and after each of the deeds ds
--     MarkIsPeak           on a fresh heap the mark less 1 is exactly the most blocks that were ever allocated at once
--     RestUntouched        where P blocks are enough no block above P + 1 is ever taken, and no allocation is refused: M doesn't matter
-- Sessions, K and B are those of demand 3 (specs/Demand3.antt), and H is the number of blocks at or below the mark. With P blocks at or below the
-- mark a cycle has at most K + P + 2 units; demand 3 counts 2M + 2. So N' is at most N where K is at most M, and paces of 3 and 4, which demand 3's rule turns down
-- for every M, are enough.
-- Assumes nothing.
use Rattle.std.specs.Prelude.{ℕ, ◌+◌, ◌*◌, max, ◌≤◌, ◌≡◌, ◌≢◌, List, [], ◌∷◌, ◌++◌}
use Rattle.machine.specs.Rounding.{rounded_up}
use Rattle.machine.specs.Registers.{idle, marking}
use Rattle.machine.specs.Colouring.{first_grey}
use Rattle.machine.specs.Heap.{Heap, colouring}
use Rattle.machine.specs.WellFormed.{WellFormed}
use Rattle.machine.specs.Format.{formatted}
use Rattle.machine.specs.Session.{Call, does, session}
use Rattle.theory_promises.specs.Reachable.{Reachable}
use Rattle.theory_promises.specs.Deeds.{Deed, a_unit, deed, after}
use Rattle.theory_promises.specs.Plans.{asks}
use Rattle.theory_promises.specs.Sessions.{NoReset, session_deeds, Proper, NoBegin, units_in, marks_in}
use Rattle.theory_promises.specs.Demand3.{allocated_blocks, blocks_up_to_mark, Few, Premises, Asking}

unfoldable pub short_cycles : ℕ → ℕ → ℕ → ℕ
short_cycles k p u = rounded_up (k + p + 2) u

-- As in CycleShort, the deeds ys follow the unit that starts a cycle, after the deeds xs, and start none themselves: the cycle still runs, or has
-- ended. Each store and root change among them names 0 or a block that is reachable at that moment.
pub record ProperCycle (h : Heap) (cs : List Call) (xs ys zs : List Deed) : Type 0 where
  pub formed : WellFormed h
  pub unreset : NoReset cs h
  pub deeds : session_deeds cs h ≡ xs ++ (a_unit ∷ (ys ++ zs))
  pub starts : (after xs h).regs.phase ≡ idle
  pub begun : NoBegin ys (deed a_unit (after xs h))
  pub proper : Proper ys (deed a_unit (after xs h))

pub record CycleShorter : Type 0 where
  -- A cycle marks only blocks that were reachable at its beginning: the block that the unit after the deeds ys marks is the first of the grey list.
  pub only : (h : Heap) (cs : List Call) (xs ys zs : List Deed) → ProperCycle h cs xs ys zs
      → (after ys (deed a_unit (after xs h))).regs.phase ≡ marking → (after ys (deed a_unit (after xs h))).regs.grey ≢ 1
      → Reachable (after xs h) (first_grey (colouring (after ys (deed a_unit (after xs h)))))
  -- So it marks at most K.
  pub few : (k : ℕ) (h : Heap) (cs : List Call) (xs ys zs : List Deed) → ProperCycle h cs xs ys zs → Few k (after xs h)
      → marks_in ys (deed a_unit (after xs h)) ≤ k
  -- So it has at most K + H + 2 units: at every moment, with the mark as it stands then. At its last unit they are 2 + marked + H, by CycleShort.
  pub short : (k : ℕ) (h : Heap) (cs : List Call) (xs ys zs : List Deed) → ProperCycle h cs xs ys zs → Few k (after xs h)
      → units_in (a_unit ∷ ys) ≤ k + blocks_up_to_mark (after ys (deed a_unit (after xs h))) + 2

-- with B for n: no call of the session answers 7, nor would any further call that asks for at most B blocks
pub record NoWant (R : ℕ → ℕ → ℕ → ℕ → Type 0) : Type 0 where
  pub within :
      (m u k n : ℕ) (cs : List Call) (c : Call) (ds : List Call) → Premises m u k (cs ++ (c ∷ ds)) → Asking n (cs ++ (c ∷ ds)) (formatted m u)
      → R m u k n → (does c (session cs (formatted m u))).answer.refusal ≢ 7
  pub further :
      (m u k n : ℕ) (cs : List Call) → Premises m u k cs → Asking n cs (formatted m u) → R m u k n
      → (c : Call) → asks c (session cs (formatted m u)) ≤ n → (does c (session cs (formatted m u))).answer.refusal ≢ 7

-- With N' = (K + M + 2)/U rounded up, K + 2N' + B - 1 ≤ M suffices.
abbrev pub SharperRoomFor : Type 0
SharperRoomFor = NoWant (λ m u k n. k + 2 * short_cycles k m u + n ≤ m + 1)

-- After every call at least M - K - 2N' - (B - 1) blocks are free.
abbrev pub SharperMarginFor : Type 0
SharperMarginFor =
    (m u k n : ℕ) (cs : List Call) → Premises m u k cs → Asking n cs (formatted m u)
    → m + 1 ≤ (session cs (formatted m u)).regs.count + k + 2 * short_cycles k m u + n

abbrev pub peak : List Deed → Heap → ℕ
peak [] h = allocated_blocks h
peak (d ∷ ds) h = max (allocated_blocks h) (peak ds (deed d h))

-- Freed blocks go to the front of the free list, so an untouched block is taken only when no freed one is left, and the lowest first: on a fresh
-- heap, without Format and Load, the mark less 1 is exactly the most blocks that were ever allocated at once.
abbrev pub MarkIsPeak : Type 0
MarkIsPeak =
    (m u : ℕ) → 1 ≤ m → m ≤ 16384 → u ≤ 65535 → (cs : List Call) → NoReset cs (formatted m u)
    → (session cs (formatted m u)).regs.mark ≡ peak (session_deeds cs (formatted m u)) (formatted m u) + 1

-- If K + 2N' + B - 1 ≤ P ≤ M with N' = (K + P + 2)/U rounded up, then under the premises no block above P + 1 is ever taken, and no allocation is
-- refused. A larger M costs address space, and time only in the calls that go over all blocks.
pub record RestUntouched : Type 0 where
  pub stays : (m u k n p : ℕ) (cs : List Call) → Premises m u k cs → Asking n cs (formatted m u) → k + 2 * short_cycles k p u + n ≤ p + 1
      → (session cs (formatted m u)).regs.mark ≤ p + 1
  pub room : (p : ℕ) → NoWant (λ m u k n. (p ≤ m) × (k + 2 * short_cycles k p u + n ≤ p + 1))
