-- Demand 3, as statements about the calls.
--     allocated_blocks h    how many blocks are allocated
--     blocks_up_to_mark h       H: "how many blocks lie at or below the mark"
--     then_unit ys          the deeds ys and a unit after them
--     CycleShort           "a cycle that starts with A allocated blocks takes at most" A + H + 2 "units", and exactly 2 + marked + H
--     cycles m u           N: "(2M + 2)/U rounded up"
--     Few k h              at most k blocks are reachable: a list of at most k numbers in which each of them occurs
--     Good k cs h          after each call at most k are reachable, and each target named was 0 or reachable at that moment
--     Asking n cs h        no call of the session asks for more than n blocks
--     RoomFor, MarginFor   no call is refused for want of room, and the margin, where calls ask for at most B blocks: K + 2N + B - 1 ≤ M
--     RoomAsRead, MarginAsRead     the same with N + B - 1 for N, as document 02 reads demand 3: K + 2(N + B - 1) ≤ M
--     Single c, Singles cs     the call is no chain of two blocks or more; no call of the session is
--     EachOne              sessions of such calls ask for one block at most: those of document 01's nine calls among them
--     RoomEnough           "no allocation is refused for want of room", where calls ask for one block at most
--     Margin               the free count after every call is at least M - K - 2N there
-- A fresh heap is `formatted m u`. Sessions are any calls with any arguments, refused ones among them, without a further Format
-- or a Load that answers 0. RoomEnough and Margin are the case B = 1, which is that of document 01.
-- Assumes nothing.
use Rattle.std.specs.Prelude.{ℕ, ◌+◌, ◌-◌, ◌*◌, ◌≤◌, ◌≡◌, ◌≢◌, leb, length}
use mathlib.Core.List.{List, [], ◌∷◌, ◌++◌, Memᴰ}
use Rattle.machine.specs.Rounding.{rounded_up}
use Rattle.machine.specs.Registers.{idle}
use Rattle.machine.specs.Colouring.{is_allocated}
use Rattle.machine.specs.Heap.{Heap, colouring}
use Rattle.machine.specs.Audit.{count_from}
use Rattle.machine.specs.WellFormed.{WellFormed}
use Rattle.machine.specs.Format.{formatted}
use Rattle.machine.specs.Session.{Call, does, session}
use Rattle.machine.specs.Session.Call.{Allocate, AllocateChain}
use Rattle.theory_promises.specs.Reachable.{Reachable}
use Rattle.theory_promises.specs.Deeds.{Deed, a_unit, deed, after}
use Rattle.theory_promises.specs.Plans.{deeds, asks}
use Rattle.theory_promises.specs.Sessions.{NoReset, session_deeds, Proper, NoBegin, units_in, marks_in}

abbrev pub allocated_blocks : Heap → ℕ
allocated_blocks h = count_from (is_allocated (colouring h)) h.regs.blocks 2

abbrev pub blocks_up_to_mark : Heap → ℕ
blocks_up_to_mark h = count_from (λ b. leb b h.regs.mark) h.regs.blocks 2

abbrev pub then_unit : List Deed → List Deed
then_unit ys = ys ++ (a_unit ∷ [])

-- "Demand 3's first bound becomes A + H + 2, H being how many blocks lie at or below the mark at the cycle's end": the end is the cycle's last
-- unit, after which the phase is idle. The deeds ys follow the unit that starts a cycle, after the deeds xs, and start none themselves: the
-- cycle still runs, or has ended; its units are counted over all the calls that do them.
pub record CycleShort : Type 0 where
  -- the count of allocated blocks is M less the free count
  pub counted : (h : Heap) → WellFormed h → allocated_blocks h + h.regs.count ≡ h.regs.blocks
  -- blocks are numbered from 2 on, so H is the mark less 1, and at most M
  pub up_to : (h : Heap) → WellFormed h → blocks_up_to_mark h + 1 ≡ h.regs.mark
  -- at every moment, with the mark as it stands then: at the cycle's last unit this is the bound
  pub short : (h : Heap) → WellFormed h → (cs : List Call) → NoReset cs h → (xs ys zs : List Deed) → session_deeds cs h ≡ xs ++ (a_unit ∷ (ys ++ zs))
      → (after xs h).regs.phase ≡ idle → NoBegin ys (deed a_unit (after xs h))
      → units_in (a_unit ∷ ys) ≤ allocated_blocks (after xs h) + blocks_up_to_mark (after ys (deed a_unit (after xs h))) + 2
  -- the unit after the deeds ys is the cycle's last
  pub exact :
      (h : Heap) → WellFormed h → (cs : List Call) → NoReset cs h → (xs ys zs : List Deed) → session_deeds cs h ≡ xs ++ (a_unit ∷ (then_unit ys ++ zs))
      → (after xs h).regs.phase ≡ idle → NoBegin (then_unit ys) (deed a_unit (after xs h))
      → (after (then_unit ys) (deed a_unit (after xs h))).regs.phase ≡ idle
      → units_in (a_unit ∷ then_unit ys)
      ≡ 2 + marks_in (then_unit ys) (deed a_unit (after xs h)) + blocks_up_to_mark (after (then_unit ys) (deed a_unit (after xs h)))

unfoldable pub cycles : ℕ → ℕ → ℕ
cycles m u = rounded_up (2 * m + 2) u

pub record Few (k : ℕ) (h : Heap) : Type 0 where
  pub list : List ℕ
  pub short : length list ≤ k
  pub has : (b : ℕ) → Reachable h b → Memᴰ b list

abbrev pub Good : ℕ → List Call → Heap → Type 0
Good k [] h = Unit {0}
Good k (c ∷ cs) h = (Proper (deeds c h) h × Few k (does c h).heap) × Good k cs (does c h).heap

pub record Premises (m u k : ℕ) (cs : List Call) : Type 0 where
  pub some : 1 ≤ m
  pub most : m ≤ 16384
  pub paced : 1 ≤ u
  pub pace : u ≤ 65535
  pub formats : NoReset cs (formatted m u)
  pub good : Good k cs (formatted m u)

abbrev pub Asking : ℕ → List Call → Heap → Type 0
Asking n [] h = Unit {0}
Asking n (c ∷ cs) h = (asks c h ≤ n) × Asking n cs (does c h).heap

-- with B for n: no call of the session answers 7, nor would any further call that asks for at most B blocks
pub record RoomFor : Type 0 where
  pub within :
      (m u k n : ℕ) (cs : List Call) (c : Call) (ds : List Call) → Premises m u k (cs ++ (c ∷ ds)) → Asking n (cs ++ (c ∷ ds)) (formatted m u)
      → k + 2 * cycles m u + n ≤ m + 1 → (does c (session cs (formatted m u))).answer.refusal ≢ 7
  pub further :
      (m u k n : ℕ) (cs : List Call) → Premises m u k cs → Asking n cs (formatted m u) → k + 2 * cycles m u + n ≤ m + 1
      → (c : Call) → asks c (session cs (formatted m u)) ≤ n → (does c (session cs (formatted m u))).answer.refusal ≢ 7

abbrev pub MarginFor : Type 0
MarginFor =
    (m u k n : ℕ) (cs : List Call) → Premises m u k cs → Asking n cs (formatted m u)
    → m + 1 ≤ (session cs (formatted m u)).regs.count + k + 2 * cycles m u + n

-- "Demand 3 from here on reads N + B - 1 for N, where B is the largest number of blocks asked for in one call"
pub record RoomAsRead : Type 0 where
  pub within :
      (m u k n : ℕ) (cs : List Call) (c : Call) (ds : List Call) → Premises m u k (cs ++ (c ∷ ds)) → Asking n (cs ++ (c ∷ ds)) (formatted m u)
      → k + 2 * (cycles m u + (n - 1)) ≤ m → (does c (session cs (formatted m u))).answer.refusal ≢ 7
  pub further :
      (m u k n : ℕ) (cs : List Call) → Premises m u k cs → Asking n cs (formatted m u) → k + 2 * (cycles m u + (n - 1)) ≤ m
      → (c : Call) → asks c (session cs (formatted m u)) ≤ n → (does c (session cs (formatted m u))).answer.refusal ≢ 7

abbrev pub MarginAsRead : Type 0
MarginAsRead =
    (m u k n : ℕ) (cs : List Call) → Premises m u k cs → Asking n cs (formatted m u)
    → m ≤ (session cs (formatted m u)).regs.count + k + 2 * (cycles m u + (n - 1))

-- Allocate chain alone may ask for more
abbrev pub Single : Call → Type 0
Single c = (b w n : ℕ) → c ≡ AllocateChain b w n → n ≤ 1

abbrev pub Singles : List Call → Type 0
Singles [] = Unit {0}
Singles (c ∷ cs) = Single c × Singles cs

pub record EachOne : Type 0 where
  pub call : (c : Call) (h : Heap) → Single c → asks c h ≤ 1
  pub calls : (cs : List Call) (h : Heap) → Singles cs → Asking 1 cs h

abbrev pub RoomEnough : Type 0
RoomEnough =
    (m u k : ℕ) (cs : List Call) → Premises m u k cs → Asking 1 cs (formatted m u) → k + 2 * cycles m u ≤ m
    → (b w : ℕ) → (does (Allocate b w) (session cs (formatted m u))).answer.refusal ≢ 7

abbrev pub Margin : Type 0
Margin = (m u k : ℕ) (cs : List Call) → Premises m u k cs → Asking 1 cs (formatted m u) → m ≤ (session cs (formatted m u)).regs.count + k + 2 * cycles m u
