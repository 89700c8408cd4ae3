-- Instances: sessions of the machine that meet the promises' premises, and one that does not.
--     leaving              calls on a fresh heap of 3 blocks after which block 3 is allocated and nothing names it
--     Freed                a cycle from there: demand 2's last sentence meets its premises, and block 3 is freed
--     Survives             the same, but that within the cycle block 3, out of reach, is stored as a target: it is not freed
--     HandArithmetic       cases 12 and 13 of document 01
--     closes h l           the root and whatever the blocks of l name are 0 or in l
--     churn, works         allocations at the given holders in turn; after each at most two blocks are reachable, as a test that computes
--     chains, chains_work   chains of three blocks at the root; after each at most its three blocks are reachable, as a test that computes
--     NewChain             a chain of three blocks on a fresh heap, as it is when it is new
--     Replaced, Restored   a block reachable before a Load that answers 0 is free after it; one of a heap that was saved and is loaded again is kept
--     Crowded              demand 3's premises, but that a heap is loaded: an allocation is refused for want of room
--     Roomy                demand 3's premises, met by 200 allocations on 20 blocks with pace 5, and what follows
--     RoomyChains          the same with B = 3, by 60 chains on 19 blocks with pace 6: K + 2N + B - 1 is M itself
-- Assumes nothing.
use Rattle.std.specs.Prelude.{ℕ, zero, suc, ◌+◌, ◌-◌, ◌*◌, ◌≤◌, ◌≡◌, ◌≢◌, Bool, true, ◌&&◌, ◌||◌, List, [], ◌∷◌, ◌++◌, eqb, length, take, replicate}
use Rattle.machine.specs.declared.Colour.TheVariants.{White}
use Rattle.machine.specs.Registers.{idle}
use Rattle.machine.specs.Block.{word_of}
use Rattle.machine.specs.Heap.{Heap, colour_of, references_of}
use Rattle.machine.specs.Answers.{Given}
use Rattle.machine.specs.Format.{formatted}
use Rattle.machine.specs.Image.{encode}
use Rattle.machine.specs.Frame.{image_length}
use Rattle.machine.specs.Save.{save}
use Rattle.machine.specs.Session.{Call, does, session, last_of}
use Rattle.machine.specs.Field.{field_block}
use Rattle.machine.specs.Session.Call.{StoreReference, SetRoot, Allocate, AllocateChain, Work, Save, Load}
use Rattle.theory_promises.specs.Reachable.{Reachable, IsFree}
use Rattle.theory_promises.specs.Deeds.{a_reference, a_take, Deed, a_unit, an_act, deed, after}
use Rattle.theory_promises.specs.Plans.{deeds, Resets}
use Rattle.theory_promises.specs.Sessions.{session_deeds, Proper, NoBegin, FreedBy}
use Rattle.theory_promises.specs.Objects.{FreshChain}
use Rattle.theory_promises.specs.Demand3.{cycles, Good, Premises, Asking}

abbrev pub fresh : Heap
fresh = formatted 3 1

-- 2 at the root and 3 in its word 0, to the end of the cycle, then 0 in that word
abbrev pub leaving : List Call
leaving = Allocate 0 0 ∷ Allocate 2 0 ∷ Work 2 ∷ StoreReference 2 0 0 ∷ []

-- the deeds of these calls
abbrev pub before : List Deed
before =
    a_unit ∷ an_act (a_take 0 0) ∷ a_unit ∷ an_act (a_take 2 0) ∷ a_unit ∷ a_unit ∷ an_act (a_reference 2 0 0) ∷ []

abbrev pub left : Heap
left = after before fresh

-- what follows the unit that starts the cycle: 2 is marked, the cycle turns, and two blocks are swept: the third was never used
abbrev pub plain : List Deed
plain = a_unit ∷ a_unit ∷ a_unit ∷ a_unit ∷ []

pub record Freed : Type 0 where
  pub deeds : session_deeds (leaving ++ Work 5 ∷ []) fresh ≡ before ++ (a_unit ∷ (plain ++ []))
  pub starts : left.regs.phase ≡ idle
  pub begun : NoBegin plain (deed a_unit left)
  pub ends : (after plain (deed a_unit left)).regs.phase ≡ idle
  pub proper : Proper plain (deed a_unit left)
  pub allocated : IsFree left 3 → ⊥
  pub unreached : Reachable left 3 → ⊥
  pub freed : FreedBy 3 (a_unit ∷ plain) left

-- the cycle with a store of target 3 after its first unit: now 3 is marked too, so that it takes a unit more
abbrev pub saving : List Deed
saving = an_act (a_reference 2 1 3) ∷ a_unit ∷ a_unit ∷ a_unit ∷ a_unit ∷ a_unit ∷ []

pub record Survives : Type 0 where
  pub deeds : session_deeds (leaving ++ Work 1 ∷ StoreReference 2 1 3 ∷ Work 5 ∷ []) fresh ≡ before ++ (a_unit ∷ (saving ++ []))
  pub starts : left.regs.phase ≡ idle
  pub begun : NoBegin saving (deed a_unit left)
  pub ends : (after saving (deed a_unit left)).regs.phase ≡ idle
  pub allocated : IsFree left 3 → ⊥
  pub unreached : Reachable left 3 → ⊥
  -- the machine takes the target, which is out of reach at that moment
  pub answered : (last_of (leaving ++ Work 1 ∷ []) (StoreReference 2 1 3) fresh).answer.refusal ≡ 0
  pub improper : Reachable (deed a_unit left) 3 → ⊥
  pub white : colour_of (after saving (deed a_unit left)) 3 ≡ White
  pub kept : FreedBy 3 (a_unit ∷ saving) left → ⊥

-- 12: "M = 1,024, U = 10: N is 205; K = 614 meets demand 3's premise, 615 doesn't." 13: "M = 3, U = 8: N is 1; K = 1 meets it."
pub record HandArithmetic : Type 0 where
  pub many : cycles 1024 10 ≡ 205
  pub meets : 614 + 2 * cycles 1024 10 ≤ 1024
  pub fails : 615 + 2 * cycles 1024 10 ≤ 1024 → ⊥
  pub once : cycles 3 8 ≡ 1
  pub small : 1 + 2 * cycles 3 8 ≤ 3

-- x is 0 or in l
unfoldable pub within : ℕ → List ℕ → Bool
within x [] = eqb x 0
within x (a ∷ l) = eqb x a || within x l

unfoldable pub all_within : List ℕ → List ℕ → Bool
all_within [] l = true
all_within (x ∷ xs) l = within x l && all_within xs l

-- what the blocks of ks name is within l; 0 is no block
unfoldable pub names_within : Heap → List ℕ → List ℕ → Bool
names_within h [] l = true
names_within h (a ∷ ks) l = (eqb a 0 || all_within (references_of h a) l) && names_within h ks l

unfoldable pub closes : Heap → List ℕ → Bool
closes h l = within h.regs.root l && names_within h l l

-- the root and what its word 0 holds
abbrev pub pair : Heap → List ℕ
pair h = h.regs.root ∷ word_of h.words h.regs.root 0 ∷ []

-- the call was not refused, no block but those of the list is reachable after it, and the rest goes as well
unfoldable pub goes_on : Given → (Heap → List ℕ) → (Heap → Bool) → Bool
goes_on g reached rest = eqb g.answer.refusal 0 && (closes g.heap (reached g.heap) && rest g.heap)

unfoldable pub works : List ℕ → Heap → Bool
works [] h = true
works (b ∷ bs) h = goes_on (does (Allocate b 0) h) pair (λ k. works bs k)

-- an allocation in word 0 of each of bs in turn, and at the root where it is 0
abbrev pub churn : List ℕ → List Call
churn [] = []
churn (b ∷ bs) = Allocate b 0 ∷ churn bs

-- at the root, and in the block that this gives
abbrev pub by_turns : List ℕ → List ℕ
by_turns [] = []
by_turns (b ∷ bs) = 0 ∷ b ∷ by_turns bs

-- the blocks that the allocations at the root give
abbrev pub rooted : List ℕ
rooted =
    2 ∷ 4 ∷ 3 ∷ 5 ∷ 6 ∷ 2 ∷ 3 ∷ 5 ∷ 6 ∷ 4 ∷ 3 ∷ 2 ∷ 3 ∷ 5 ∷ 6 ∷ 4 ∷ 3 ∷ 2 ∷ 3 ∷ 5 ∷ 6 ∷ 4 ∷ 3 ∷ 2 ∷ 3 ∷
    5 ∷ 6 ∷ 4 ∷ 3 ∷ 2 ∷ 3 ∷ 5 ∷ 6 ∷ 4 ∷ 3 ∷ 2 ∷ 3 ∷ 5 ∷ 6 ∷ 4 ∷ 3 ∷ 2 ∷ 3 ∷ 5 ∷ 6 ∷ 4 ∷ 3 ∷ 2 ∷ 3 ∷ 5 ∷
    6 ∷ 4 ∷ 3 ∷ 2 ∷ 3 ∷ 5 ∷ 6 ∷ 4 ∷ 3 ∷ 2 ∷ 3 ∷ 5 ∷ 6 ∷ 4 ∷ 3 ∷ 2 ∷ 3 ∷ 5 ∷ 6 ∷ 4 ∷ 3 ∷ 2 ∷ 3 ∷ 5 ∷ 6 ∷
    4 ∷ 3 ∷ 2 ∷ 3 ∷ 5 ∷ 6 ∷ 4 ∷ 3 ∷ 2 ∷ 3 ∷ 5 ∷ 6 ∷ 4 ∷ 3 ∷ 2 ∷ 3 ∷ 5 ∷ 6 ∷ 4 ∷ 3 ∷ 2 ∷ 3 ∷ 5 ∷ 6 ∷ 4 ∷ []

abbrev pub long : List Call
long = churn (by_turns rooted)

pub record Roomy : Type 0 where
  pub many : length long ≡ 200
  pub spans : cycles 20 5 ≡ 9
  pub premises : Premises 20 5 2 long
  pub asking : Asking 1 long (formatted 20 5)
  pub fits : 2 + 2 * cycles 20 5 ≤ 20
  pub room : (b w : ℕ) → (does (Allocate b w) (session long (formatted 20 5))).answer.refusal ≢ 7
  pub margin : 20 ≤ (session long (formatted 20 5)).regs.count + 2 + 2 * cycles 20 5

abbrev pub empty : Heap
empty = formatted 2 1

-- 2 at the root, and a cycle has started
abbrev pub holding : Heap
holding = session (Allocate 0 0 ∷ []) empty

-- "Loading over a heap is set apart in demand 2 as Format is"
pub record Replaced : Type 0 where
  pub reached : Reachable holding 2
  pub answered : (does (Load (encode empty)) holding).answer.refusal ≡ 0
  pub gone : IsFree (does (Load (encode empty)) holding).heap 2
  pub reset : Resets (Load (encode empty)) holding

-- what Save writes to an output as long as the image
abbrev pub saved_image : List ℕ
saved_image = (save (replicate (image_length 2) 0) holding).out

abbrev pub loaded : Heap
loaded = session (Load saved_image ∷ []) empty

-- "Demand 2 holds from a loaded heap": after any number of the units of any Work
pub record Restored : Type 0 where
  pub saved : (does (Save (replicate (image_length 2) 0)) holding).answer.refusal ≡ 0
  pub answered : (does (Load saved_image) empty).answer.refusal ≡ 0
  pub same : loaded ≡ holding
  pub reached : Reachable loaded 2
  pub spared : (n j : ℕ) → IsFree (after (take j (deeds (Work n) loaded)) loaded) 2 → ⊥

-- all ten blocks taken while the collector marks, and let go: the sweep has still to pass them, and none is free
abbrev pub full : Heap
full = session (Work 1 ∷ AllocateChain 0 0 10 ∷ SetRoot 0 ∷ []) (formatted 10 5)

-- "demand 3 doesn't, as its heap is fresh": all its other premises are met
pub record Crowded : Type 0 where
  pub answered : (does (Load (encode full)) (formatted 10 5)).answer.refusal ≡ 0
  pub good : Good 0 (Load (encode full) ∷ []) (formatted 10 5)
  pub asking : Asking 1 (Load (encode full) ∷ []) (formatted 10 5)
  pub fits : 0 + 2 * cycles 10 5 ≤ 10
  pub wanting : (last_of (Load (encode full) ∷ []) (Allocate 0 0) (formatted 10 5)).answer.refusal ≡ 7

pub record NewChain : Type 0 where
  pub answered : (last_of [] (AllocateChain 0 0 3) fresh).answer.refusal ≡ 0
  pub value : (last_of [] (AllocateChain 0 0 3) fresh).answer.value ≡ 2
  pub chain : FreshChain 3 2 (last_of [] (AllocateChain 0 0 3) fresh).heap

abbrev pub chains : ℕ → List Call
chains zero = []
chains (suc n) = AllocateChain 0 0 3 ∷ chains n

-- the root and the two blocks that follow it in its chain
abbrev pub trio : Heap → List ℕ
trio h = h.regs.root ∷ field_block 1 h.regs.root h ∷ field_block 2 h.regs.root h ∷ []

unfoldable pub chains_work : ℕ → Heap → Bool
chains_work zero h = true
chains_work (suc n) h = goes_on (does (AllocateChain 0 0 3) h) trio (λ k. chains_work n k)

pub record RoomyChains : Type 0 where
  pub many : length (chains 60) ≡ 60
  pub spans : cycles 19 6 ≡ 7
  pub premises : Premises 19 6 3 (chains 60)
  pub asking : Asking 3 (chains 60) (formatted 19 6)
  pub fits : 3 + 2 * cycles 19 6 + (3 - 1) ≡ 19
  pub room : (b w : ℕ) → (does (AllocateChain b w 3) (session (chains 60) (formatted 19 6))).answer.refusal ≢ 7
  pub margin : 19 ≤ (session (chains 60) (formatted 19 6)).regs.count + 3 + 2 * cycles 19 6 + (3 - 1)
