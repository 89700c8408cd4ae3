-- Demand 2, as statements about the calls.
--     CallsKeep            a formatted heap and a loaded one are well-formed; every call keeps a well-formed heap so, and none answers 8
--     TouchesCall c h b w  the call c on h writes word w of b: a store into b, or an allocation held by b, that isn't refused
--     Safe c h             what the call c leaves of the blocks reachable before it
--     NothingLost          every call at every point of every session is Safe
--     Chain h b bs         from b on, each block names the next of bs
--     ChangesRoot c h, Untouched cs h bs     the call changes the root; no call of the session touches the root or the blocks bs
--     ChainsLast           a chain from the root that no call touches stays, block by block and word by word
--     GarbageGoes          "An allocated block out of reach when a cycle starts has been freed by that cycle's end"
-- A session starts from any heap that the audit accepts, a fresh one and a loaded one among them (`audit_means`, `fresh`, `loaded`).
-- "Loading over a heap is set apart in demand 2 as Format is, and a cycle it breaks off has no end": `Resets` and `NoReset` say so.
-- Assumes nothing.
use Rattle.std.specs.Prelude.{ℕ, ◌≤◌, ◌≡◌, ◌≢◌, ◌⊎◌, take}
use mathlib.Core.List.{List, [], ◌∷◌, ◌++◌, Memᴰ}
use Rattle.machine.specs.Registers.{idle}
use Rattle.machine.specs.Heap.{Heap}
use Rattle.machine.specs.WellFormed.{Block, Live, Names, WellFormed}
use Rattle.machine.specs.Format.{formatted}
use Rattle.machine.specs.Session.{Call, does, session}
use Rattle.machine.specs.Session.Call.{Load}
use Rattle.theory_promises.specs.Reachable.{Reachable, IsFree, SameWord}
use Rattle.theory_promises.specs.Deeds.{Written, RootSet, Deed, a_unit, deed, after}
use Rattle.theory_promises.specs.Plans.{plan, deeds, Resets}
use Rattle.theory_promises.specs.Sessions.{NoReset, session_deeds, Proper, NoBegin, FreedBy}

-- "On a well-formed heap no call answers 8, and every call leaves it well-formed."
pub record CallsKeep : Type 0 where
  pub fresh : (m u : ℕ) → 1 ≤ m → m ≤ 16384 → u ≤ 65535 → WellFormed (formatted m u)
  -- whatever the buffers held, and the registers
  pub loaded : (i : List ℕ) (h : Heap) → (does (Load i) h).answer.refusal ≡ 0 → WellFormed (does (Load i) h).heap
  pub formed : (c : Call) (h : Heap) → WellFormed h → WellFormed (does c h).heap
  pub sessions : (cs : List Call) (h : Heap) → WellFormed h → WellFormed (session cs h)
  pub undamaged : (c : Call) (h : Heap) → WellFormed h → (does c h).answer.refusal ≢ 8

-- "only a store into it, or an allocation held by it, changes its words": a word that an act of the call writes, of a block that was
-- allocated before. A refused call has no acts; its units touch nothing. A Format or a Load that answers 0 touches everything.
abbrev pub TouchesCall : Call → Heap → ℕ → ℕ → Type 0
TouchesCall c h b w = Resets c h ⊎ ((IsFree h b → ⊥) × Written (plan c h).acts b w)

pub record Safe (c : Call) (h : Heap) : Type 0 where
  -- a reachable block is allocated and not doomed
  pub live : (b : ℕ) → Reachable h b → Live h b
  -- "no block reachable from the root is ever freed": after no number of the call's deeds is it free
  pub kept : (b : ℕ) → Reachable h b → (j : ℕ) → IsFree (after (take j (deeds c h)) h) b → ⊥
  -- the deeds lead to the heap that the call leaves
  pub whole : (does c h).heap ≡ after (deeds c h) h
  -- its words and reference bits stay, but for those that the call writes
  pub same : (b w : ℕ) → Reachable h b → w ≤ 7 → (TouchesCall c h b w → ⊥) → SameWord h (does c h).heap b w

pub record NothingLost : Type 0 where
  pub call : (h : Heap) → WellFormed h → (c : Call) → (Resets c h → ⊥) → Safe c h
  pub everywhere : (h : Heap) → WellFormed h → (cs : List Call) (c : Call) → (Resets c (session cs h) → ⊥) → Safe c (session cs h)

-- from b on, each block names the next by a reference word
pub data Chain (h : Heap) : ℕ → List ℕ → Type 0 where
  last : {b : ℕ} → Chain h b []
  onto : {b c : ℕ} {bs : List ℕ} → Names h b c → c ≢ 0 → Chain h c bs → Chain h b (c ∷ bs)

-- a call that changes the root: Set root, or an allocation held by the root, that isn't refused; a Format or a Load that answers 0
abbrev pub ChangesRoot : Call → Heap → Type 0
ChangesRoot c h = Resets c h ⊎ RootSet (plan c h).acts

-- no call of the session touches the root or a word of the blocks bs
abbrev pub Untouched : List Call → Heap → List ℕ → Type 0
Untouched [] h bs = Unit {0}
Untouched (c ∷ cs) h bs =
    ((ChangesRoot c h → ⊥) × ((b w : ℕ) → Memᴰ b bs → w ≤ 7 → TouchesCall c h b w → ⊥)) × Untouched cs (does c h).heap bs

pub record ChainLasts (h k : Heap) (a : ℕ) (bs : List ℕ) : Type 0 where
  pub root : k.regs.root ≡ a
  pub chain : Chain k a bs
  pub words : (b w : ℕ) → Memᴰ b (a ∷ bs) → w ≤ 7 → SameWord h k b w

abbrev pub ChainsLast : Type 0
ChainsLast =
    (h : Heap) → WellFormed h → (bs : List ℕ) (cs : List Call) → h.regs.root ≢ 0 → Chain h h.regs.root bs → Untouched cs h (h.regs.root ∷ bs)
    → ChainLasts h (session cs h) h.regs.root bs

-- a cycle: it starts with the unit after the deeds xs, on an idle heap, and ends with the last of the deeds ys, idle again; the block
-- may be taken again after it was freed
abbrev pub GarbageGoes : Type 0
GarbageGoes =
    (h : Heap) → WellFormed h → (cs : List Call) → NoReset cs h → (xs ys zs : List Deed) → session_deeds cs h ≡ xs ++ (a_unit ∷ (ys ++ zs))
    → (after xs h).regs.phase ≡ idle
    → NoBegin ys (deed a_unit (after xs h))
    → (after ys (deed a_unit (after xs h))).regs.phase ≡ idle
    → Proper ys (deed a_unit (after xs h))
    → (g : ℕ) → Block h.regs.blocks g → (IsFree (after xs h) g → ⊥) → (Reachable (after xs h) g → ⊥)
    → FreedBy g (a_unit ∷ ys) (after xs h)
