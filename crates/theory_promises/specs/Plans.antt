-- The calls, one line for each: what a call asks for, how many units it does, and what it does then.
--     Plan                 a call's plan on a heap
--     form_acts f b w xs n i     n of the blocks xs taken in the form f, from the block i of the form on
--     plan c h             the plan of the call c on the heap h: the only table of the calls
--     deeds_of p, deeds c h     the deeds of a plan and of a call: its units, then its acts
--     worked_by p h, worked c h     the heap after its units
--     Resets c h           the call makes the heap anew
--     asks c h             how many blocks it asks for
-- A refused call makes nothing anew and has no acts. It asks for what it asks for all the same.
-- What is proved of each call is `Keeps` (specs/Known.antt); nothing else looks at which call it is.
-- Assumes nothing.
use Rattle.std.specs.Prelude.{ℕ, zero, suc, ◌+◌, ◌*◌, ◌/◌, ◌%◌, ◌≡◌, Bool, true, false, List, [], ◌∷◌, ◌++◌, map, eqb, get_or, replicate, if◌then◌else◌}
use Rattle.machine.specs.Tests.{◌▷◌}
use Rattle.machine.specs.Heap.{Heap}
use Rattle.machine.specs.Entry.{entry, holder_place}
use Rattle.machine.specs.Units.{run}
use Rattle.machine.specs.Format.{format}
use Rattle.machine.specs.Read.{read_refusal}
use Rattle.machine.specs.Store.{store_refusal, root_refusal}
use Rattle.machine.specs.Allocate.{units_due, take_refusal}
use Rattle.machine.specs.Several.{Form, first_frees, take_several_refusal, holder_of, by_word}
use Rattle.machine.specs.Chain.{chain, chain_length}
use Rattle.machine.specs.Field.{field_block, field_refusal, field_store_refusal}
use Rattle.machine.specs.Work.{count_refusal}
use Rattle.machine.specs.Load.{load}
use Rattle.machine.specs.Session.{Call}
use Rattle.machine.specs.Session.Call.{Format, Read, Look, StoreNumber, StoreReference, SetRoot, Allocate, Work, Audit}
use Rattle.machine.specs.Session.Call.{AllocateChain, ReadField, StoreFieldNumber, StoreFieldReference, State, Save, Load}
use Rattle.theory_promises.specs.Deeds.{Act, a_number, a_reference, a_root, a_take, Deed, a_unit, an_act, after}

pub record Plan : Type 0 where
  pub anew : Bool
  pub asked : ℕ
  pub units : ℕ
  pub acts : List Act

-- n units and then the acts ys, for which b blocks are asked
abbrev pub acting : ℕ → ℕ → List Act → Plan
acting b n ys = record { anew = false; asked = b; units = n; acts = ys }

-- nothing happens, though b blocks may have been asked for
abbrev pub nothing : ℕ → Plan
nothing b = acting b 0 []

-- unless it is refused by r: the heap is made anew
abbrev pub anew_unless : ℕ → Plan
anew_unless r = record { anew = eqb r 0; asked = 0; units = 0; acts = [] }

-- unless they are refused by r: the acts ys
abbrev pub acts_unless : ℕ → List Act → List Act
acts_unless r ys = if eqb r 0 then ys else []

-- unless it is refused by r: one act
abbrev pub act_unless : ℕ → Act → Plan
act_unless r a = acting 0 0 (acts_unless r (a ∷ []))

-- unless it is refused by r: n units, and then the acts that go by the heap after them
abbrev pub units_unless : ℕ → ℕ → ℕ → (Heap → List Act) → Heap → Plan
units_unless r b n next h = acting b (if eqb r 0 then n else 0) (acts_unless r (next (run n 0 h).heap))

-- what the form fills in in x, its block i
abbrev pub fill_acts : Form → ℕ → ℕ → List Act
fill_acts f i x = map (λ w. a_reference x w 0) (f.nulls i) ++ map (λ w. a_number x w 0) (f.zeros i)

-- each is taken for the block that names it, and then filled in
unfoldable pub form_acts : Form → ℕ → ℕ → List ℕ → ℕ → ℕ → List Act
form_acts f b w xs zero i = []
form_acts f b w xs (suc n) i = a_take (holder_of f b xs i) (by_word f w i) ∷ (fill_acts f i (get_or xs i 0) ++ form_acts f b w xs n (i + 1))

-- unless they are refused: the first n free blocks taken in the form f
abbrev pub several_acts : Form → ℕ → ℕ → ℕ → Heap → List Act
several_acts f n b w k = acts_unless (take_several_refusal n b k) (form_acts f b w (first_frees n k) n 0)

unfoldable pub plan : Call → Heap → Plan
plan (Format m u) h = anew_unless (format m u h).answer.refusal
plan (Read b w) h = nothing 0
plan (Look b) h = nothing 0
plan (StoreNumber b w v) h = act_unless (read_refusal b w h) (a_number b w v)
plan (StoreReference b w t) h = act_unless (store_refusal b w t h) (a_reference b w t)
plan (SetRoot t) h = act_unless (root_refusal t h) (a_root t)
plan (Allocate b w) h =
    units_unless (entry h ▷ holder_place h.regs.blocks b w) 1 (units_due h.regs) (λ k. acts_unless (take_refusal b k) (a_take b w ∷ [])) h
plan (AllocateChain b w n) h =
    units_unless (entry h ▷ holder_place h.regs.blocks b w ▷ chain_length n) n (n * units_due h.regs) (several_acts chain n b w) h
plan (ReadField b k) h = nothing 0
plan (StoreFieldNumber b k v) h = act_unless (field_refusal b k h) (a_number (field_block (k / 7) b h) (k % 7) v)
plan (StoreFieldReference b k t) h = act_unless (field_store_refusal b k t h) (a_reference (field_block (k / 7) b h) (k % 7) t)
plan (Work n) h = units_unless (entry h ▷ count_refusal n) 0 n (λ k. []) h
plan Audit h = nothing 0
plan (State b) h = nothing 0
plan (Save out) h = nothing 0
plan (Load i) h = anew_unless (load i h).answer.refusal

abbrev pub worked_by : Plan → Heap → Heap
worked_by p h = after (replicate p.units a_unit) h

abbrev pub deeds_of : Plan → List Deed
deeds_of p = replicate p.units a_unit ++ map an_act p.acts

abbrev pub deeds : Call → Heap → List Deed
deeds c h = deeds_of (plan c h)

abbrev pub worked : Call → Heap → Heap
worked c h = worked_by (plan c h) h

-- a Format or a Load that answers 0
abbrev pub Resets : Call → Heap → Type 0
Resets c h = (plan c h).anew ≡ true

abbrev pub asks : Call → Heap → ℕ
asks c h = (plan c h).asked
