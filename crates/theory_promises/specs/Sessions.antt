-- Sessions of calls, deed by deed.
--     NoReset cs h         no call of the session cs from h makes the heap anew
--     session_deeds cs h    the deeds of a session, in order
--     Proper ds h          each store and root change among the deeds names 0 or a block reachable at that moment
--     NoBegin ds h         no unit among the deeds starts a cycle
--     FreedBy g ds h       some unit among the deeds frees g
--     units_in ds, marks_in ds h     how many deeds are units, and how many of these take a block from the grey list
-- A session that formats the heap anew goes on from there as a session from a fresh heap, and one that loads a heap as one from that.
-- Assumes nothing.
use Rattle.std.specs.Prelude.{ℕ, ◌+◌, ◌≡◌, ◌≢◌, ◌&&◌, not, List, [], ◌∷◌, ◌++◌, eqb, if◌then◌else◌}
use Rattle.machine.specs.Registers.{idle, marking}
use Rattle.machine.specs.Heap.{Heap}
use Rattle.machine.specs.Session.{Call, does}
use Rattle.theory_promises.specs.Reachable.{Reachable, IsFree}
use Rattle.theory_promises.specs.Deeds.{Deed, a_unit, an_act, deed, costs, names}
use Rattle.theory_promises.specs.Plans.{Resets, deeds}

abbrev pub NoReset : List Call → Heap → Type 0
NoReset [] h = Unit {0}
NoReset (c ∷ cs) h = (Resets c h → ⊥) × NoReset cs (does c h).heap

unfoldable pub session_deeds : List Call → Heap → List Deed
session_deeds [] h = []
session_deeds (c ∷ cs) h = deeds c h ++ session_deeds cs (does c h).heap

abbrev pub Proper : List Deed → Heap → Type 0
Proper [] h = Unit {0}
Proper (d ∷ ds) h = (names d ≢ 0 → Reachable h (names d)) × Proper ds (deed d h)

abbrev pub Begins : Deed → Heap → Type 0
Begins a_unit h = h.regs.phase ≡ idle
Begins (an_act a) h = ⊥

abbrev pub NoBegin : List Deed → Heap → Type 0
NoBegin [] h = Unit {0}
NoBegin (d ∷ ds) h = (Begins d h → ⊥) × NoBegin ds (deed d h)

pub data FreedBy (g : ℕ) : List Deed → Heap → Type 0 where
  now : {ds : List Deed} {h : Heap} → (IsFree h g → ⊥) → IsFree (deed a_unit h) g → FreedBy g (a_unit ∷ ds) h
  later : {ds : List Deed} {h : Heap} (d : Deed) → FreedBy g ds (deed d h) → FreedBy g (d ∷ ds) h

abbrev pub units_in : List Deed → ℕ
units_in [] = 0
units_in (d ∷ ds) = costs d + units_in ds

-- a unit takes a block from the grey list where the phase is marking and the grey head isn't 1
abbrev pub marking? : Deed → Heap → ℕ
marking? a_unit h = if eqb h.regs.phase marking && not (eqb h.regs.grey 1) then 1 else 0
marking? (an_act a) h = 0

abbrev pub marks_in : List Deed → Heap → ℕ
marks_in [] h = 0
marks_in (d ∷ ds) h = marking? d h + marks_in ds (deed d h)
