-- What calls are made of, deed by deed: units of the collector, and acts of the running program.
--     Act, acted a h       an act, and the heap after it
--     Allows a h           the tests that the machine makes of that act pass on h
--     target a, takes a    the block that an act names, and how many blocks it takes
--     Writes a b w         the act writes word w of b, a block that was allocated before
--     SetsRoot a           the act changes the root
--     Written ys b w, RootSet ys     one of the acts does
--     Deed, deed d h       a unit or an act, and the heap after it
--     Allowed d h, costs d, names d, takings d     the same of a deed, and its units
--     after ds h           the heap after the deeds ds
--     AllAllowed ds h      each of them is allowed when it is done
--     takes_in ds           how many blocks they take
-- Assumes nothing.
use Rattle.std.specs.Prelude.{ℕ, ◌+◌, ◌≡◌, ◌⊎◌, List, [], ◌∷◌}
use Rattle.machine.specs.Registers.{with_root}
use Rattle.machine.specs.Heap.{Heap, with_regs}
use Rattle.machine.specs.Entry.{holder_place}
use Rattle.machine.specs.OneUnit.{unit}
use Rattle.machine.specs.Read.{read_refusal}
use Rattle.machine.specs.Store.{barrier, put_number, put_reference, store_refusal, root_refusal}
use Rattle.machine.specs.Allocate.{taken, held, take_refusal}

pub data Act : Type 0 where
  a_number : ℕ → ℕ → ℕ → Act
  a_reference : ℕ → ℕ → ℕ → Act
  a_root : ℕ → Act
  a_take : ℕ → ℕ → Act

unfoldable pub acted : Act → Heap → Heap
acted (a_number b w v) h = put_number b w v h
acted (a_reference b w t) h = put_reference b w t (barrier t h)
acted (a_root t) h = with_regs (with_root t (barrier t h).regs) (barrier t h)
acted (a_take b w) h = held b w h.regs.free (taken h)

abbrev pub Allows : Act → Heap → Type 0
Allows (a_number b w v) h = read_refusal b w h ≡ 0
Allows (a_reference b w t) h = store_refusal b w t h ≡ 0
Allows (a_root t) h = root_refusal t h ≡ 0
Allows (a_take b w) h = (holder_place h.regs.blocks b w ≡ 0) × (take_refusal b h ≡ 0)

-- the target that an act names, and 0 where it names none
abbrev pub target : Act → ℕ
target (a_number b w v) = 0
target (a_reference b w t) = t
target (a_root t) = t
target (a_take b w) = 0

abbrev pub takes : Act → ℕ
takes (a_number b w v) = 0
takes (a_reference b w t) = 0
takes (a_root t) = 0
takes (a_take b w) = 1

-- "only a store into it, or an allocation held by it, changes its words"
abbrev pub Writes : Act → ℕ → ℕ → Type 0
Writes (a_number c u v) b w = (b ≡ c) × (w ≡ u)
Writes (a_reference c u t) b w = (b ≡ c) × (w ≡ u)
Writes (a_root t) b w = ⊥
Writes (a_take c u) b w = (b ≡ c) × (w ≡ u)

-- Set root, and an allocation held by the root
abbrev pub SetsRoot : Act → Type 0
SetsRoot (a_number b w v) = ⊥
SetsRoot (a_reference b w t) = ⊥
SetsRoot (a_root t) = Unit {0}
SetsRoot (a_take b w) = b ≡ 0

abbrev pub Written : List Act → ℕ → ℕ → Type 0
Written [] b w = ⊥
Written (a ∷ ys) b w = Writes a b w ⊎ Written ys b w

abbrev pub RootSet : List Act → Type 0
RootSet [] = ⊥
RootSet (a ∷ ys) = SetsRoot a ⊎ RootSet ys

pub data Deed : Type 0 where
  a_unit : Deed
  an_act : Act → Deed

unfoldable pub deed : Deed → Heap → Heap
deed a_unit h = (unit h).heap
deed (an_act a) h = acted a h

abbrev pub Allowed : Deed → Heap → Type 0
Allowed a_unit h = Unit {0}
Allowed (an_act a) h = Allows a h

-- a unit is 1 unit of work, and no act is any
abbrev pub costs : Deed → ℕ
costs a_unit = 1
costs (an_act a) = 0

abbrev pub names : Deed → ℕ
names a_unit = 0
names (an_act a) = target a

abbrev pub takings : Deed → ℕ
takings a_unit = 0
takings (an_act a) = takes a

unfoldable pub after : List Deed → Heap → Heap
after [] h = h
after (d ∷ ds) h = after ds (deed d h)

abbrev pub AllAllowed : List Deed → Heap → Type 0
AllAllowed [] h = Unit {0}
AllAllowed (d ∷ ds) h = Allowed d h × AllAllowed ds (deed d h)

abbrev pub takes_in : List Deed → ℕ
takes_in [] = 0
takes_in (d ∷ ds) = takings d + takes_in ds
