-- Instances: a list of two rows that are objects, which lasts through a session, and a session that touches a row's second block.
--     dusk                 a fresh heap of 8 blocks on which word 1 of the root's block 2 holds a list of two rows of 8 fields: the objects 3,
--                          with the blocks 3 and 4, and 5, with 5 and 6
--     fields last          what an export of the list makes of a buffer of 20 words, where the second row's last field is `last`
--     ObjectsStay          the premises are met by it, blocks are freed and taken again, and the export is the same
--     ObjectTouched        a store into the second row's second block: the export is complete, with another row
--     ObjectCut            the second row's link to its second block set to null: reading the row is refused by 3
-- Assumes nothing.
use Rattle.std.specs.Prelude.{ℕ, ◌≡◌, ◌≢◌, List, [], ◌∷◌, ◌++◌, replicate, take}
use Rattle.machine.specs.Heap.{Heap}
use Rattle.machine.specs.Format.{formatted}
use Rattle.machine.specs.WellFormed.{Names, WellFormed}
use Rattle.machine.specs.Session.{session, last_of}
use Rattle.machine.specs.Session.Call.{StoreNumber, StoreReference, Allocate, AllocateChain, StoreFieldNumber, StoreFieldReference}
use Rattle.theory_promises.specs.Demand2.{Untouched}
use Rattle.part_rows.specs.declared.Reason.TheVariants.{Refused}
use Rattle.part_rows.specs.Rows.{complete, stopped}
use Rattle.part_rows.specs.Lists.{Listed}
use Rattle.call_export_objects.specs.Objects.{object_rows, export_objects}
use Rattle.theory_clause.specs.Lasting.{blocks_of, SameList, Leaves}
use Rattle.theory_clause.specs.Objects.{objects}
use Rattle.theory_clause.specs.Instances.{buffer, busy}

abbrev pub dusk : Heap
dusk =
    session
    (Allocate 0 0 ∷ AllocateChain 2 1 2 ∷ StoreFieldNumber 3 1 77 ∷ StoreFieldNumber 3 7 70
    ∷ AllocateChain 3 0 2 ∷ StoreFieldNumber 5 1 88 ∷ StoreFieldNumber 5 7 80 ∷ StoreFieldReference 5 0 0 ∷ [])
    (formatted 8 1)

abbrev pub fields : ℕ → List ℕ
fields last = (5 ∷ 77 ∷ replicate 5 0) ++ (70 ∷ (0 ∷ 88 ∷ replicate 5 0) ++ (last ∷ replicate 4 9))

pub record ObjectsStay : Type 0 where
  pub formed : WellFormed dusk
  pub listed : Listed (object_rows 8 0 dusk) 3 (3 ∷ 5 ∷ [])
  pub blocks : blocks_of (objects 8 0) dusk (3 ∷ 5 ∷ []) ≡ 3 ∷ 4 ∷ 5 ∷ 6 ∷ []
  pub held : Names dusk dusk.regs.root 3
  pub rooted : dusk.regs.root ≢ 0
  pub untouched : Untouched busy dusk (3 ∷ 4 ∷ 5 ∷ 6 ∷ [])
  pub left : Leaves busy dusk dusk.regs.root held.word
  -- three blocks were free, and the session's fifth allocation is given one
  pub free : dusk.regs.count ≡ 3
  pub given : (last_of (take 6 busy) (Allocate 2 7) dusk).answer.refusal ≡ 0
  pub cycles : (dusk.regs.cycle ≡ 2) × ((session busy dusk).regs.cycle ≡ 6)
  pub before : export_objects 3 8 0 dusk buffer ≡ complete 2 (fields 80)
  pub lasts : SameList (objects 8 0) dusk (session busy dusk) 3 (3 ∷ 5 ∷ [])
  pub after : export_objects 3 8 0 (session busy dusk) buffer ≡ complete 2 (fields 80)

-- 99 stored in the second row's second block
pub record ObjectTouched : Type 0 where
  pub answered : (last_of busy (StoreNumber 6 0 99) dusk).answer.refusal ≡ 0
  pub after : export_objects 3 8 0 (session (busy ++ StoreNumber 6 0 99 ∷ []) dusk) buffer ≡ complete 2 (fields 99)
  pub differs : export_objects 3 8 0 (session (busy ++ StoreNumber 6 0 99 ∷ []) dusk) buffer ≢ export_objects 3 8 0 dusk buffer

-- null stored in the link of the second row's first block: the first row is written, and nothing of the second
pub record ObjectCut : Type 0 where
  pub answered : (last_of busy (StoreReference 5 7 0) dusk).answer.refusal ≡ 0
  pub after :
      export_objects 3 8 0 (session (busy ++ StoreReference 5 7 0 ∷ []) dusk) buffer
      ≡ stopped 1 (Refused 3) ((5 ∷ 77 ∷ replicate 5 0) ++ (70 ∷ replicate 12 9))
