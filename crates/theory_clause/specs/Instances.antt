-- Instances: a list of two rows that lasts through a session, and sessions that break the promise's premises.
--     night                a fresh heap of 6 blocks on which block 2 is the root and its word 1 holds a list of two rows, 3 and 4
--     buffer, rows         a buffer of 20 words, and what an export of the list makes of it
--     busy                 a session with garbage in the root's word 7 and units through whole cycles
--     Lasts                the premises are met by it, blocks are freed and taken again, and the export is the same
--     refused, refusals, Unmoved     a session of calls that would touch the list or the root and are refused: the list lasts through it too
--     Touched              a session that stores into a row: the export is complete, with another row
--     Dropped              a session that lets go of the list: the export says that it is not complete
-- Assumes nothing.
use Rattle.std.specs.Prelude.{ℕ, ◌≡◌, ◌≢◌, List, [], ◌∷◌, ◌++◌, replicate}
use Rattle.machine.specs.Heap.{Heap}
use Rattle.machine.specs.Format.{formatted}
use Rattle.machine.specs.WellFormed.{Names, WellFormed}
use Rattle.machine.specs.Session.{Call, does, session, last_of}
use Rattle.machine.specs.Session.Call.{Format, StoreNumber, StoreReference, SetRoot, Allocate, Work, Load}
use Rattle.theory_promises.specs.Demand2.{Untouched}
use Rattle.part_rows.specs.declared.Reason.TheVariants.{Refused}
use Rattle.part_rows.specs.Rows.{complete, stopped}
use Rattle.part_rows.specs.Lists.{Listed}
use Rattle.call_export.specs.Export.{block_rows, export}
use Rattle.theory_clause.specs.Lasting.{one_block, SameList, Leaves}

-- block 2 at the root; block 3 in its word 1, with 77 in word 1; block 4 in word 0 of 3, with 88 in word 1 and no next
abbrev pub night : Heap
night =
    session
    (Allocate 0 0 ∷ Allocate 2 1 ∷ StoreNumber 3 1 77 ∷ Allocate 3 0 ∷ StoreNumber 4 1 88 ∷ StoreReference 4 0 0 ∷ [])
    (formatted 6 1)

abbrev pub buffer : List ℕ
buffer = replicate 20 9

abbrev pub rows : ℕ → List ℕ
rows last = (4 ∷ 77 ∷ replicate 6 0) ++ ((0 ∷ last ∷ replicate 6 0) ++ replicate 4 9)

abbrev pub busy : List Call
busy = Allocate 2 7 ∷ Allocate 2 7 ∷ Work 30 ∷ Allocate 2 7 ∷ Allocate 2 7 ∷ Work 30 ∷ Allocate 2 7 ∷ []

pub record Lasts : Type 0 where
  pub formed : WellFormed night
  pub listed : Listed (block_rows 0 night) 3 (3 ∷ 4 ∷ [])
  pub held : Names night night.regs.root 3
  pub rooted : night.regs.root ≢ 0
  pub untouched : Untouched busy night (3 ∷ 4 ∷ [])
  pub left : Leaves busy night night.regs.root held.word
  -- three blocks were free, and the session's fifth allocation is given one
  pub free : night.regs.count ≡ 3
  pub given : (last_of (Allocate 2 7 ∷ Allocate 2 7 ∷ Work 30 ∷ Allocate 2 7 ∷ Allocate 2 7 ∷ Work 30 ∷ []) (Allocate 2 7) night).answer.refusal ≡ 0
  pub cycles : (night.regs.cycle ≡ 1) × ((session busy night).regs.cycle ≡ 7)
  pub before : export 3 0 night buffer ≡ complete 2 (rows 88)
  pub lasts : SameList (one_block 0) night (session busy night) 3 (3 ∷ 4 ∷ [])
  pub after : export 3 0 (session busy night) buffer ≡ complete 2 (rows 88)

-- three blocks more, so that none is free; then an allocation held by the first row, which does its unit and is refused; a store into the
-- first row whose target is no block; a root that is no block; a Format of no blocks; a Load of no bytes; and units through whole
-- cycles
abbrev pub refused : List Call
refused = Allocate 2 4 ∷ Allocate 2 5 ∷ Allocate 2 6 ∷ Allocate 3 0 ∷ StoreReference 3 0 9 ∷ SetRoot 9 ∷ Format 0 1 ∷ Load [] ∷ Work 30 ∷ []

-- the refusal numbers that calls answer, one after another
unfoldable pub refusals : List Call → Heap → List ℕ
refusals [] h = []
refusals (c ∷ cs) h = (does c h).answer.refusal ∷ refusals cs (does c h).heap

pub record Unmoved : Type 0 where
  pub answers : refusals refused night ≡ 0 ∷ 0 ∷ 0 ∷ 7 ∷ 4 ∷ 4 ∷ 1 ∷ 10 ∷ 0 ∷ []
  pub untouched : Untouched refused night (3 ∷ 4 ∷ [])
  pub left : Leaves refused night night.regs.root 1
  pub lasts : SameList (one_block 0) night (session refused night) 3 (3 ∷ 4 ∷ [])

-- 99 stored in the second row
pub record Touched : Type 0 where
  pub answered : (last_of busy (StoreNumber 4 1 99) night).answer.refusal ≡ 0
  pub after : export 3 0 (session (busy ++ StoreNumber 4 1 99 ∷ []) night) buffer ≡ complete 2 (rows 99)
  pub differs : export 3 0 (session (busy ++ StoreNumber 4 1 99 ∷ []) night) buffer ≢ export 3 0 night buffer

-- 0 stored in the word that held the list, and two cycles
pub record Dropped : Type 0 where
  pub answered : (last_of busy (StoreReference 2 1 0) night).answer.refusal ≡ 0
  pub after : export 3 0 (session (busy ++ StoreReference 2 1 0 ∷ Work 30 ∷ []) night) buffer ≡ stopped 0 (Refused 5) buffer
