-- Sessions: lists of calls.
--     Call                 a call with its arguments
--     does c h             what the call c gives on the heap h: answer and heap afterwards
--     session cs h         the heap after the calls cs, from the heap h
--     last_of cs c h        what c gives after the calls cs
-- Look's answer is a part of the word buffer, and no number: here its value is the length of the part. Save's output is no part of the
-- heap: here it is an argument, and what Save leaves in it is `save`'s (Save.antt).
-- Assumes nothing.
use Rattle.std.specs.Prelude.{ℕ, List, [], ◌∷◌, length}
use Rattle.machine.specs.Heap.{Heap}
use Rattle.machine.specs.Answers.{Given, ReadGiven, answering, done}
use Rattle.machine.specs.Format.{format}
use Rattle.machine.specs.Read.{read, look}
use Rattle.machine.specs.Store.{store_number, store_reference, set_root}
use Rattle.machine.specs.Allocate.{allocate}
use Rattle.machine.specs.Chain.{allocate_chain}
use Rattle.machine.specs.Field.{read_field, store_field_number, store_field_reference}
use Rattle.machine.specs.Work.{work}
use Rattle.machine.specs.Audit.{audit}
use Rattle.machine.specs.Tell.{tell_state}
use Rattle.machine.specs.Save.{save}
use Rattle.machine.specs.Load.{load}

pub data Call : Type 0 where
  Format : ℕ → ℕ → Call
  Read : ℕ → ℕ → Call
  Look : ℕ → Call
  StoreNumber : ℕ → ℕ → ℕ → Call
  StoreReference : ℕ → ℕ → ℕ → Call
  SetRoot : ℕ → Call
  Allocate : ℕ → ℕ → Call
  AllocateChain : ℕ → ℕ → ℕ → Call
  ReadField : ℕ → ℕ → Call
  StoreFieldNumber : ℕ → ℕ → ℕ → Call
  StoreFieldReference : ℕ → ℕ → ℕ → Call
  Work : ℕ → Call
  Audit : Call
  State : ℕ → Call
  Save : List ℕ → Call
  Load : List ℕ → Call

abbrev pub plainly : ReadGiven → Given
plainly g = answering g.answer.refusal g.answer.value g.answer.units g.heap

unfoldable pub does : Call → Heap → Given
does (Format m u) h = format m u h
does (Read b w) h = plainly (read b w h)
does (Look b) h = done (length (look b h)) h
does (StoreNumber b w v) h = store_number b w v h
does (StoreReference b w t) h = store_reference b w t h
does (SetRoot t) h = set_root t h
does (Allocate b w) h = allocate b w h
does (AllocateChain b w n) h = allocate_chain b w n h
does (ReadField b k) h = plainly (read_field b k h)
does (StoreFieldNumber b k v) h = store_field_number b k v h
does (StoreFieldReference b k t) h = store_field_reference b k t h
does (Work n) h = work n h
does Audit h = audit h
does (State b) h = tell_state b h
does (Save out) h = record { answer = (save out h).answer; heap = h }
does (Load i) h = load i h

unfoldable pub session : List Call → Heap → Heap
session [] h = h
session (c ∷ cs) h = session cs (does c h).heap

unfoldable pub last_of : List Call → Call → Heap → Given
last_of cs c h = does c (session cs h)
