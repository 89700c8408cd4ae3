-- What a line of text gives: the three numbers that it prints, and the heap afterwards.
--     performed c h        what the command c gives on the heap h
--     front m h, back m h s     the parts of the lent buffers that m blocks take, and the buffers with those parts back
--     within m f h         f on those parts
--     gives c h            what a line gives that asks for c, if for anything
--     line_gives text h     what a line gives
-- Assumes nothing.
use Rattle.std.specs.Prelude.{ℕ, ◌*◌, List, ◌++◌, take, drop, Option, Some, None}
use Rattle.machine.specs.Heap.{Heap, heap}
use Rattle.machine.specs.Format.{format}
use Rattle.machine.specs.Read.{read}
use Rattle.machine.specs.Store.{store_number, store_reference, set_root}
use Rattle.machine.specs.Allocate.{allocate}
use Rattle.machine.specs.Work.{work}
use Rattle.machine.specs.Audit.{audit}
use Rattle.text_commands.specs.declared.Command.{Command}
use Rattle.text_commands.specs.declared.Command.TheVariants.{Format, Read, StoreNumber, StoreReference, SetRoot, Allocate, Work, Audit}
use Rattle.text_commands.specs.Command.{command_of}
use Rattle.text_commands.specs.Saying.{Spoken, spoken, plainly, reading, blocks_of}

unfoldable pub performed : Command → Heap → Spoken
performed (Format m u) h = plainly (format m u h)
performed (Read b w) h = reading (read b w h)
performed (StoreNumber b w v) h = plainly (store_number b w v h)
performed (StoreReference b w t) h = plainly (store_reference b w t h)
performed (SetRoot t) h = plainly (set_root t h)
performed (Allocate b w) h = plainly (allocate b w h)
performed (Work n) h = plainly (work n h)
performed Audit h = plainly (audit h)

-- the calls want buffers of exactly 8M, M and M; where the lent ones are shorter, the parts are all that is there
unfoldable pub front : ℕ → Heap → Heap
front m h = heap h.regs (take (8 * m) h.words) (take m h.colours) (take m h.bytes)

unfoldable pub back : ℕ → Heap → Spoken → Spoken
back m h s =
    spoken s.first s.second s.third
    (heap
    s.heap.regs
    (s.heap.words ++ drop (8 * m) h.words)
    (s.heap.colours ++ drop m h.colours)
    (s.heap.bytes ++ drop m h.bytes))

abbrev pub within : ℕ → (Heap → Spoken) → Heap → Spoken
within m f h = back m h (f (front m h))

-- "a line that breaks this .. prints `99 0 0` and does nothing"
abbrev pub gives : Option Command → Heap → Spoken
gives (Some c) h = within (blocks_of c h.regs) (performed c) h
gives None h = spoken 99 0 0 h

unfoldable pub line_gives : List ℕ → Heap → Spoken
line_gives text h = gives (command_of text) h
