-- The heap that an export of objects is lent.
--     lent x               that heap
-- Assumes nothing.
use Rattle.machine.specs.Heap.{Heap, heap}
use Rattle.call_export_objects.specs.declared.Objects.{Objects}

abbrev pub lent : Objects → Heap
lent x = heap x.regs x.words.now x.colours.now x.bytes.now
