use Prim.Native.Nat.{◌-◌, ◌≤◌}
use mathlib.Core.Path.{◌≡◌}
use lib.ListN.{length}
use Rattle.machine.specs.Heap.{heap}
use Rattle.part_chain.proofs.Laying.{lay, Laid}
use Rattle.part_chain.proofs.serve_chain.Given as goal

abbrev pub invariant-loop : goal.invariant-loop
invariant-loop l =
    (l.counter ≤ l.n)
    × Laid (l.n - l.counter) (heap l.s l.words l.colours l.bytes)
    × (lay (l.n - 1) (heap l.initial.s l.initial.words l.initial.colours l.initial.bytes) ≡ lay (l.n - l.counter) (heap l.s l.words l.colours l.bytes))
    × (length l.words ≡ length l.initial.words)
    × (length l.colours ≡ length l.initial.colours)
    × (length l.bytes ≡ length l.initial.bytes)
