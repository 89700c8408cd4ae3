use Prim.Native.Nat.{◌-◌, ◌≤◌}
use Rattle.machine.specs.Heap.{heap}
use Rattle.machine.proofs.Fields.{OnWay}
use Rattle.part_field.proofs.walk.Given as goal

abbrev pub invariant-loop-followed : goal.invariant-loop-followed
invariant-loop-followed l =
    (l.followed ≤ l.links) × OnWay (heap l.r l.words l.colours l.bytes) l.links l.b (l.links - l.followed) l.at
