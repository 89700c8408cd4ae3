use Prim.Native.Nat.{◌+◌, ◌-◌, ◌≤◌}
use mathlib.Core.Path.{◌≡◌}
use Rattle.machine.specs.Heap.{colouring}
use Rattle.machine.specs.Lists.{count_from}
use Rattle.part_audit.specs.Hues.{has_colour}
use Rattle.part_audit.proofs.lists.count.Given as goal

abbrev pub invariant-loop-b : goal.invariant-loop-b
invariant-loop-b g l =
    let h = g.B.Blocks.held l.blocks in
    let p = has_colour (colouring h) l.c in
    (l.n ≤ l.b) × (l.b-end ≡ h.regs.blocks + 2) × (count_from p h.regs.blocks 2 ≡ l.n + count_from p (l.b-end - l.b) l.b)
