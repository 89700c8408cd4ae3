use Prim.Native.Nat.{ℕ, ◌-◌, ◌≤◌}
use mathlib.Core.Path.{◌≡◌}
use Rattle.machine.specs.WellFormed.{Block}
use Rattle.machine.specs.Heap.{colouring}
use Rattle.machine.specs.Lists.{walk}
use Rattle.part_audit.specs.Hues.{has_colour}
use Rattle.part_audit.proofs.lists.walk.Given as goal

abbrev pub invariant-loop : goal.invariant-loop
invariant-loop g l =
    let h = g.B.Blocks.held l.blocks in
    let p = has_colour (colouring h) l.c in
    (l.counter ≤ l.n) × ((link : ℕ → ℕ) → ((b x : ℕ) → Block h.regs.blocks b → goal.N-post g l.next b x → x ≡ link b) → walk p link l.end l.n l.head ≡ walk p link l.end (l.n - l.counter) l.a)
