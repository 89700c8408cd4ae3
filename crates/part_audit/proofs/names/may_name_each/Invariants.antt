use Prim.Native.Nat.{ℕ, ◌<◌, ◌≤◌}
use mathlib.Core.Path.{◌≡◌}
use mathlib.Core.List.{List}
use lib.ListN.{get_or}
use Rattle.machine.specs.Block.{references}
use Rattle.machine.specs.Heap.{colouring}
use Rattle.machine.specs.Audit.{may_name_all}
use Rattle.part_audit.proofs.names.may_name_each.Given as goal

abbrev pub invariant-loop-rest : goal.invariant-loop-rest
invariant-loop-rest g l =
    let h = g.B.Blocks.held l.blocks in
    (l.rest < 256)
    × ((part : List ℕ) → ((w x : ℕ) → w ≤ 7 → goal.W-post g l.word w x → x ≡ get_or part w 0)
    → may_name_all h.regs (colouring h) l.strict (references part l.byte) ≡ may_name_all h.regs (colouring h) l.strict (references part l.rest))

abbrev pub decreases-loop-rest : goal.decreases-loop-rest
decreases-loop-rest g l = l.rest
