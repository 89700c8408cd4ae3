use Prim.Native.Nat.{◌+◌, ◌-◌}
use mathlib.Core.Path.{◌≡◌}
use Rattle.machine.specs.Lists.{all_from}
use Rattle.machine.specs.Audit.{block_passes}
use Rattle.part_audit.proofs.blocks_pass.Given as goal

abbrev pub invariant-loop-b : goal.invariant-loop-b
invariant-loop-b g l =
    let h = g.B.Blocks.held l.blocks in
    (l.b-end ≡ h.regs.blocks + 2) × (all_from (block_passes h) h.regs.blocks 2 ≡ all_from (block_passes h) (l.b-end - l.b) l.b)
