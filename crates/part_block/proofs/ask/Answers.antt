-- `part_block::ask` meets its contract: only a block is free, and the state decides. Assumes nothing.
use mathlib.Core.Path.{sym, ap, refl}
use Rattle.machine.specs.declared.Regs.{Regs}
use Rattle.machine.specs.Block.{byte_of, eight_words}
use Rattle.machine.specs.Heap.{colouring}
use Rattle.machine.proofs.Passing.{block_as, free_block, free_state, free_state_lem}
use Rattle.part_block.proofs.ask.Goals as goal

pub ask_in-requires : goal.ask_in-requires
ask_in-requires g c =
    let h = g.B.Blocks.held c.args.blocks.now in
    λ e. free_block (colouring h) c.args.b (free_state_lem h.regs (colouring h) _ c.state_of.ensures (ap free_state e))

pub returns : goal.returns
returns g c =
    let h = g.B.Blocks.held c.args.blocks.now in
    let told = sym c.registers-r.ensures.told in
    let m = ap (λ (r : Regs). r.mark) told in
    let p = ap (λ (r : Regs). r.phase) told in
    let q = ap (λ (r : Regs). r.position) told in
    block_as h c.args.b _ _ _ c.state_of.ensures refl (c.ask_in.ensures h.regs (colouring h) (eight_words h.words c.args.b) (byte_of h.bytes c.args.b) p q m c.state_of.ensures (λ t e. e))
