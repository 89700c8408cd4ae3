-- `part_audit::lists::frees_pass` meets its contract. Assumes nothing.
use mathlib.Core.Path.{◌∙◌}
use borrow.Author.Tests.{ne_eqb}
use Rattle.machine.specs.Block.{word_of}
use Rattle.machine.specs.Heap.{colouring}
use Rattle.machine.proofs.Passing.{frees_no, frees_as}
use Rattle.part_audit.proofs.lists.frees_pass.Goals as goal

pub returns-then-count-r : goal.returns-then-count-r
returns-then-count-r g c =
    let h = g.B.Blocks.held c.args.blocks.now in
    let told = c.registers-r.ensures.told in
    let w = rw told at (c.walk.ensures (λ b. word_of h.words b 0) (λ b x k p. p)) in
    frees_as h.regs h.words (colouring h) _ c.count.ensures _ (rw told at c.if-count-r.true) w

pub returns-else-count-r : goal.returns-else-count-r
returns-else-count-r g c =
    let h = g.B.Blocks.held c.args.blocks.now in
    let n = rw c.registers-r.ensures.told at c.if-count-r.false in
    ne_eqb _ _ c.if-count-r.false ∙ frees_no h.regs h.words (colouring h) _ c.count.ensures n
