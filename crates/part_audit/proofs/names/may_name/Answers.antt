-- `part_audit::names::may_name` meets its contract. Assumes nothing.
use mathlib.Core.Path.{◌∙◌}
use Rattle.machine.specs.Heap.{colouring}
use Rattle.machine.proofs.Passing.{name_none, name_as}
use borrow.Author.Tests.{eq-eqb}
use Rattle.part_audit.proofs.names.may_name.Goals as goal

pub returns-then-x-eq0 : goal.returns-then-x-eq0
returns-then-x-eq0 g c =
    let h = g.B.Blocks.held c.args.blocks.now in
    eq-eqb _ _ c.if-x-eq0.true ∙ name_none h.regs (colouring h) c.args.strict _ c.if-x-eq0.true

pub returns-else-x-eq0 : goal.returns-else-x-eq0
returns-else-x-eq0 g c =
    let h = g.B.Blocks.held c.args.blocks.now in
    name_as h.regs (colouring h) _ _ _ _ c.if-x-eq0.false c.state_of.ensures c.may_be_named.ensures
