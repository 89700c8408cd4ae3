-- `part_audit::passes` meets its contract: the four tests, each asked where those before it pass. Assumes nothing.
use mathlib.Core.Path.{sym, ◌∙◌}
use Rattle.machine.proofs.Tests.{so, clash}
use Rattle.machine.proofs.Entering.{entry_ready}
use Rattle.machine.proofs.Passing.{blocks_fail, layout_off, root_off, passes_as}
use Rattle.part_audit.proofs.passes.Goals as goal
use Rattle.part_audit.proofs.passes.Goals.{then-blocks_pass, else-blocks_pass, then-greys, else-greys}

pub returns-then-may_name : goal.returns-then-may_name
returns-then-may_name g c =
    let h = g.B.Blocks.held c.args.blocks.now in
    λ e. elim c.if-greys.branch [
      | then-greys w ↦ elim c.if-blocks_pass.branch [
        | then-blocks_pass v ↦
            let a = so c.blocks_pass.ensures v.if-blocks_pass.true in
            let l = so (v.greys.ensures (entry_ready h e) a) (sym v.value-is ∙ w.if-greys.true) in
            let n = rw c.registers-r.ensures.told at (so w.may_name.ensures (sym w.value-is ∙ c.if-may_name.true)) in
            passes_as h e l a _ n c.frees_pass.ensures
        | else-blocks_pass v ↦ clash w.if-greys.true (v.value-is ∙ v.if-blocks_pass.false)
      ]
      | else-greys w ↦ clash c.if-may_name.true (w.value-is ∙ w.if-greys.false)
    ]

pub returns-else-may_name : goal.returns-else-may_name
returns-else-may_name g c =
    let h = g.B.Blocks.held c.args.blocks.now in
    λ e. c.if-may_name.false ∙ elim c.if-blocks_pass.branch [
      | then-blocks_pass v ↦
          let a = so c.blocks_pass.ensures v.if-blocks_pass.true in
          let l = v.greys.ensures (entry_ready h e) a in
          elim c.if-greys.branch [
            | then-greys w ↦
                let n = rw c.registers-r.ensures.told at (so w.may_name.ensures (sym w.value-is ∙ c.if-may_name.false)) in
                root_off h e (so l (sym v.value-is ∙ w.if-greys.true)) a n
            | else-greys w ↦ layout_off h e (so l (sym v.value-is ∙ w.if-greys.false))
          ]
      | else-blocks_pass v ↦ blocks_fail h e (so c.blocks_pass.ensures v.if-blocks_pass.false)
    ]
