-- `part_mark::marks` meets its contract: the whole is what remains of it, unit by unit. Assumes nothing.
use Prim.Native.Nat.{◌-◌}
use mathlib.Core.Path.{refl, ◌∙◌}
use mathlib.Core.Logic.{◌≢◌}
use native.Mathlib.Omega.{arith}
use Rattle.machine.proofs.Kept.{done_kept}
use Rattle.part_step.proofs.Going.{run_first, went_on, loop_on, loop_off, done_marking}
use Rattle.part_mark.proofs.marks.Goals as goal
use Rattle.part_mark.proofs.marks.Goals.{then-loop-left-test+else-s-ne-NO_GREY, else-loop-left-test}

pub loop-left-init : goal.loop-left-init
loop-left-init c = (omega arith, refl, c.requires.0, c.requires.1, λ e. c.requires.2, λ i. run_first _ i _ (omega arith))

pub mark_unit-requires : goal.mark_unit-requires
mark_unit-requires c = (c.loop-left.invariant.2, c.loop-left.invariant.3, c.if-s-ne-NO_GREY.true)

pub shape_of-colours-in_default : goal.shape_of-colours-in_default
shape_of-colours-in_default c = c.mark_unit.auto.colours ∙ c.loop-left.invariant.1

pub returns-in_default : goal.returns-in_default
returns-in_default c =
    loop_off _ _ c.loop-left.s _ c.loop-left.colours _ _ _ c.loop-left.invariant.5 _ _ _ c.mark_unit.ensures c.in_default.is (c.loop-left.left - 1) (omega arith) (omega arith)

pub loop-left-preserved : goal.loop-left-preserved
loop-left-preserved c = (
  omega arith,
  c.mark_unit.auto.colours ∙ c.loop-left.invariant.1,
  done_kept _ c.loop-left.invariant.2 _ _ _ _ _ _ c.mark_unit.ensures c.in-Ok.is,
  done_marking _ _ _ _ _ _ c.mark_unit.ensures c.in-Ok.is c.loop-left.invariant.3 c.if-s-ne-NO_GREY.true,
  λ e. absurd (omega arith),
  loop_on _ _ c.loop-left.s _ c.loop-left.colours _ _ _ c.loop-left.invariant.5 _ _ _ c.mark_unit.ensures _ c.in-Ok.is _ _ (omega arith) (omega arith),
)

pub shape_of-colours : goal.shape_of-colours
shape_of-colours c = c.loop-left.invariant.1

pub returns : goal.returns
returns c =
    let some : c.loop-left.left ≢ c.args.n = λ e. elim c.loop-left-test.branch [
      | then-loop-left-test+else-s-ne-NO_GREY w ↦ c.loop-left.invariant.4 e w.if-s-ne-NO_GREY.false
      | else-loop-left-test w ↦ absurd (omega arith)
    ] in
    went_on _ _ _ _ _ _ _ _ (omega arith) (omega arith) (omega arith) c.loop-left.invariant.2 c.loop-left.invariant.5
