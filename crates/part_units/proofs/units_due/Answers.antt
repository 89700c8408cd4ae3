-- `part_units::units_due` meets its contract. Assumes nothing.
use Rattle.std.proofs.Common.{ℕ, ap, ◌*◌, ◌∙◌, arith}
use Rattle.machine.proofs.Rounding.{round_most, ceil_rounds}
use Rattle.machine.proofs.Allocating.{due_pace, due_ceil}
use Rattle.part_units.proofs.units_due.Goals as goal

pub returns-then-r-ne0 : goal.returns-then-r-ne0
returns-then-r-ne0 c = due_pace _ c.if-r-ne0.true

pub overflow_mul-result : goal.overflow_mul-result
overflow_mul-result c =
    let m = c.max.ensures in
    let d = c.div_ceil.ensures in
    omega (arith, ceil_rounds c.args.r.blocks c.max.result (omega arith), round_most c.args.r.blocks c.max.result (omega arith))

pub returns : goal.returns
returns c = ap (λ (x : ℕ). 2 * x) c.div_ceil.ensures ∙ due_ceil _ c.if-r-ne0.false _ c.max.ensures
