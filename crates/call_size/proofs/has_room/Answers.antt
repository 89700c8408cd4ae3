-- `call_size::has_room` meets its contract. Assumes nothing.
use native.Mathlib.Omega.{arith}
use Rattle.call_size.specs.Sizing.{enough}
use Rattle.call_size.proofs.Sizes.{few_in_a_cycle, no_pace, given_as, paced}
use Rattle.call_size.proofs.has_room.Goals as goal

pub overflow_mul-result : goal.overflow_mul-result
overflow_mul-result c =
    let e = given_as _ _ _ c.if-u-ne0.true c.most_in_a_cycle.ensures in
    omega (arith, e, few_in_a_cycle c.args.m c.args.u c.if-u-ne0.true)

pub overflow_add-result : goal.overflow_add-result
overflow_add-result c =
    let e = given_as _ _ _ c.if-u-ne0.true c.most_in_a_cycle.ensures in
    omega (arith, e, few_in_a_cycle c.args.m c.args.u c.if-u-ne0.true)

pub returns-then-u-ne0 : goal.returns-then-u-ne0
unfolding enough
returns-then-u-ne0 c =
    rw (c.from.ensures, c.from-then-u-ne0.ensures, given_as _ _ _ c.if-u-ne0.true c.most_in_a_cycle.ensures) (paced _ _ c.if-u-ne0.true)

pub returns-else-u-ne0 : goal.returns-else-u-ne0
unfolding enough
returns-else-u-ne0 c = no_pace _ _ c.if-u-ne0.false
