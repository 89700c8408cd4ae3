-- `part_units::run` meets its contract: the whole run is what is left of it, stretch by stretch. Assumes nothing.
use Rattle.std.proofs.Common.{sym, refl, ◌∙◌, arith}
use Rattle.part_step.proofs.Going.{run_first, run_at, left_on, left_off, run_out}
use Rattle.part_units.proofs.run.Goals as goal

pub loop-left-init : goal.loop-left-init
loop-left-init c = (refl, refl, refl, omega arith, c.requires, run_first _ 0 _ (omega arith))

pub stretch-o-requires : goal.stretch-o-requires
stretch-o-requires c = (c.loop-left.invariant.4, omega arith)

pub overflow_sub-result : goal.overflow_sub-result
overflow_sub-result c = c.loop-left.invariant.3

pub overflow_add-result : goal.overflow_add-result
overflow_add-result c =
    let b = c.stretch-o.ensures.within in
    let l = c.loop-left.invariant.3 in
    omega (arith, c.ranges.n)

pub shape_of-words-in_default : goal.shape_of-words-in_default
shape_of-words-in_default c = c.stretch-o.auto.words ∙ c.loop-left.invariant.0

pub shape_of-colours-in_default : goal.shape_of-colours-in_default
shape_of-colours-in_default c = c.stretch-o.auto.colours ∙ c.loop-left.invariant.1

pub shape_of-bytes-in_default : goal.shape_of-bytes-in_default
shape_of-bytes-in_default c = c.stretch-o.auto.bytes ∙ c.loop-left.invariant.2

pub returns-in_default : goal.returns-in_default
returns-in_default c =
    rw c.in_default.is (sym (c.loop-left.invariant.5 ∙ c.stretch-o.ensures.whole _ ∙ left_off _ _ _ c.in_default.is))

pub overflow_sub-left : goal.overflow_sub-left
overflow_sub-left c = c.stretch-o.ensures.within

pub loop-left-smaller : goal.loop-left-smaller
loop-left-smaller c =
    let l = c.stretch-o.ensures.onward c.in-Ok.is in
    let b = c.stretch-o.ensures.within in
    omega arith

pub loop-left-preserved : goal.loop-left-preserved
loop-left-preserved c =
    let e = c.in-Ok.is in
    let b = c.stretch-o.ensures.within in
    let l = c.loop-left.invariant.3 in
    (c.stretch-o.auto.words ∙ c.loop-left.invariant.0, c.stretch-o.auto.colours ∙ c.loop-left.invariant.1, c.stretch-o.auto.bytes ∙ c.loop-left.invariant.2, omega arith, c.stretch-o.ensures.ready e, run_at _ _ _ _ (c.loop-left.invariant.5 ∙ c.stretch-o.ensures.whole _ ∙ left_on _ _ _ e) refl (omega arith))

pub shape_of-words : goal.shape_of-words
shape_of-words c = c.loop-left.invariant.0

pub shape_of-colours : goal.shape_of-colours
shape_of-colours c = c.loop-left.invariant.1

pub shape_of-bytes : goal.shape_of-bytes
shape_of-bytes c = c.loop-left.invariant.2

pub returns : goal.returns
returns c = sym (c.loop-left.invariant.5 ∙ run_out _ _ c.loop-left-test.false)
