-- `part_mark::grey_all` meets its contract: what is greyed is what remains to be greyed. Assumes nothing.
use mathlib.Core.Path.{refl, sym, ◌∙◌}
use native.Mathlib.Omega.{arith}
use Rattle.machine.proofs.Blocks.{block_as}
use Rattle.machine.proofs.LowestBit.{lowest_within, lowest_sub, lowest_less}
use Rattle.machine.proofs.Marking.{grey_on, grey_end, named_here, named_on}
use borrow.Author.Rules.{rules}
use Rattle.part_mark.proofs.grey_all.Goals as goal

pub loop-rest-init : goal.loop-rest-init
loop-rest-init c = (c.requires.0, refl, c.requires.2, λ m e. refl)

pub overflow_cast-t : goal.overflow_cast-t
overflow_cast-t c =
    let l = lowest_within _ _ c.loop-rest.invariant.0 c.loop-rest-test.true refl in search rules

pub offset_bounds-part-t : goal.offset_bounds-part-t
offset_bounds-part-t c =
    let l = lowest_within _ _ c.loop-rest.invariant.0 c.loop-rest-test.true refl in search rules

pub bounds-part-t : goal.bounds-part-t
bounds-part-t c =
    let l = lowest_within _ _ c.loop-rest.invariant.0 c.loop-rest-test.true refl in search rules

pub grey_white-g-requires : goal.grey_white-g-requires
grey_white-g-requires c =
    λ n. block_as c.loop-rest.invariant.1 (named_here c.args.part.now _ _ c.loop-rest.invariant.0 c.loop-rest-test.true refl _ c.loop-rest.invariant.2 n)

pub overflow_shl-rest : goal.overflow_shl-rest
overflow_shl-rest c =
    let l = lowest_within _ _ c.loop-rest.invariant.0 c.loop-rest-test.true refl in omega arith

pub overflow_sub-rest : goal.overflow_sub-rest
overflow_sub-rest c = lowest_sub _ _ c.loop-rest.invariant.0 c.loop-rest-test.true refl

pub loop-rest-smaller : goal.loop-rest-smaller
loop-rest-smaller c = lowest_less _ _ c.loop-rest.invariant.0 c.loop-rest-test.true refl

pub loop-rest-preserved : goal.loop-rest-preserved
loop-rest-preserved c =
    let n = c.loop-rest-test.true in
    let f = c.loop-rest.invariant.0 in
    let l = lowest_less _ _ f n refl in (
      omega arith,
      c.grey_white-g.auto.colours ∙ c.loop-rest.invariant.1,
      named_on c.args.part.now _ _ f n refl _ c.loop-rest.invariant.2,
      λ m e. c.loop-rest.invariant.3 m e ∙ grey_on c.args.part.now _ _ f n refl _ (c.grey_white-g.ensures m (c.loop-rest.invariant.1 ∙ e)),
    )

pub shape_of-colours : goal.shape_of-colours
shape_of-colours c = c.loop-rest.invariant.1

pub returns : goal.returns
returns c = λ m e. grey_end _ _ c.loop-rest-test.false _ ∙ sym (c.loop-rest.invariant.3 m e)
