-- `part_search::visit` meets its contract: the visit is what remains of it, after the words looked at. Assumes nothing.
use mathlib.Core.Path.{refl, sym, ◌∙◌}
use native.Mathlib.Omega.{arith}
use Rattle.machine.specs.Search.{meet}
use Rattle.machine.proofs.LowestBit.{lowest_within, lowest_sub, lowest_less}
use Rattle.machine.proofs.Searching.{visit_end, meet_searched}
use borrow.Author.Rules.{rules}
use Rattle.part_search.specs.Lying.{so_far}
use Rattle.part_search.proofs.Steps.{given, lies_again, visit_step}
use Rattle.part_search.proofs.visit.Goals as goal

pub loop-rest-init : goal.loop-rest-init
loop-rest-init c = (c.ranges.byte.fits, c.requires.3, refl)

pub bounds-part-t : goal.bounds-part-t
bounds-part-t c =
    let l = lowest_within _ _ c.loop-rest.invariant.0 c.loop-rest-test.true refl in search rules

pub meet-k-requires : goal.meet-k-requires
meet-k-requires c =
    (c.requires.0, c.requires.2, lowest_within _ _ c.loop-rest.invariant.0 c.loop-rest-test.true refl, c.loop-rest.invariant.1)

pub overflow_sub-rest : goal.overflow_sub-rest
overflow_sub-rest c = lowest_sub _ _ c.loop-rest.invariant.0 c.loop-rest-test.true refl

pub loop-rest-preserved : goal.loop-rest-preserved
loop-rest-preserved c =
    let f = c.loop-rest.invariant.0 in
    let n = c.loop-rest-test.true in
    let l = lowest_less _ _ f n refl in
    let lies = c.loop-rest.invariant.1 in (
      omega arith,
      lies_again {f = meet c.args.m c.args.b _ _ (so_far c.loop-rest.k c.loop-rest.queue c.loop-rest.came)} (c.meet-k.auto.queue ∙ lies.places) c.meet-k.ensures
          (meet_searched _ _ _ _ _ c.requires.2 (lowest_within _ _ f n refl) lies.searched),
      visit_step c.args.m c.args.b c.args.part.now _ _ f n refl _ c.loop-rest.invariant.2 c.meet-k.ensures.1,
    )

pub returns : goal.returns
returns c =
    given c.loop-rest.invariant.1 (sym (c.loop-rest.invariant.2 ∙ visit_end c.args.m c.args.b c.args.part.now _ _ c.loop-rest-test.false))
