-- `part_mark::seen_all` meets its contract: what is to come, with what was gathered, is what was to come. Assumes nothing.
use mathlib.Core.Path.{refl, sym, ◌∙◌}
use native.Mathlib.Omega.{arith}
use Rattle.machine.specs.Colouring.{coloured}
use Rattle.machine.proofs.LowestBit.{lowest_within, lowest_sub, lowest_less}
use Rattle.part_mark.proofs.Whites.{come_first, come_settled, come_white, come_damaged, come_end}
use borrow.Author.Rules.{rules}
use Rattle.part_mark.proofs.seen_all.Goals as goal
use Rattle.part_mark.proofs.seen_all.Goals.{in-Settled, in-ToGrey}

pub loop-rest-init : goal.loop-rest-init
loop-rest-init c =
    let f = c.ranges.byte.fits in (f, omega arith, λ g. refl)

pub overflow_shl-bit : goal.overflow_shl-bit
overflow_shl-bit c =
    let l = lowest_within _ _ c.loop-rest.invariant.0 c.loop-rest-test.true refl in omega arith

pub overflow_cast-t : goal.overflow_cast-t
overflow_cast-t c =
    let l = lowest_within _ _ c.loop-rest.invariant.0 c.loop-rest-test.true refl in search rules

pub offset_bounds-part-t : goal.offset_bounds-part-t
offset_bounds-part-t c =
    let l = lowest_within _ _ c.loop-rest.invariant.0 c.loop-rest-test.true refl in search rules

pub bounds-part-t : goal.bounds-part-t
bounds-part-t c =
    let l = lowest_within _ _ c.loop-rest.invariant.0 c.loop-rest-test.true refl in search rules

pub seen-requires : goal.seen-requires
seen-requires c = (c.requires.0, c.requires.1)

pub overflow_add-white : goal.overflow_add-white
overflow_add-white c =
    let b = c.loop-rest.invariant.1 in
    let l = lowest_sub _ _ c.loop-rest.invariant.0 c.loop-rest-test.true refl in search rules

pub returns-in-Damaged : goal.returns-in-Damaged
returns-in-Damaged c =
    λ g. come_damaged (coloured c.args.m g c.args.colours.now) c.args.part.now _ _ c.loop-rest.invariant.0 c.loop-rest-test.true refl _ (c.seen.ensures g) c.loop-rest.white c.in-Damaged.is
    ∙ sym (come_first (coloured c.args.m g c.args.colours.now) c.args.part.now c.args.byte ∙ c.loop-rest.invariant.2 g)

pub overflow_sub-rest : goal.overflow_sub-rest
overflow_sub-rest c = lowest_sub _ _ c.loop-rest.invariant.0 c.loop-rest-test.true refl

pub loop-rest-smaller : goal.loop-rest-smaller
loop-rest-smaller c = lowest_less _ _ c.loop-rest.invariant.0 c.loop-rest-test.true refl

pub loop-rest-preserved : goal.loop-rest-preserved
loop-rest-preserved c =
    let b = c.loop-rest.invariant.1 in
    let n = c.loop-rest-test.true in
    let l = lowest_sub _ _ c.loop-rest.invariant.0 n refl in
    elim c.match-seen.branch [
      | in-Settled w ↦ rw w.white-is (omega arith, omega arith, λ g. c.loop-rest.invariant.2 g ∙ come_settled (coloured c.args.m g c.args.colours.now) c.args.part.now _ _ c.loop-rest.invariant.0 n refl _ (c.seen.ensures g) c.loop-rest.white w.in-Settled.is)
      | in-ToGrey w ↦ rw w.white-is (omega arith, omega arith, λ g. c.loop-rest.invariant.2 g ∙ come_white (coloured c.args.m g c.args.colours.now) c.args.part.now _ _ c.loop-rest.invariant.0 n refl _ (c.seen.ensures g) c.loop-rest.white w.in-ToGrey.is)
    ]

pub returns : goal.returns
returns c =
    λ g. come_end (coloured c.args.m g c.args.colours.now) c.args.part.now _ _ c.loop-rest-test.false ∙ sym (come_first (coloured c.args.m g c.args.colours.now) c.args.part.now c.args.byte ∙ c.loop-rest.invariant.2 g)
