-- `part_colours::seen` meets its contract: a law of what is seen for each colour word. Assumes nothing.
use Prim.Native.Nat.{ℕ}
use mathlib.Core.Path.{ap}
use lib.ListN.{get_or}
use borrow.Author.Tests.{eq-eqb, ne_eqb}
use Rattle.machine.proofs.Blocks.{wrapped_block, wrapped_none}
use Rattle.machine.proofs.Seeing.{seen_white, seen_black, seen_grey, seen_damage}
use Rattle.machine.specs.Colouring.{coloured}
use Rattle.machine.specs.Seen.{seen_colour, seen}
use Rattle.machine.proofs.Colours.{colour_none}
use Rattle.part_colours.proofs.seen.Goals as goal

pub returns-then-word-eq-WHITE : goal.returns-then-word-eq-WHITE
returns-then-word-eq-WHITE c =
    let (o, b, at) = wrapped_block _ _ _ c.ranges.b.fits c.requires.0 c.less_two-i.ensures c.if-i-m.true in
    λ g. seen_white (coloured c.args.m g c.args.colours.now) _ o b (ap (λ (x : ℕ). get_or c.args.colours.now x 0) at) c.if-word-eq-WHITE.true

pub returns-then-word : goal.returns-then-word
returns-then-word c =
    let (o, b, at) = wrapped_block _ _ _ c.ranges.b.fits c.requires.0 c.less_two-i.ensures c.if-i-m.true in
    λ g. seen_black (coloured c.args.m g c.args.colours.now) _ o b (ap (λ (x : ℕ). get_or c.args.colours.now x 0) at) c.if-word.true

pub returns-then-word-m : goal.returns-then-word-m
returns-then-word-m c =
    let (o, b, at) = wrapped_block _ _ _ c.ranges.b.fits c.requires.0 c.less_two-i.ensures c.if-i-m.true in
    λ g. seen_grey (coloured c.args.m g c.args.colours.now) _ o b (ap (λ (x : ℕ). get_or c.args.colours.now x 0) at) c.if-word-eq-WHITE.false c.if-word.false c.requires.0 c.if-word-m.true

pub returns-then-i-m : goal.returns-then-i-m
returns-then-i-m c =
    let (o, b, at) = wrapped_block _ _ _ c.ranges.b.fits c.requires.0 c.less_two-i.ensures c.if-i-m.true in
    λ g. seen_damage (coloured c.args.m g c.args.colours.now) _ o b (ap (λ (x : ℕ). get_or c.args.colours.now x 0) at) c.if-word-eq-WHITE.false c.if-word.false c.if-word-m.false

pub returns-then-b-eq0 : goal.returns-then-b-eq0
unfolding seen
returns-then-b-eq0 c = λ g. simp (eq-eqb _ _ c.if-b-eq0.true)

pub returns : goal.returns
unfolding seen
returns c =
    let no = wrapped_none _ _ _ c.ranges.b.fits c.requires.0 c.less_two-i.ensures c.if-i-m.false in
    λ g. simp (ne_eqb _ _ c.if-b-eq0.false) (ap seen_colour (colour_none _ _ no))
