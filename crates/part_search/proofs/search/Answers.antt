-- `part_search::search` meets its contract: the search is what remains of it, after the blocks visited. Assumes nothing.
use mathlib.Core.Path.{◌∙◌}
use native.Mathlib.Omega.{arith}
use Rattle.machine.specs.Search.{visit}
use Rattle.machine.proofs.Parts.{part_is}
use Rattle.machine.proofs.Searching.{begun_searched, visit_searched}
use Rattle.part_search.specs.Lying.{so_far}
use Rattle.part_search.proofs.Steps.{found_block, lies_again, search_start, search_step, search_end}
use Rattle.part_search.proofs.search.Goals as goal

pub loop-i-init : goal.loop-i-init
loop-i-init c =
    let lies = lies_again (c.begin-k.auto.queue ∙ c.requires.3) c.begin-k.ensures (begun_searched _ _) in
    (lies, omega arith, search_start _ _ c.args.words.now c.args.bytes.now c.begin-k.ensures.1)

pub loop-i-preserved : goal.loop-i-preserved
loop-i-preserved c =
    let b = found_block c.loop-i.invariant.0 _ c.loop-i-test.true in
    let s = visit_searched _ _ _ _ b c.loop-i.invariant.0.searched in
    let lies = lies_again {f = visit c.args.m _ _ (so_far c.loop-i.k c.loop-i.queue c.loop-i.came)} (c.visit-k.auto.queue ∙ c.loop-i.invariant.0.places) c.visit-k.ensures s in
    (lies, omega arith, search_step _ c.args.words.now c.args.bytes.now _ _ c.loop-i.invariant.0 c.loop-i.invariant.2 c.loop-i-test.true (part_is _ _) c.visit-k.ensures.1)

pub returns : goal.returns
returns c = search_end _ c.args.words.now c.args.bytes.now _ _ c.loop-i.invariant.0 c.loop-i.invariant.2 (omega arith)
