-- `part_path::pairs` meets its contract: the pairs passed, and those still to come, are the path's. Assumes nothing.
use mathlib.Core.Path.{◌≡◌, sym, ◌∙◌}
use lib.ListN.{length}
use native.Mathlib.Omega.{arith}
use Rattle.part_path.proofs.Walks.{path_length, hops_start, hops_more, hops_out, hops_end}
use Rattle.part_path.proofs.pairs.Goals as goal

pub loop-n-init : goal.loop-n-init
loop-n-init c = (c.requires.block, hops_start c.args.came.now _ _)

pub returns-then-way-le1 : goal.returns-then-way-le1
returns-then-way-le1 c =
    hops_end c.args.came.now _ _ _ c.loop-n.invariant.1 (omega (arith, c.way_to-way.ensures)) ∙ sym (path_length c.args.came.now _ _)

pub loop-n-preserved : goal.loop-n-preserved
loop-n-preserved c =
    let e = c.way_to-way.ensures in
    let more = c.if-way-le1.false in
    (rw e (c.requires.ways _ (omega arith)), rw e (hops_more c.args.came.now _ _ _ c.loop-n.invariant.1 c.loop-n-test.true (omega arith)))

pub returns : goal.returns
returns c =
    let came = c.args.came.now in
    let e : length came ≡ c.loop-n.n = omega arith in
    e ∙ hops_out came _ _ _ c.loop-n.invariant.1 (omega arith) ∙ sym (path_length came _ _)
