-- `part_path::write` meets its contract: what the buffer is going to be stays the same, pair by pair. Assumes nothing.
use mathlib.Core.Path.{refl, sym, ◌∙◌}
use native.Mathlib.Omega.{arith}
use lib.ListN.{length-set}
use Rattle.part_path.proofs.Walks.{path_length, hops_left, hops_next, write_start, write_step, write_end}
use Rattle.part_path.proofs.write.Goals as goal

pub loop-pair-init : goal.loop-pair-init
loop-pair-init c =
    let n_is = c.requires.1 ∙ path_length c.args.came.now _ _ in
    (c.requires.0.block, hops_left c.args.came.now _ _ _ n_is, refl, refl)

pub loop-pair-preserved : goal.loop-pair-preserved
loop-pair-preserved c =
    let (b, h, size, e) = c.loop-pair.invariant in
    let (more, next) = hops_next c.args.came.now _ _ _ _ (omega arith) (omega arith) h in (
      rw c.way_to-way.ensures (c.requires.0.ways _ more),
      rw c.way_to-way.ensures next,
      simp length-set size,
      write_step c.args.came.now _ _ _ _ (omega arith) (omega arith) c.way_to-way.ensures e,
    )

pub returns : goal.returns
returns c =
    write_end c.args.came.now _ _ _ (omega arith) c.loop-pair.invariant.3 ∙ sym (write_start c.args.came.now _ _ _ _ (c.requires.1 ∙ path_length c.args.came.now _ _))
