-- `part_image::U32Item::put` meets its contract: what was passed is placed. Assumes nothing.
use native.Mathlib.Omega.{arith}
use Rattle.machine.specs.Image.{fours_of}
use Rattle.part_image.proofs.Placing.{placed_none, fours_on, fours_all}
use Rattle.part_image.proofs.U32Item.put.Goals as goal

pub loop-k-init : goal.loop-k-init
unfolding fours_of
loop-k-init c = placed_none _ _

pub loop-k-preserved : goal.loop-k-preserved
loop-k-preserved c = fours_on c.loop-k.k c.args.xs.now c.args.out.now (omega arith) c.loop-k.invariant c.put_four.ensures

pub returns : goal.returns
returns c = fours_all c.loop-k.k c.args.xs.now c.args.out.now (omega arith) c.loop-k.invariant
