-- `part_image::U8Item::put` meets its contract: what was passed is placed. Assumes nothing.
use native.Mathlib.Omega.{arith}
use Rattle.part_image.proofs.Placing.{placed_none, bytes_on, bytes_all}
use Rattle.part_image.proofs.U8Item.put.Goals as goal

pub loop-k-init : goal.loop-k-init
loop-k-init c = placed_none _ _

pub loop-k-preserved : goal.loop-k-preserved
loop-k-preserved c = bytes_on c.loop-k.k c.args.xs.now c.args.out.now (omega arith) (omega arith) c.loop-k.invariant

pub returns : goal.returns
returns c = bytes_all c.loop-k.k c.args.xs.now c.args.out.now (omega arith) c.loop-k.invariant
