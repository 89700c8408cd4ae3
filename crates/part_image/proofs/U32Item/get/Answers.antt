-- `part_image::U32Item::get` meets its contract: what was passed is filled, the rest as it was. Assumes nothing.
use mathlib.Core.Path.{◌≡◌, refl}
use native.Mathlib.Omega.{arith}
use lib.ListN.{length}
use Rattle.machine.specs.Image.{numbers_from}
use Rattle.part_image.proofs.Getting.{fours_more, filled_all}
use Rattle.part_image.proofs.U32Item.get.Goals as goal

pub loop-k-init : goal.loop-k-init
unfolding numbers_from
loop-k-init c = refl

pub loop-k-preserved : goal.loop-k-preserved
loop-k-preserved c = fours_more c.loop-k.k c.args.image.now c.args.to.now (omega arith) c.number_at.ensures c.loop-k.invariant

pub returns : goal.returns
returns c =
    let to = c.args.to.now in
    let k : c.loop-k.k ≡ length to = omega arith in
    rw (← k) (filled_all c.loop-k.k to (omega arith) c.loop-k.invariant)
