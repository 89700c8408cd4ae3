-- `part_image::U8Item::get` meets its contract: what was passed is filled, the rest as it was. Assumes nothing.
use mathlib.Core.Path.{◌≡◌, refl}
use native.Mathlib.Omega.{arith}
use lib.ListN.{length}
use Rattle.part_image.proofs.Getting.{bytes_more, filled_all}
use Rattle.part_image.proofs.U8Item.get.Goals as goal

pub loop-k-init : goal.loop-k-init
loop-k-init c = refl

pub loop-k-preserved : goal.loop-k-preserved
loop-k-preserved c = bytes_more c.loop-k.k c.args.image.now c.args.to.now (omega arith) (omega arith) c.loop-k.invariant

pub returns : goal.returns
returns c =
    let to = c.args.to.now in
    let k : c.loop-k.k ≡ length to = omega arith in
    rw (← k) (filled_all c.loop-k.k to (omega arith) c.loop-k.invariant)
