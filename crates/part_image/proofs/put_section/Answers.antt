-- `part_image::put_section` meets its contract: the items behind their count. Assumes nothing.
use Prim.Native.Nat.{◌+◌}
use native.Mathlib.Omega.{arith}
use Rattle.part_image.proofs.Placing.{section, rest_placed}
use Rattle.part_image.proofs.put_section.Goals as goal

pub returns : goal.returns
returns g c =
    section c.args.at (g.T.Item.bytes_of c.args.xs.now) c.args.out.now _ (omega arith) c.put_four.ensures
    (rw c.put.ensures (rest_placed (c.args.at + 4) (g.T.Item.bytes_of c.args.xs.now) c.put_four.new.out))
