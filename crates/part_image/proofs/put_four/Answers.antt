-- `part_image::put_four` meets its contract. Assumes nothing.
use native.Mathlib.Omega.{arith}
use Prim.Native.Nat.{◌+◌, ◌-◌}
use mathlib.Core.Path.{◌≡◌, refl}
use Rattle.machine.specs.Image.{four}
use Rattle.part_image.proofs.Placing.{put_placed}
use Rattle.part_image.proofs.put_four.Goals as goal

pub returns : goal.returns
unfolding four
returns c =
    let e : c.args.at + 4 - c.args.at ≡ 4 = omega arith in
    rw (c.copy_from_slice.ensures.after, c.to_le_bytes.ensures, e) (put_placed c.args.at 4 (four c.args.n) c.args.out.now refl)
