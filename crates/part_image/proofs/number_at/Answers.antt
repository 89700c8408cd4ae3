-- `part_image::number_at` meets its contract. Assumes nothing.
use native.Mathlib.Omega.{arith}
use Rattle.part_image.proofs.Placing.{number_placed}
use Rattle.part_image.proofs.number_at.Goals as goal

pub returns : goal.returns
returns c = omega (arith, c.from_le_bytes.ensures, number_placed c.args.at c.args.image.now)
