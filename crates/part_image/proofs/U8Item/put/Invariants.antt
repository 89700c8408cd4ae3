use mathlib.Core.Path.{◌≡◌}
use lib.ListN.{take}
use Rattle.part_image.specs.Placing.{placed}
use Rattle.part_image.proofs.U8Item.put.Given as goal

abbrev pub invariant-loop-k : goal.invariant-loop-k
invariant-loop-k l = l.out ≡ placed 0 (take l.k l.xs) l.initial.out
