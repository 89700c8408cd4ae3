use mathlib.Core.Path.{◌≡◌}
use mathlib.Core.List.{◌++◌}
use lib.ListN.{drop}
use Rattle.machine.specs.Image.{numbers_from}
use Rattle.part_image.proofs.U32Item.get.Given as goal

abbrev pub invariant-loop-k : goal.invariant-loop-k
invariant-loop-k l = l.to ≡ numbers_from l.k l.image ++ drop l.k l.initial.to
