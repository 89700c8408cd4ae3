use mathlib.Core.Path.{◌≡◌}
use lib.ListN.{take}
use Rattle.part_copy.proofs.copy.Given as goal

abbrev pub invariant-loop-i : goal.invariant-loop-i
invariant-loop-i l = take l.i l.to ≡ take l.i l.from
