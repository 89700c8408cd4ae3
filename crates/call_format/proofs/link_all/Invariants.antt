use Prim.Native.Nat.{◌+◌, ◌-◌}
use mathlib.Core.Path.{◌≡◌}
use mathlib.Core.List.{◌++◌}
use lib.ListN.{take}
use Rattle.machine.specs.Block.{base}
use Rattle.machine.specs.Format.{free_list}
use Rattle.call_format.proofs.link_all.Given as goal

abbrev pub invariant-loop-b : goal.invariant-loop-b
invariant-loop-b l = free_list l.m 2 ≡ take (base l.b) l.words ++ free_list (l.m + 2 - l.b) l.b
