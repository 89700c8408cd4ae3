use Prim.Native.Nat.{◌<◌}
use mathlib.Core.Path.{◌≡◌}
use Rattle.machine.specs.Search.{named_in, visit}
use Rattle.part_search.specs.Lying.{so_far, Lies}
use Rattle.part_search.proofs.visit.Given as goal

abbrev pub invariant-loop-rest : goal.invariant-loop-rest
invariant-loop-rest l =
    (l.rest < 256) × Lies l.m l.k l.queue l.came × (visit l.m l.b (named_in l.part l.byte) (so_far l.n l.initial.queue l.initial.came) ≡ visit l.m l.b (named_in l.part l.rest) (so_far l.k l.queue l.came))

abbrev pub decreases-loop-rest : goal.decreases-loop-rest
decreases-loop-rest l = l.rest
