use Prim.Native.Nat.{◌-◌, ◌≤◌}
use mathlib.Core.Path.{◌≡◌}
use Rattle.machine.specs.Search.{onward}
use Rattle.part_search.specs.Lying.{so_far, Lies, named_by}
use Rattle.part_search.proofs.Steps.{whole}
use Rattle.part_search.proofs.search.Given as goal

abbrev pub invariant-loop-i : goal.invariant-loop-i
invariant-loop-i l =
    Lies l.m l.k l.queue l.came × (l.i ≤ l.m) × (whole l.m l.root l.words l.bytes ≡ onward (l.m - l.i) l.i l.m (named_by l.words l.bytes) (so_far l.k l.queue l.came))

abbrev pub decreases-loop-i : goal.decreases-loop-i
decreases-loop-i l = l.m - l.i
