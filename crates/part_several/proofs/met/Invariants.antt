use Prim.Native.Nat.{ℕ, ◌-◌, ◌≤◌}
use mathlib.Core.Path.{◌≡◌}
use mathlib.Core.List.{List}
use Rattle.machine.specs.declared.Regs.{Regs}
use Rattle.machine.specs.Heap.{heap}
use Rattle.machine.specs.Several.{frees, amongst}
use Rattle.part_several.specs.Walk.{Within}
use Rattle.part_several.proofs.met.Given as goal

abbrev pub invariant-loop : goal.invariant-loop
invariant-loop l =
    (l.counter ≤ l.n) × Within l.words (l.n - l.counter) l.a × ((r : Regs) (cs bs : List ℕ) → amongst l.x (frees l.n l.head (heap r l.words cs bs)) ≡ amongst l.x (frees (l.n - l.counter) l.a (heap r l.words cs bs)))
