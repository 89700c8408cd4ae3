-- A refusal as document 01's number.
--     number r             the number of a refusal
--     refused_by t         the number that a test answers: 0 where it refuses nothing
-- Assumes nothing.
use Rattle.std.specs.Prelude.{ℕ, Result, Ok, Err}
use Rattle.machine.specs.declared.Refusal.{Refusal}
use Rattle.machine.specs.declared.Refusal.TheVariants.{Unfit, Illegal, NoPlace, NoTarget, Gone, TargetGone, NoRoom, Damage, TooManyUnits, BadHeap, BadLength}

-- "Refusal numbers, in the order tested"
abbrev pub number : Refusal → ℕ
number Unfit = 1
number Illegal = 2
number NoPlace = 3
number NoTarget = 4
number Gone = 5
number TargetGone = 6
number NoRoom = 7
number Damage = 8
number TooManyUnits = 9
number BadHeap = 10
number BadLength = 13

-- "a refusal number or 0"
abbrev pub refused_by : {A : Type 0} → Result A Refusal → ℕ
refused_by (Ok x) = 0
refused_by (Err r) = number r
