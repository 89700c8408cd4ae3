-- A block that isn't there for a call, as a refusal number.
--     refused_as n t       the number of such a test: n for a block that is gone, 8 outside the layout, 0 where it is there
-- Assumes nothing.
use Rattle.std.specs.Prelude.{ℕ, Result, Ok, Err}
use Rattle.part_checks.specs.declared.Absent.{Absent}
use Rattle.part_checks.specs.declared.Absent.TheVariants.{Gone, Outside}

-- 8: "an illegal colour word on the block"; 5 or 6 where it is free or doomed
abbrev pub refused_as : ℕ → Result (Unit {0}) Absent → ℕ
refused_as n (Ok x) = 0
refused_as n (Err Gone) = n
refused_as n (Err Outside) = 8
