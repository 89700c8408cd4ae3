-- Work.
--     work n h             the call
-- Assumes nothing.
use Rattle.std.specs.Prelude.{ℕ, leb, if◌then◌else◌}
use Rattle.machine.specs.Tests.{◌▷◌}
use Rattle.machine.specs.Heap.{Heap}
use Rattle.machine.specs.Entry.{entry}
use Rattle.machine.specs.Answers.{Given, answering, unless}
use Rattle.machine.specs.Units.{RunEnd, run}

-- 9: "Work: n above 65,535"
unfoldable pub count_refusal : ℕ → ℕ
count_refusal n = if leb n 65535 then 0 else 9

abbrev pub worked : RunEnd → Given
worked e = answering e.refusal 0 e.units e.heap

-- "Work (n, 0 to 65,535): n units."
unfoldable pub work : ℕ → Heap → Given
work n h = unless (entry h ▷ count_refusal n) h (worked (run n 0 h))
