-- A quotient rounded up.
--     rounded_up a d        a/d rounded up; d is 1 or more
-- Assumes nothing.
use Rattle.std.specs.Prelude.{ℕ, ◌+◌, ◌-◌, ◌/◌}

abbrev pub rounded_up : ℕ → ℕ → ℕ
rounded_up a d = (a + (d - 1)) / d
