-- What every definition of the machine is written with, beside the library's `if t then a else b`: refusals in the order tested.
--     a ▷ b                 the refusal number a, or b where a refuses nothing
-- Assumes nothing.
use Rattle.std.specs.Prelude.{ℕ, eqb, if◌then◌else◌}

infixr 20 ◌▷◌
-- "Refusal numbers, in the order tested": 0 refuses nothing, and only then is the next test made
unfoldable pub ◌▷◌ : ℕ → ℕ → ℕ
a ▷ b = if eqb a 0 then b else a
