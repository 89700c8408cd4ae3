-- What a walk finds.
--     Finds x n b          the answer x is refused by n, or it is the block b
-- Assumes nothing.
use Rattle.std.specs.Prelude.{ℕ, ◌≡◌, Result, Ok, Err}
use Rattle.machine.specs.declared.Refusal.{Refusal}
use Rattle.machine.specs.Refusal.{refused_by}

pub record Finds (x : Result ℕ Refusal) (n b : ℕ) : Type 0 where
  pub refused : refused_by x ≡ n
  pub found : (y : ℕ) → x ≡ Ok y → y ≡ b
