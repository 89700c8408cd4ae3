-- What a path is read off.
--     Traced came x        x is a block, among at most 16,384, and every block was come to from a block
-- Assumes nothing.
use Rattle.std.specs.Prelude.{ℕ, ◌≤◌, List, length}
use Rattle.machine.specs.WellFormed.{Block}
use Rattle.machine.specs.Searched.{Ways}

pub record Traced (came : List ℕ) (x : ℕ) : Type 0 where
  pub most : length came ≤ 16384
  pub ways : Ways (length came) came
  pub block : Block (length came) x
