-- Bytes written into others.
--     placed at xs out     out with xs from the place at on, where it is long enough
-- Assumes nothing.
use Rattle.std.specs.Prelude.{ℕ, ◌+◌, List, ◌++◌, length, take, drop}

unfoldable pub placed : ℕ → List ℕ → List ℕ → List ℕ
placed at xs out = take at out ++ (xs ++ drop (at + length xs) out)
