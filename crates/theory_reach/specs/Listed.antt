-- Blocks in a list.
--     In x l               x occurs in the list l
-- Assumes nothing.
use Rattle.std.specs.Prelude.{ℕ}
use mathlib.Core.List.{List, Memᴰ}

abbrev pub In : ℕ → List ℕ → Type 0
In x l = Memᴰ x l
