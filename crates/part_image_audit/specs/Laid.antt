-- Bytes laid out as the sections of an image behind its registers.
--     Laid m j             the counts and the length of the bytes j are those of m blocks, and m is at most 16,384
-- Assumes nothing.
use Rattle.std.specs.Prelude.{ℕ, ◌≤◌, ◌≡◌, true, List}
use Rattle.machine.specs.Frame.{blocks_framed}

pub record Laid (m : ℕ) (j : List ℕ) : Type 0 where
  pub whole : blocks_framed m j ≡ true
  pub most : m ≤ 16384
