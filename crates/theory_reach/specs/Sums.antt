-- Counting with weights: the sum of a number for each of n blocks, from block b on.
--     sum n b f            f b + f (b + 1) + .. , n of them
--     Within n b c         c is one of those n numbers
--     Block m b            b is one of the m blocks 2 to m + 1
--     total m f            the sum over those blocks
-- Assumes nothing.
use Rattle.std.specs.Prelude.{ℕ, zero, suc, ◌+◌, ◌≤◌, ◌<◌}

unfoldable pub sum : ℕ → ℕ → (ℕ → ℕ) → ℕ
sum zero b f = 0
sum (suc n) b f = f b + sum n (suc b) f

-- c is one of n numbers from b on
pub record Within (n b c : ℕ) : Type 0 where
  pub low : b ≤ c
  pub high : c < n + b

-- the blocks 2 to m + 1
pub record Block (m b : ℕ) : Type 0 where
  pub low : 2 ≤ b
  pub high : b ≤ m + 1

unfoldable pub total : ℕ → (ℕ → ℕ) → ℕ
total m f = sum m 2 f
