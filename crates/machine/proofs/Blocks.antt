-- Laws of block numbers.
--     is_block_block, block_is_block, below_is_block, above_is_block     the test is_block and the fact Block
--     within_is_block           the test is_block by one subtraction
--     wrapped_block, wrapped_none     the test is_block by one comparison, with b - 2 taken in 32 bits
--     block_within, block_as   a block number has its place in a buffer of as many entries
-- Assumes nothing.
use Prim.Native.Nat.{ℕ, ◌+◌, ◌-◌, ◌%◌, ◌<◌, ◌≤◌}
use mathlib.Core.Path.{◌≡◌, sym, ◌∙◌}
use mathlib.Core.Logic.{◌≢◌}
use mathlib.Core.Bool.{true, false}
use native.Mathlib.Omega.{arith}
use lib.Dec.{leb, ltb}
use borrow.Author.Tests.{leb-true, leb-false, le-leb, lt-leb, ltb-true, ltb-false}
use Rattle.machine.specs.Block.{is_block}
use Rattle.machine.specs.WellFormed.{Block}
use Rattle.machine.proofs.Tests.{both_true, both, by_test}

pub is_block_block : (m b : ℕ) → is_block m b ≡ true → Block m b
unfolding is_block
is_block_block m b e =
    let (l, g) = both_true (leb 2 b) (leb b (m + 1)) e in
    record { low = leb-true 2 b l; high = leb-true b (m + 1) g }

pub block_is_block : (m b : ℕ) → Block m b → is_block m b ≡ true
unfolding is_block
block_is_block m b l = both (le-leb 2 b l.low) (le-leb b (m + 1) l.high)

pub below_is_block : (m b : ℕ) → b < 2 → is_block m b ≡ false
unfolding is_block
below_is_block m b l = simp (lt-leb 2 b l)

pub above_is_block : (m b : ℕ) → 2 ≤ b → m + 1 < b → is_block m b ≡ false
unfolding is_block
above_is_block m b g l = simp (le-leb 2 b g, lt-leb b (m + 1) l)

-- the test by one subtraction
pub within_is_block : (m b : ℕ) → 2 ≤ b → ltb (b - 2) m ≡ is_block m b
unfolding is_block
within_is_block m b l = by_test (ltb (b - 2) m)
    (λ e. let h : b - 2 < m = ltb-true (b - 2) m e in e ∙ sym (both (le-leb 2 b l) (le-leb b (m + 1) (omega arith))))
    (λ e. let h : m ≤ b - 2 = ltb-false (b - 2) m e in e ∙ sym (above_is_block m b l (omega arith)))

-- the test by one comparison: in 32 bits b - 2 is above every place where b is 0 or 1
module _ (m b i : ℕ) (f : b < 4294967296) (l : m ≤ 16384) (e : i ≡ (b + 4294967294) % 4294967296) where
  pub wrapped_block : i < m → (b ≢ 0) × (is_block m b ≡ true) × (i ≡ b - 2)
  wrapped_block h =
      let low : 2 ≤ b = omega arith in
      let at : i ≡ b - 2 = omega arith in
      ((λ z. absurd (omega arith)), block_is_block m b (record { low = low; high = omega arith }), at)

  pub wrapped_none : m ≤ i → is_block m b ≡ false
  wrapped_none h = by_test (leb 2 b)
      (λ t. let g : 2 ≤ b = leb-true 2 b t in above_is_block m b g (omega arith))
      (λ t. let g : b < 2 = leb-false 2 b t in below_is_block m b g)

-- a block number of m blocks has its place in a buffer of m entries
pub block_within : {m n b : ℕ} → n ≡ m → is_block m b ≡ true → Block n b
block_within {m} {n} {b} e i = let l = is_block_block m b i in record { low = l.low; high = omega arith }

pub block_as : {m n b : ℕ} → n ≡ m → Block m b → Block n b
block_as e l = record { low = l.low; high = omega arith }
