-- The laws of counting with weights.
--     sum_le, sum_one, sum_plus, sum_ones, sum_nought      the laws below, for n numbers from any b on
--     total_le, total_same      weights that are at most, or the same, pointwise
--     total_one            all weights the same but one: the sums differ by it
--     total_down           all weights at most the same but one: the sums differ by at most it
--     total_most           weights of at most 1 add up to at most m
--     total_plus           the sum of two weights
--     total_none, total_ones    weights that are all 0, all 1
-- Assumes nothing.
use Prim.Native.Nat.{ℕ, zero, suc, ◌+◌, ◌≤◌}
use mathlib.Core.Path.{◌≡◌, refl}
use mathlib.Core.Logic.{◌≢◌}
use native.Mathlib.Omega.{arith}
use Rattle.theory_reach.specs.Sums.{sum, Within, Block, total}
use Rattle.theory_reach.proofs.Splits.{by_eq}

later : {n b c : ℕ} → Within n (suc b) c → Within (suc n) b c
later l = record { low = omega arith; high = omega arith }

first : (n b : ℕ) → Within (suc n) b b
first n b = record { low = omega arith; high = omega arith }

pub sum_le : (n b : ℕ) (f g : ℕ → ℕ) → ((c : ℕ) → Within n b c → f c ≤ g c) → sum n b f ≤ sum n b g
unfolding sum
sum_le zero b f g h = omega arith
sum_le (suc n) b f g h = omega (arith, h b (first n b), sum_le n (suc b) f g (λ c l. h c (later l)))

-- one weight apart: whatever it is before and after
pub sum_one : (n b x : ℕ) (f g : ℕ → ℕ) → Within n b x → ((c : ℕ) → Within n b c → c ≢ x → f c ≤ g c) → sum n b f + g x ≤ sum n b g + f x
unfolding sum
sum_one zero b x f g l h = absurd (omega arith)
sum_one (suc n) b x f g l h =
    by_eq x b
    (λ e.
    let rest : sum n (suc b) f ≤ sum n (suc b) g = sum_le n (suc b) f g (λ c k. h c (later k) (λ z. omega arith)) in
    rw e (omega arith))
    (λ e.
    let rest : sum n (suc b) f + g x ≤ sum n (suc b) g + f x = sum_one n (suc b) x f g (record { low = omega arith; high = omega arith }) (λ c k. h c (later k)) in
    omega (arith, h b (first n b) (λ z. omega arith)))

pub sum_plus : (n b : ℕ) (f g : ℕ → ℕ) → sum n b (λ c. f c + g c) ≡ sum n b f + sum n b g
unfolding sum
sum_plus zero b f g = refl
sum_plus (suc n) b f g = omega (arith, sum_plus n (suc b) f g)

pub sum_ones : (n b : ℕ) → sum n b (λ c. 1) ≡ n
unfolding sum
sum_ones zero b = refl
sum_ones (suc n) b = omega (arith, sum_ones n (suc b))

pub sum_nought : (n b : ℕ) → sum n b (λ c. 0) ≡ 0
unfolding sum
sum_nought zero b = refl
sum_nought (suc n) b = omega (arith, sum_nought n (suc b))

block : {m c : ℕ} → Within m 2 c → Block m c
block l = record { low = omega arith; high = omega arith }

within : {m c : ℕ} → Block m c → Within m 2 c
within l = record { low = omega arith; high = omega arith }

module _ (m : ℕ) (f g : ℕ → ℕ) where
  pub total_le : ((c : ℕ) → Block m c → f c ≤ g c) → total m f ≤ total m g
  unfolding total
  total_le h = sum_le m 2 f g (λ c l. h c (block l))

  pub total_down : (x : ℕ) → Block m x → ((c : ℕ) → Block m c → c ≢ x → f c ≤ g c) → total m f + g x ≤ total m g + f x
  unfolding total
  total_down x l h = sum_one m 2 x f g (within l) (λ c k. h c (block k))

  pub total_plus : total m (λ c. f c + g c) ≡ total m f + total m g
  unfolding total
  total_plus = sum_plus m 2 f g

module _ (m : ℕ) (f g : ℕ → ℕ) where
  pub total_same : ((c : ℕ) → Block m c → f c ≡ g c) → total m f ≡ total m g
  total_same h =
      omega (arith, total_le m f g (λ c l. omega (arith, h c l)), total_le m g f (λ c l. omega (arith, h c l)))

  pub total_one : (x : ℕ) → Block m x → ((c : ℕ) → Block m c → c ≢ x → f c ≡ g c) → total m f + g x ≡ total m g + f x
  total_one x l h =
      omega (arith, total_down m f g x l (λ c k n. omega (arith, h c k n)), total_down m g f x l (λ c k n. omega (arith, h c k n)))

module _ (m : ℕ) (f : ℕ → ℕ) where
  pub total_most : ((c : ℕ) → Block m c → f c ≤ 1) → total m f ≤ m
  unfolding total
  total_most h = omega (arith, total_le m f (λ c. 1) h, sum_ones m 2)

  pub total_none : ((c : ℕ) → Block m c → f c ≡ 0) → total m f ≡ 0
  unfolding total
  total_none h = omega (arith, total_same m f (λ c. 0) h, sum_nought m 2)

  pub total_ones : ((c : ℕ) → Block m c → f c ≡ 1) → total m f ≡ m
  unfolding total
  total_ones h = omega (arith, total_same m f (λ c. 1) h, sum_ones m 2)
