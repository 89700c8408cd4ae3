-- Linked lists: a chain that ends meets no block twice.
--     same_length          from one block on there is one length only
--     Onward next end b n  from b on the chain is a list, of at most n blocks
--     from_member          so it is from any member of a list on, and no longer than that list
--     listed_distinct      a chain that ends is Distinct
-- A block met again would begin two chains to the end, one of them shorter; but the next block is a function of the block, so from
-- one block on there is only one length.
-- Assumes nothing.
use Prim.Native.Nat.{ℕ, suc, ◌≤◌}
use mathlib.Core.Path.{◌≡◌, refl, ap}
use mathlib.Core.Logic.{◌⊎◌, inl, inr}
use mathlib.Core.List.Memᴰ
use mathlib.Core.List.{List, ◌∷◌, Memᴰ}
use native.Mathlib.Omega.{arith}
use lib.ListN.{length}
use Rattle.machine.specs.Lists.{Listed, ends, goes, Distinct, empty, more}

-- from b on the chain is a list, of at most n blocks
pub record Onward (next : ℕ → ℕ) (end b n : ℕ) : Type 0 where
  pub rest : List ℕ
  pub listed : Listed next end b rest
  pub short : length rest ≤ n

module _ {next : ℕ → ℕ} {end : ℕ} where
  pub same_length : {a : ℕ} {l k : List ℕ} → Listed next end a l → Listed next end a k → length l ≡ length k
  same_length (ends e) (ends f) = refl
  same_length (ends e) (goes n d) = absurd (n e)
  same_length (goes n d) (ends e) = absurd (n e)
  same_length (goes n d) (goes o f) = ap suc (same_length d f)

  pub from_member : {a b : ℕ} {l : List ℕ} → Listed next end a l → Memᴰ b l → Onward next end b (length l)
  from_member (ends e) m = absurd (Memᴰ.not-nil m)
  from_member {b} (goes {a} {l} n d) m = go (λ i. from_member d i) (Memᴰ.cases_cons m)
    where
      go : (Memᴰ b l → Onward next end b (length l)) → (b ≡ a) ⊎ Memᴰ b l → Onward next end b (suc (length l))
      go below (inl e) = rw e (record { rest = a ∷ l; listed = goes n d; short = omega arith })
      go below (inr i) = let o = below i in record { rest = o.rest; listed = o.listed; short = omega arith }

  pub listed_distinct : {a : ℕ} {l : List ℕ} → Listed next end a l → Distinct l
  listed_distinct (ends e) = empty
  listed_distinct (goes n d) =
      more (λ i. let o = from_member d i in let e = same_length (goes n d) o.listed in omega arith) (listed_distinct d)
