-- A block's eight words as a part of the word buffer that is lent, and as it comes back.
--     part_is              the part that is lent is the block's eight words
--     back_is              the buffer when the part is back, with other words in it
-- Assumes nothing.
use Prim.Native.Nat.{ℕ, ◌+◌, ◌-◌}
use mathlib.Core.Path.{◌≡◌, refl}
use mathlib.Core.List.{List, ◌++◌}
use native.Mathlib.Omega.{arith}
use lib.ListN.{take, drop}
use lib.Seq.{drop-drop}
use Rattle.machine.specs.Block.{base, eight_words, with_eight}

module _ (ws : List ℕ) (b : ℕ) where
  pub part_is : take (base b + 8 - base b) (drop (base b) ws) ≡ eight_words ws b
  unfolding eight_words
  part_is = let e : base b + 8 - base b ≡ 8 = omega arith in rw e refl

  pub back_is : {xs ys : List ℕ} → xs ≡ ys → take (base b) ws ++ (xs ++ drop (base b + 8 - base b) (drop (base b) ws)) ≡ with_eight ws b ys
  unfolding with_eight
  back_is e =
      let n : base b + 8 - base b ≡ 8 = omega arith in
      rw (e, n, drop-drop) refl
