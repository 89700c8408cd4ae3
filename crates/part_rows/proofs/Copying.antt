-- A row's part when it is back in the buffer.
--     row_back             the buffer when the lent part is back, with a row in it
-- Assumes nothing.
use Prim.Native.Nat.{ℕ, ◌+◌, ◌-◌}
use mathlib.Core.Path.{◌≡◌, refl}
use mathlib.Core.List.{List, ◌++◌}
use native.Mathlib.Omega.{arith}
use lib.ListN.{length, take, drop}
use lib.Seq.{drop-drop}
use Rattle.part_rows.specs.Rows.{with_row}

module _ (out row : List ℕ) (at end : ℕ) where
  pub row_back : {xs : List ℕ} → xs ≡ row → at + length row ≡ end → take at out ++ (xs ++ drop (end - at) (drop at out)) ≡ with_row at row out
  unfolding with_row
  row_back e l =
      let k : end - at ≡ length row = omega arith in
      rw (e, k, drop-drop) refl
