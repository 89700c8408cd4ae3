-- Laws of putting bytes into the buffer of what waits to be written.
--     few                  a number of 64 bits has at most 20 digits
--     spells               a number's digits and a byte
-- Assumes nothing.
use Prim.Native.Nat.{ℕ, ◌+◌, ◌-◌, ◌^◌, ◌≤◌, ◌<◌}
use mathlib.Core.Path.{◌≡◌, refl, ◌∙◌, ap}
use mathlib.Core.Bool.{Bool, true, false}
use mathlib.Core.List.{List, [], ◌∷◌, ◌++◌, append_assoc}
use native.Mathlib.Omega.{arith}
use native.Mathlib.Numerals.{add-one}
use native.Mathlib.Nat.{pow-le-pow_right}
use lib.Dec.{leb}
use lib.ListN.{length, take, set}
use lib.Seq.{take-suc-set}
use borrow.Author.Tests.{leb-true, leb-false}
use Rattle.io.specs.Digits.{last_digits, IsDigitCount}
use Rattle.text_output.specs.Output.{Spelt}

pub few : (n k : ℕ) → n < 2 ^ 64 → IsDigitCount 10 1 n k → k ≤ 20
few n k h f = go (leb k 20) refl
  where
    go : (t : Bool) → leb k 20 ≡ t → k ≤ 20
    go true e = leb-true k 20 e
    go false e =
        let l = leb-false k 20 e in
        let p : 10 ^ 20 ≤ 10 ^ (k - 1) = pow-le-pow_right {n = 10} (omega arith) {i = 20} {j = k - 1} (omega arith) in
        let q : 10 ^ (k - 1) ≤ n = f.2 (omega arith) in
        absurd (omega (arith, p, q, h))

pub spells :
    (out text after : List ℕ) (at n stop k : ℕ) → at ≤ 65515 → k ≤ 20 → length after ≡ 65536 → IsDigitCount 10 1 n k → take k text ≡ last_digits 10 k n
    → take (at + k) after ≡ take at out ++ take k text → Spelt out at n stop (at + k + 1) (set after (at + k) stop)
spells out text after at n stop k h l s f d e =
    record {
      places = k;
      fewest = f;
      place = refl;
      fits = omega arith;
      bytes =
          ap (λ (i : ℕ). take i (set after (at + k) stop)) (add-one (at + k))
          ∙ take-suc-set after (at + k) stop (omega arith)
          ∙ ap (λ (xs : List ℕ). xs ++ stop ∷ []) e
          ∙ append_assoc (take at out) (take k text) (stop ∷ [])
          ∙ ap (λ (xs : List ℕ). take at out ++ (xs ++ stop ∷ [])) d;
    }
