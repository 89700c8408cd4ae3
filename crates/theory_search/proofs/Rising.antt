-- Lists of blocks whose numbers rise. code x is the number of x.
--     Rising code lo l hi  the numbers of l's blocks rise strictly, from lo on and below hi
--     rising_low, rising_in     lo is at most hi, and a member's number lies between
--     rising_one           members with one number are one
--     rising_before, rising_after     a member in front of b has a smaller number, one behind it a larger
--     rising_on            a block more at the end;     rising_up   a higher bound
--     rising_same          the same with other numbers that agree on the list
--     rising_distinct      no block stands twice in it
-- Assumes nothing.
use Prim.Native.Nat.{ℕ, ◌+◌, ◌≤◌, ◌<◌}
use mathlib.Core.Path.{◌≡◌, refl, sym, ◌∙◌}
use mathlib.Core.Logic.{⊎_elim}
use mathlib.Core.List.Memᴰ
use mathlib.Core.List.{List, [], ◌∷◌, ◌++◌}
use native.Mathlib.Omega.{arith}
use Rattle.machine.specs.Lists.{Distinct, empty, more}
use Rattle.theory_reach.specs.Listed.{In}

pub data Rising (code : ℕ → ℕ) : ℕ → List ℕ → ℕ → Type 0 where
  none : {lo hi : ℕ} → lo ≤ hi → Rising code lo [] hi
  next : {lo hi x : ℕ} {l : List ℕ} → lo ≤ code x → Rising code (code x + 1) l hi → Rising code lo (x ∷ l) hi

module _ {code : ℕ → ℕ} where
  pub rising_low : {lo hi : ℕ} {l : List ℕ} → Rising code lo l hi → lo ≤ hi
  rising_low (none h) = h
  rising_low (next h r) = omega (arith, rising_low r)

  pub rising_in : {lo hi y : ℕ} {l : List ℕ} → Rising code lo l hi → In y l → (lo ≤ code y) × (code y < hi)
  rising_in (none h) i = absurd (Memᴰ.not-nil i)
  rising_in {y} (next {x = x} h r) i =
      ⊎_elim
      (λ e. rw e (h, omega (arith, rising_low r)))
      (λ j. let k = rising_in r j in (omega (arith, k.0), k.1))
      (Memᴰ.cases_cons i)

  pub rising_one :
      {lo hi x y : ℕ} {l : List ℕ} → Rising code lo l hi → In x l → In y l → code x ≡ code y
      → x ≡ y
  rising_one (none h) i j e = absurd (Memᴰ.not-nil i)
  rising_one {x} {y} (next {x = a} h r) i j e =
      ⊎_elim
      (λ p. ⊎_elim (λ q. p ∙ sym q) (λ q. absurd (apart p e (rising_in r q).0)) (Memᴰ.cases_cons j))
      (λ p. ⊎_elim (λ q. absurd (apart q (sym e) (rising_in r p).0)) (λ q. rising_one r p q e) (Memᴰ.cases_cons j))
      (Memᴰ.cases_cons i)
    where
      apart : {x y : ℕ} → x ≡ a → code x ≡ code y → code a + 1 ≤ code y → ⊥
      apart p e l = let z : code a ≡ _ = rw p at e in omega arith

  pub rising_before :
      {lo hi y : ℕ} (b : ℕ) (l k : List ℕ) → Rising code lo (l ++ (b ∷ k)) hi → In y l
      → code y < code b
  rising_before {lo = lo} b [] k r i = absurd (Memᴰ.not-nil i)
  rising_before {lo = lo} b (a ∷ l) k (next h r) i =
      ⊎_elim
      (λ e. rw e (omega (arith, (rising_in r (Memᴰ.append_right l (Memᴰ.head refl))).0)))
      (λ j. rising_before {lo = code a + 1} b l k r j)
      (Memᴰ.cases_cons i)

  pub rising_after :
      {lo hi y : ℕ} (b : ℕ) (l k : List ℕ) → Rising code lo (l ++ (b ∷ k)) hi → In y k
      → code b < code y
  rising_after {lo = lo} b [] k (next h r) i = omega (arith, (rising_in r i).0)
  rising_after {lo = lo} b (a ∷ l) k (next h r) i = rising_after {lo = code a + 1} b l k r i

  pub rising_up : {lo hi up : ℕ} {l : List ℕ} → Rising code lo l hi → hi ≤ up → Rising code lo l up
  rising_up {up} (none {lo} h) g = none {lo = lo} {hi = up} (omega arith)
  rising_up (next h r) g = next h (rising_up r g)

  pub rising_on :
      {lo hi up : ℕ} {l : List ℕ} (x : ℕ) → Rising code lo l hi → hi ≤ code x → code x < up
      → Rising code lo (l ++ (x ∷ [])) up
  rising_on {up} x (none {lo} h) g t = next {lo = lo} {x = x} (omega arith) (none {lo = code x + 1} {hi = up} (omega arith))
  rising_on x (next h r) g t = next h (rising_on x r g t)

  pub rising_distinct : {lo hi : ℕ} {l : List ℕ} → Rising code lo l hi → Distinct l
  rising_distinct (none h) = empty
  rising_distinct (next {x = x} {l = l} h r) =
      more (λ (i : In x l). omega (arith, (rising_in r i).0)) (rising_distinct r)

pub rising_same :
    {code code' : ℕ → ℕ} {lo hi : ℕ} {l : List ℕ} → Rising code lo l hi → ((y : ℕ) → In y l → code' y ≡ code y)
    → Rising code' lo l hi
rising_same (none h) f = none h
rising_same {code'} (next {lo} {hi} {x} {l} h r) f =
    let e = f x (Memᴰ.head refl) in
    let on : Rising code' (code' x + 1) l hi = rw e (rising_same r (λ y i. f y (Memᴰ.tail i))) in
    next {lo = lo} {x = x} (omega arith) on
