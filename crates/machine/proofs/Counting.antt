-- Counting blocks: what all_from and count_from say, and the pigeonhole.
--     all_holds, holds_all     all_from p n b is true exactly where p holds of the n numbers from b on
--     count_none, count_one    a count of nothing is 0, of one number in range 1
--     count_or                 of two things that no number is both, the count is the sum
--     count_le                 what holds of fewer numbers has no greater count
--     count_all                of two such with the same count, what holds of the more holds of the fewer: the pigeonhole
--     among l x                x is in l, as a test; among-member, member-among: it is true exactly of the members
--     count_among              of a list that repeats nothing, within range, the count is the length
-- The pigeonhole: what holds of the fewer holds of the more, so at each number the more adds at least as much to its count. Where the
-- counts come out the same, the two add the same at each number.
-- Assumes nothing.
use Prim.Native.Nat.{ℕ, zero, suc, ◌+◌, ◌≤◌, ◌<◌}
use mathlib.Core.Path.{◌≡◌, refl, ◌∙◌}
use mathlib.Core.Logic.{⊎_elim}
use mathlib.Core.Bool.{Bool, true, false, ◌||◌}
use mathlib.Core.List.Memᴰ
use mathlib.Core.List.{List, [], ◌∷◌, Memᴰ}
use native.Mathlib.Omega.{arith}
use lib.Dec.{eqb}
use lib.ListN.{length}
use borrow.Author.Tests.{eqb-true, eq-eqb, ne_eqb}
use Rattle.std.specs.Prelude.{if◌then◌else◌}
use Rattle.machine.specs.Lists.{all_from, count_from}
use Rattle.machine.proofs.Tests.{both_true, both, either_true, by_test, by_eq, clash}
use Rattle.machine.specs.Lists.{Distinct, empty, more}

module _ (p : ℕ → Bool) where
  pub all_holds : (n b : ℕ) → all_from p n b ≡ true → (x : ℕ) → b ≤ x → x < b + n → p x ≡ true
  unfolding all_from
  all_holds zero b e x l g = let z : ⊥ = omega arith in absurd z
  all_holds (suc n) b e x l g =
      let t = both_true (p b) (all_from p n (b + 1)) e in
      by_eq x b (λ s. rw s t.0) (λ s. all_holds n (b + 1) t.1 x (omega arith) (omega arith))

  pub holds_all : (n b : ℕ) → ((x : ℕ) → b ≤ x → x < b + n → p x ≡ true) → all_from p n b ≡ true
  unfolding all_from
  holds_all zero b f = refl
  holds_all (suc n) b f =
      both (f b (omega arith) (omega arith)) (holds_all n (b + 1) (λ x l g. f x (omega arith) (omega arith)))

  pub count_none : (n b : ℕ) → ((x : ℕ) → b ≤ x → p x ≡ false) → count_from p n b ≡ 0
  unfolding count_from
  count_none zero b f = refl
  count_none (suc n) b f = rw (f b (omega arith)) (omega (arith, count_none n (b + 1) (λ x l. f x (omega arith))))

pub count_one : (a n b : ℕ) → b ≤ a → a < b + n → count_from (λ x. eqb x a) n b ≡ 1
unfolding count_from
count_one a zero b l g = let z : ⊥ = omega arith in absurd z
count_one a (suc n) b l g =
    by_eq b a
    (λ e. rw (eq-eqb b a e) (omega (arith, count_none (λ x. eqb x a) n (b + 1) (λ x h. ne_eqb x a (omega arith)))))
    (λ e. rw (ne_eqb b a e) (omega (arith, count_one a n (b + 1) (omega arith) (omega arith))))

-- one block counts for 1 or for 0
abbrev weight : Bool → ℕ
weight t = if t then 1 else 0

weight_or : (t u : Bool) → (t ≡ true → u ≡ false) → weight (t || u) ≡ weight t + weight u
weight_or true true f = clash refl (f refl)
weight_or true false f = refl
weight_or false true f = refl
weight_or false false f = refl

weight_le : (t u : Bool) → (t ≡ true → u ≡ true) → weight t ≤ weight u
weight_le true u f = rw (f refl) (omega arith)
weight_le false true f = omega arith
weight_le false false f = omega arith

weight_all : (t u : Bool) → u ≡ true → weight u ≤ weight t → t ≡ true
weight_all true u e l = refl
weight_all false true e l = let z : ⊥ = omega arith in absurd z
weight_all false false e l = e

module _ (p q : ℕ → Bool) where
  pub count_or : ((x : ℕ) → p x ≡ true → q x ≡ false) → (n b : ℕ) → count_from (λ x. p x || q x) n b ≡ count_from p n b + count_from q n b
  unfolding count_from
  count_or f zero b = refl
  count_or f (suc n) b = rw (count_or f n (b + 1), weight_or (p b) (q b) (f b)) (omega arith)

  module _ (f : (x : ℕ) → q x ≡ true → p x ≡ true) where
    pub count_le : (n b : ℕ) → count_from q n b ≤ count_from p n b
    unfolding count_from
    count_le zero b = omega arith
    count_le (suc n) b = omega (arith, weight_le (q b) (p b) (f b), count_le n (b + 1))

    pub count_all : (n b : ℕ) → count_from p n b ≤ count_from q n b → (x : ℕ) → b ≤ x → x < b + n → p x ≡ true → q x ≡ true
    unfolding count_from
    count_all zero b c x l g e = let z : ⊥ = omega arith in absurd z
    count_all (suc n) b c x l g e =
        let here = weight_le (q b) (p b) (f b) in
        let on = count_le n (b + 1) in
        by_eq x b
        (λ s. rw s (weight_all (q b) (p b) (rw s at e) (omega arith)))
        (λ s. count_all n (b + 1) (omega arith) x (omega arith) (omega arith) e)

unfoldable pub among : List ℕ → ℕ → Bool
among [] x = false
among (a ∷ l) x = eqb x a || among l x

pub among_member : (l : List ℕ) (x : ℕ) → among l x ≡ true → Memᴰ x l
unfolding among
among_member [] x e = clash e refl
among_member (a ∷ l) x e =
    ⊎_elim (λ s. Memᴰ.head (eqb-true x a s)) (λ i. Memᴰ.tail (among_member l x i)) (either_true (eqb x a) (among l x) e)

pub member_among : (l : List ℕ) (x : ℕ) → Memᴰ x l → among l x ≡ true
unfolding among
member_among [] x i = absurd (Memᴰ.not-nil i)
member_among (a ∷ l) x i =
    by_eq x a (λ s. simp (eq-eqb x a s)) (λ s. ⊎_elim (λ e. absurd (s e)) (λ j. simp (ne_eqb x a s) (member_among l x j)) (Memᴰ.cases_cons i))

absent : (l : List ℕ) (x : ℕ) → (Memᴰ x l → ⊥) → among l x ≡ false
absent l x f = by_test (among l x) (λ e. absurd (f (among_member l x e))) (λ e. e)

pub count_among : (n b : ℕ) {l : List ℕ} → Distinct l → ((x : ℕ) → Memᴰ x l → (b ≤ x) × (x < b + n)) → count_from (among l) n b ≡ length l
unfolding among
count_among n b empty f = count_none (λ x. false) n b (λ x l. refl)
count_among n b (more {a} {l} i d) f =
    let here = f a (Memᴰ.head refl) in
    let on = count_among n b d (λ x j. f x (Memᴰ.tail j)) in
    count_or (λ x. eqb x a) (among l) (λ x e. absent l x (λ j. i (rw (eqb-true x a e) at j))) n b
    ∙ (rw (count_one a n b here.0 here.1, on) (omega arith))
