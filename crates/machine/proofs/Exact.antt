-- A walk of as many steps as there are blocks, and a list that has exactly those blocks.
--     Walked p next end n a        what such a walk of n steps from a on has met
--     walk_listed, listed_walk     a walk of n steps that passes is a list of n blocks of which p holds, and the other way
--     walk_exact                   a walk of as many steps as p has blocks passes only where the list has exactly those
--     exact_length                 such a list is as long as p has blocks
--     exact_walk                   and the walk of it passes
-- Over any test p, next, end and m: the grey and the free list are two cases. p holds of blocks only, and not of the end.
-- The list of a walk that passes ends, so it repeats nothing; its blocks are among p's, and they are as many: so they are all of p's.
-- Assumes nothing.
use Prim.Native.Nat.{ℕ, zero, suc, ◌+◌, ◌≤◌, ◌<◌}
use mathlib.Core.Path.{◌≡◌, refl, ap}
use mathlib.Core.Logic.{⊎_elim, ◌↔◌}
use mathlib.Core.Bool.{Bool, true}
use mathlib.Core.List.Memᴰ
use mathlib.Core.List.{List, [], ◌∷◌, Memᴰ}
use native.Mathlib.Omega.{arith}
use lib.ListN.{length}
use borrow.Author.Tests.{eqb-true, eq-eqb}
use Rattle.machine.specs.Lists.{count_from, walk, Listed, ends, goes, Exactly}
use Rattle.machine.specs.WellFormed.{Block}
use Rattle.machine.proofs.Tests.{both_true, both}
use Rattle.machine.proofs.Listing.{listed_distinct}
use Rattle.machine.proofs.Counting.{count_le, count_all, among, among_member, member_among, count_among}

-- what a walk of n steps from a on has met
pub record Walked (p : ℕ → Bool) (next : ℕ → ℕ) (end n a : ℕ) : Type 0 where
  pub blocks : List ℕ
  pub listed : Listed next end a blocks
  pub long : length blocks ≡ n
  pub hold : (b : ℕ) → Memᴰ b blocks → p b ≡ true

module _ (p : ℕ → Bool) (next : ℕ → ℕ) (end : ℕ) where
  pub walk_listed : (p end ≡ true → ⊥) → (n a : ℕ) → walk p next end n a ≡ true → Walked p next end n a
  unfolding walk
  walk_listed out zero a e =
      record { blocks = []; listed = ends (eqb-true a end e); long = refl; hold = λ b i. absurd (Memᴰ.not-nil i) }
  walk_listed out (suc n) a e =
      let t = both_true (p a) (walk p next end n (next a)) e in
      let w = walk_listed out n (next a) t.1 in
      record {
        blocks = a ∷ w.blocks;
        listed = goes {a = a} (λ s. out (rw s at t.0)) w.listed;
        long = ap suc w.long;
        hold = λ b i. ⊎_elim (λ s. rw s t.0) (λ j. w.hold b j) (Memᴰ.cases_cons i);
      }

  pub listed_walk : {a : ℕ} {l : List ℕ} → Listed next end a l → ((b : ℕ) → Memᴰ b l → p b ≡ true) → walk p next end (length l) a ≡ true
  unfolding walk
  listed_walk (ends {a} e) f = eq-eqb a end e
  listed_walk (goes {a} n d) f = both (f a (Memᴰ.head refl)) (listed_walk d (λ b i. f b (Memᴰ.tail i)))

-- P, which p tests, holds of blocks only, and not of the end
module _
    (P : ℕ → Type 0) (p : ℕ → Bool) (tests : (b : ℕ) → (p b ≡ true) ↔ P b)
    (next : ℕ → ℕ) (end m : ℕ) (inside : (b : ℕ) → P b → Block m b) (out : P end → ⊥)
  where
    within : (b : ℕ) → P b → (2 ≤ b) × (b < 2 + m)
    within b h = let l = inside b h in (omega arith, omega arith)

    -- a list whose members are P's, without repeats, has its length for its count
    counts : {a : ℕ} {l : List ℕ} → Listed next end a l → ((b : ℕ) → Memᴰ b l → P b) → count_from (among l) m 2 ≡ length l
    counts d f = count_among m 2 (listed_distinct d) (λ x i. within x (f x i))

    -- as many blocks are met as there are, so each of them is met
    all_met : (a : ℕ) (w : Walked p next end (count_from p m 2) a) (b : ℕ) → P b → Memᴰ b w.blocks
    all_met a w b h =
        let l = w.blocks in
        let same : count_from p m 2 ≤ count_from (among l) m 2 = omega (arith, counts w.listed (λ x i. (tests x).0 (w.hold x i)), w.long) in
        let (low, high) = within b h in
        among_member l b (count_all p (among l) (λ x t. w.hold x (among_member l x t)) m 2 same b low high ((tests b).1 h))

    pub walk_exact : (a : ℕ) → walk p next end (count_from p m 2) a ≡ true → (e : Exactly P next end a) × (length e.blocks ≡ count_from p m 2)
    walk_exact a e =
        let w = walk_listed p next end (λ t. out ((tests end).0 t)) (count_from p m 2) a e in
        let members : (b : ℕ) → Memᴰ b w.blocks ↔ P b = λ b. (λ i. (tests b).0 (w.hold b i), all_met a w b) in
        (record { blocks = w.blocks; listed = w.listed; members = members }, w.long)

    pub exact_length : (a : ℕ) (e : Exactly P next end a) → length e.blocks ≡ count_from p m 2
    exact_length a e =
        let l = e.blocks in
        let less = count_le p (among l) (λ x t. (tests x).1 ((e.members x).0 (among_member l x t))) m 2 in
        let more = count_le (among l) p (λ x t. member_among l x ((e.members x).1 ((tests x).0 t))) m 2 in
        omega (arith, counts e.listed (λ b i. (e.members b).0 i))

    pub exact_walk : (a : ℕ) → Exactly P next end a → walk p next end (count_from p m 2) a ≡ true
    exact_walk a e = rw (← exact_length a e) (listed_walk p next end e.listed (λ b i. (tests b).1 ((e.members b).0 i)))
