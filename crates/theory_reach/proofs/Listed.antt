-- How many blocks of a list there can be.
--     in?                  a case split on whether a number occurs in a list
--     in_left, in_right    what occurs in a list occurs in it with another put behind or in front
--     pigeonhole           if every block of weight 1 occurs in a list, the weights add up to at most its length
-- The list is counted block by block: how often x occurs in it, summed over the blocks, is at most its length.
-- Assumes nothing.
use Prim.Native.Nat.{ℕ, ◌+◌, ◌≤◌}
use mathlib.Core.Path.{◌≡◌, refl}
use mathlib.Core.Logic.{◌≢◌}
use mathlib.Core.Bool.{Bool, true, false}
use mathlib.Core.List.Memᴰ
use mathlib.Core.List.{List, [], ◌∷◌, ◌++◌}
use native.Mathlib.Omega.{arith}
use lib.Dec.{eqb}
use lib.ListN.{length}
use borrow.Author.Tests.{eq-eqb, eqb-true}
use Rattle.theory_reach.specs.Sums.{Block, total}
use Rattle.theory_reach.specs.Listed.{In}
use Rattle.theory_reach.proofs.Splits.{by_eq, by_le, by_test}
use Rattle.theory_reach.proofs.Sums.{total_le, total_plus, total_down, total_none}

pub in? : {A : Type 0} (x : ℕ) (l : List ℕ) → (In x l → A) → ((In x l → ⊥) → A) → A
in? x [] yes' no' = no' (λ i. elim i [ ])
in? {A} x (a ∷ l) yes' no' =
    by_eq x a (λ e. yes' (Memᴰ.head e)) (λ e. in? x l (λ i. yes' (Memᴰ.tail i)) (λ n. no' (λ i. out e n i)))
  where
    out : x ≢ a → (In x l → ⊥) → In x (a ∷ l) → ⊥
    out e n (Memᴰ.head p) = e p
    out e n (Memᴰ.tail i) = n i

pub in_left : {x : ℕ} {l : List ℕ} (k : List ℕ) → In x l → In x (l ++ k)
in_left k i = Memᴰ.append_left k i

pub in_right : {x : ℕ} (k : List ℕ) {l : List ℕ} → In x l → In x (k ++ l)
in_right k i = Memᴰ.append_right k i

one : Bool → ℕ
one true = 1
one false = 0

-- 1 at a, 0 elsewhere
at : ℕ → ℕ → ℕ
at a c = one (eqb c a)

times : List ℕ → ℕ → ℕ
times [] c = 0
times (a ∷ l) c = at a c + times l c

at_here : (a : ℕ) → at a a ≡ 1
unfolding at one
at_here a = simp (eq-eqb a a refl)

at_else : (a c : ℕ) → c ≢ a → at a c ≡ 0
unfolding at one
at_else a c n = by_test (eqb c a) (λ e. absurd (n (eqb-true c a e))) (λ e. rw e refl)

total_at : (m a : ℕ) → total m (at a) ≤ 1
total_at m a =
    by_le 2 a
    (λ low. by_le a (m + 1)
    (λ high. inside (record { low = low; high = high }))
    (λ high. outside (λ l. absurd (omega arith))))
    (λ low. outside (λ l. absurd (omega arith)))
  where
    inside : Block m a → total m (at a) ≤ 1
    inside l =
        let d = total_down m (at a) (λ c. 0) a l (λ c k n. omega (arith, at_else a c n)) in
        omega (arith, d, at_here a, total_none m (λ c. 0) (λ c k. refl))

    outside : (Block m a → ⊥) → total m (at a) ≤ 1
    outside n = omega (arith, total_none m (at a) (λ c k. at_else a c (λ e. n (rw (← e) k))))

total_times : (m : ℕ) (l : List ℕ) → total m (times l) ≤ length l
unfolding times
total_times m [] = omega (arith, total_none m (λ c. 0) (λ c k. refl))
total_times m (a ∷ l) = omega (arith, total_plus m (at a) (times l), total_at m a, total_times m l)

in_times : {x : ℕ} {l : List ℕ} → In x l → 1 ≤ times l x
unfolding times
in_times {x} (Memᴰ.head {x = a} {xs = l} e) = rw e (omega (arith, at_here a))
in_times (Memᴰ.tail i) = omega (arith, in_times i)

pub pigeonhole : (m : ℕ) (f : ℕ → ℕ) (l : List ℕ) → ((c : ℕ) → Block m c → f c ≤ 1) → ((c : ℕ) → Block m c → f c ≢ 0 → In c l) → total m f ≤ length l
pigeonhole m f l small listed =
    omega (arith, total_le m f (times l) (λ c k. by_eq (f c) 0 (λ e. omega arith) (λ e. omega (arith, small c k, in_times (listed c k e)))), total_times m l)
