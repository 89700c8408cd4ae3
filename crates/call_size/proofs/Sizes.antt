-- Laws of a heap's size.
--     ceiled               the library's division, rounded up, is the definition's
--     few_in_a_cycle, few_in_a_short_cycle     N is at most 2M + 2, and N' at most K + P + 2
--     given_as             the number that a function gives for a pace other than 0
--     no_pace, paced       a test that asks for a pace, with pace 0 and with another
--     enough_means, suffices_means     where the tests say so, the premises hold
--     rule_implies         where demand 3's rule holds the sharper one does, with M for P
--     room_suffices        so where `enough` says yes, `suffices` does
--     Sparse u k b p       no number from 1 to below p is enough
--     sparse_on            so it is up to p where p isn't
--     found, none_found    what is known where a number is enough, and where none is
--     five_least           with pace 5, for 100 reachable blocks and single allocations, 236 blocks are the fewest
-- Assumes nothing.
use Prim.Native.Nat.{ℕ, ◌+◌, ◌-◌, ◌*◌, ◌/◌, ◌%◌, ◌≤◌, ◌<◌, min}
use mathlib.Core.Path.{◌≡◌, refl, sym, subst}
use mathlib.Core.Logic.{◌≢◌}
use mathlib.Core.Bool.{Bool, true, false, not, ◌&&◌}
use native.Mathlib.Omega.{arith}
use native.Mathlib.Nat.{le-div_iff_mul-le, div-lt_iff_lt-mul, div-mul-le_self}
use lib.Dec.{eqb, leb}
use borrow.Author.Tests.{le-leb, ne_eqb, leb-true}
use Rattle.std.specs.Prelude.{if◌then◌else◌}
use Rattle.machine.proofs.Tests.{both, both_true, by_eq, by_test}
use Rattle.std.proofs.lemmas.Grind.{div_ceil_times}
use Rattle.machine.specs.Rounding.{rounded_up}
use Rattle.machine.proofs.Rounding.{round_most}
use Rattle.theory_promises.specs.Demand3.{cycles}
use Rattle.theory_promises.specs.Sharper.{short_cycles}
use Rattle.theory_promises.proofs.Rooming.{cycles_enough}
use Rattle.theory_promises.proofs.Sharper.{short_enough}
use Rattle.call_size.specs.Sizing.{enough, suffices, Least}

-- the library's division, rounded up
pub ceiled : (a d : ℕ) → 0 < d → a / d + min 1 (a % d) ≡ rounded_up a d
ceiled a d l =
    let n = a / d + min 1 (a % d) in
    let t = div_ceil_times a d l in
    let low : n ≤ rounded_up a d = (le-div_iff_mul-le l).1 (omega (arith, t.1)) in
    let high : rounded_up a d < n + 1 = (div-lt_iff_lt-mul l).1 (omega (arith, t.0)) in
    omega arith

pub few_in_a_cycle : (m u : ℕ) → u ≢ 0 → cycles m u ≤ 2 * m + 2
unfolding cycles
few_in_a_cycle m u n = round_most (2 * m + 2) u (omega (arith, n))

pub few_in_a_short_cycle : (k p u : ℕ) → u ≢ 0 → short_cycles k p u ≤ k + p + 2
unfolding short_cycles
few_in_a_short_cycle k p u n = round_most (k + p + 2) u (omega (arith, n))

pub given_as : (u n x : ℕ) → u ≢ 0 → n ≡ (if eqb u 0 then 0 else x) → n ≡ x
given_as u n x p e = rw e (simp (ne_eqb u 0 p))

pub no_pace : (u : ℕ) (t : Bool) → u ≡ 0 → not (eqb u 0) ≡ (leb 1 u && t)
no_pace u t e = rw e refl

pub paced : (u : ℕ) (t : Bool) → u ≢ 0 → t ≡ (leb 1 u && t)
paced u t n = simp (le-leb 1 u (omega (arith, n)))

pub enough_means : (m u k : ℕ) → enough m u k ≡ true → (1 ≤ u) × (k + 2 * cycles m u ≤ m)
unfolding enough
enough_means m u k e = let t = both_true (leb 1 u) _ e in (leb-true 1 u t.0, leb-true _ _ t.1)

pub suffices_means : (p u k b : ℕ) → suffices p u k b ≡ true → (1 ≤ u) × (k + 2 * short_cycles k p u + b ≤ p + 1)
unfolding suffices
suffices_means p u k b e = let t = both_true (leb 1 u) _ e in (leb-true 1 u t.0, leb-true _ _ t.1)

-- where K is at most M, N' is at most N
fewer : (m u k : ℕ) → 1 ≤ u → k ≤ m → short_cycles k m u ≤ cycles m u
unfolding cycles short_cycles
fewer m u k l i = (le-div_iff_mul-le l).1 (omega (arith, div-mul-le_self (k + m + 2 + (u - 1)) u))

pub rule_implies : (m u k b : ℕ) → 1 ≤ u → k + 2 * cycles m u + b ≤ m + 1 → k + 2 * short_cycles k m u + b ≤ m + 1
rule_implies m u k b l e =
    by_eq (cycles m u) 0
    (λ z. absurd (omega (arith, subst (λ (n : ℕ). 2 * m + 2 ≤ u * n) z (cycles_enough m u l))))
    (λ z. omega (arith, fewer m u k l (omega arith)))

pub room_suffices : (m u k : ℕ) → enough m u k ≡ true → suffices m u k 1 ≡ true
unfolding suffices
room_suffices m u k e =
    let t = enough_means m u k e in
    both (le-leb 1 u t.0) (le-leb _ _ (rule_implies m u k 1 t.0 (omega (arith, t.1))))

abbrev pub Sparse : ℕ → ℕ → ℕ → ℕ → Type 0
Sparse u k b p = (q : ℕ) → 1 ≤ q → q < p → suffices q u k b ≡ false

pub sparse_on : (u k b p : ℕ) → Sparse u k b p → suffices p u k b ≡ false → Sparse u k b (p + 1)
sparse_on u k b p s e q l i = by_eq q p (λ z. subst (λ (x : ℕ). suffices x u k b ≡ false) (sym z) e) (λ z. s q l (omega arith))

pub found : (u k b p : ℕ) → Sparse u k b p → 1 ≤ p → p ≤ 16384 → suffices p u k b ≡ true → Least u k b p
found u k b p s l i e = record { some = λ n. (i, e); least = s; none = λ z. absurd (omega arith) }

pub none_found : (u k b p : ℕ) → Sparse u k b p → 16384 < p → Least u k b 0
none_found u k b p s l =
    record { some = λ n. absurd (omega (arith, n)); least = λ q i j. absurd (omega arith); none = λ z q i j. s q i (omega arith) }

pub five_least : Least 5 100 1 236
unfolding suffices short_cycles
five_least =
    found 5 100 1 236
    (λ p l i.
    by_test (suffices p 5 100 1) (λ t. absurd (omega (arith, (suffices_means p 5 100 1 t).1, short_enough 100 p 5 (omega arith)))) (λ t. t))
    (omega arith) (omega arith) refl
