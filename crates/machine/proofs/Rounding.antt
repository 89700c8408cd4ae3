-- Laws of a quotient rounded up.
--     round_enough         times the divisor it is enough
--     round_most           it is at most what is divided
--     ceil_rounds          the library's `div_ceil` is this quotient
-- Assumes nothing.
use Prim.Native.Nat.{ℕ, zero, suc, ◌+◌, ◌-◌, ◌*◌, ◌/◌, ◌%◌, ◌≤◌, ◌<◌, min}
use mathlib.Core.Path.{◌≡◌, sym, ◌∙◌, ap}
use Rattle.std.proofs.Math.Nat.{add-mul-div_left}
use native.Mathlib.Nat.{div-add-mod, mod-lt, mul-le-mul_left, div-lt_iff_lt-mul, div-eq_of_lt}
use native.Mathlib.Omega.{arith}
use Rattle.machine.specs.Rounding.{rounded_up}

pub round_enough : (a d : ℕ) → 1 ≤ d → a ≤ d * rounded_up a d
round_enough a d l = omega (arith, div-add-mod (a + (d - 1)) d, mod-lt (a + (d - 1)) {m = d} l)

pub round_most : (a d : ℕ) → 1 ≤ d → rounded_up a d ≤ a
round_most a d l =
    let below : rounded_up a d < a + 1 = (div-lt_iff_lt-mul l).1 (omega (arith, mul-le-mul_left a l)) in
    omega arith

-- r, below d, and d - 1 together make d once where r isn't 0, else not
carry : (r d : ℕ) → 1 ≤ d → r < d → (r + (d - 1)) / d ≡ min 1 r
carry zero d l b = div-eq_of_lt (omega arith)
carry (suc r) d l b =
    let once : suc r + (d - 1) ≡ r + d * 1 = omega arith in
    let less : r / d ≡ 0 = div-eq_of_lt (omega arith) in
    ap (λ (x : ℕ). x / d) once ∙ add-mul-div_left r 1 l ∙ omega arith

pub ceil_rounds : (a d : ℕ) → 1 ≤ d → a / d + min 1 (a % d) ≡ rounded_up a d
ceil_rounds a d l =
    let apart : a + (d - 1) ≡ a % d + (d - 1) + d * (a / d) = omega (arith, div-add-mod a d) in
    let c = carry (a % d) d l (mod-lt a {m = d} l) in
    sym (ap (λ (x : ℕ). x / d) apart ∙ add-mul-div_left (a % d + (d - 1)) (a / d) l ∙ omega arith)
