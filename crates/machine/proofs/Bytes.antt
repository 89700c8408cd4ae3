-- Laws of reference bytes and of a free block's words.
--     below_eight, shifted     eight bit numbers, and the powers of 2 that a byte's shift makes
--     set_fits, clear_fits     a byte stays a byte when a clear bit is set or a set bit is cleared
--     bit_set, bit_was_set, bit_cleared, bit_was_clear     the two ways of set_bit and of clear_bit
--     free_rest                its words but the first are 0
--     set_here, set_there, clear_here, clear_there     a byte's bits after one of them is set or cleared: that bit, and any other
-- Assumes nothing.
use Prim.Native.Nat.{ℕ, zero, suc, ◌+◌, ◌-◌, ◌*◌, ◌/◌, ◌%◌, ◌^◌, ◌≤◌, ◌<◌}
use mathlib.Core.Path.{◌≡◌, refl, sym, ◌∙◌, ap}
use mathlib.Core.Logic.{◌≢◌}
use mathlib.Core.Bool.{true, false}
use mathlib.Core.List.{List}
use native.Mathlib.Nat.{pow-suc, mul_comm, one-le-pow, add-div_right, div-eq-sub-div, div-eq_of_lt, div-div-eq-div-mul}
use native.Mathlib.Omega.{arith}
use lib.Dec.{eqb, leb}
use lib.ListN.{get_or, set}
use lib.Seq.{set-get_or}
use borrow.Author.Tests.{eqb-true, eqb-false, eq-eqb, ne_eqb, leb-true, leb-false}
use Rattle.machine.specs.Block.{index, byte_of, bit, with_bit, without_bit, set_bit, clear_bit, free_words}
use Rattle.machine.proofs.Tests.{if_ind, by_test}

-- what holds at each of the eight bit numbers holds below 8
pub below_eight : (P : ℕ → Type 0) → P 0 → P 1 → P 2 → P 3 → P 4 → P 5 → P 6 → P 7 → (w : ℕ) → w < 8 → P w
below_eight P a b c d e f g h zero l = a
below_eight P a b c d e f g h (suc zero) l = b
below_eight P a b c d e f g h (suc (suc zero)) l = c
below_eight P a b c d e f g h (suc (suc (suc zero))) l = d
below_eight P a b c d e f g h (suc (suc (suc (suc zero)))) l = e
below_eight P a b c d e f g h (suc (suc (suc (suc (suc zero))))) l = f
below_eight P a b c d e f g h (suc (suc (suc (suc (suc (suc zero)))))) l = g
below_eight P a b c d e f g h (suc (suc (suc (suc (suc (suc (suc zero))))))) l = h
below_eight P a b c d e f g h (suc (suc (suc (suc (suc (suc (suc (suc n)))))))) l = absurd (omega arith)

-- 2 ^ w, as the shift of a byte has it
pub shifted : (w : ℕ) → w < 8 → 1 * 2 ^ w % 256 ≡ 2 ^ w
shifted = below_eight (λ v. 1 * 2 ^ v % 256 ≡ 2 ^ v) refl refl refl refl refl refl refl refl

pub set_fits : (byte w : ℕ) → byte < 256 → w < 8 → bit byte w ≡ false → byte + 1 * 2 ^ w % 256 < 256
unfolding bit
set_fits byte w f l e =
    below_eight (λ v. (byte / 2 ^ v % 2 ≡ 1 → ⊥) → byte + 1 * 2 ^ v % 256 < 256)
    (λ n. omega arith) (λ n. omega arith) (λ n. omega arith) (λ n. omega arith)
    (λ n. omega arith) (λ n. omega arith) (λ n. omega arith) (λ n. omega arith)
    w l (eqb-false (byte / 2 ^ w % 2) 1 e)

pub clear_fits : (byte w : ℕ) → w < 8 → bit byte w ≡ true → 1 * 2 ^ w % 256 ≤ byte
unfolding bit
clear_fits byte w l e =
    below_eight (λ v. byte / 2 ^ v % 2 ≡ 1 → 1 * 2 ^ v % 256 ≤ byte)
    (λ n. omega arith) (λ n. omega arith) (λ n. omega arith) (λ n. omega arith)
    (λ n. omega arith) (λ n. omega arith) (λ n. omega arith) (λ n. omega arith)
    w l (eqb-true (byte / 2 ^ w % 2) 1 e)

module _ (bs : List ℕ) (b w : ℕ) (l : w < 8) where
  pub bit_set : bit (byte_of bs b) w ≡ false → set bs (index b) (byte_of bs b + 1 * 2 ^ w % 256) ≡ set_bit bs b w
  unfolding with_bit
  bit_set e = simp (e, shifted w l)

  pub bit_was_set : bit (byte_of bs b) w ≡ true → bs ≡ set_bit bs b w
  unfolding with_bit
  bit_was_set e = simp (e, set-get_or)

  pub bit_cleared : bit (byte_of bs b) w ≡ true → set bs (index b) (byte_of bs b - 1 * 2 ^ w % 256) ≡ clear_bit bs b w
  unfolding without_bit
  bit_cleared e = simp (e, shifted w l)

  pub bit_was_clear : bit (byte_of bs b) w ≡ false → bs ≡ clear_bit bs b w
  unfolding without_bit
  bit_was_clear e = simp (e, set-get_or)

pub free_rest : (link w : ℕ) → 1 ≤ w → w ≤ 7 → get_or (free_words link) w 0 ≡ 0
free_rest link w o l =
    below_eight (λ v. 1 ≤ v → get_or (free_words link) v 0 ≡ 0) (λ i. absurd (omega arith)) (λ i. refl) (λ i. refl) (λ i. refl) (λ i. refl) (λ i. refl)
    (λ i. refl) (λ i. refl) w (omega arith) o

-- Bits of a number of any size. Bit u + 1 of a number is bit u of its half.
halved : (a u : ℕ) → a / 2 ^ suc u ≡ a / 2 / 2 ^ u
halved a u = ap (λ (n : ℕ). a / n) (pow-suc 2 u ∙ mul_comm (2 ^ u) 2) ∙ sym (div-div-eq-div-mul a 2 (2 ^ u))

-- a power added where the bit is clear carries nothing into another bit
add_other : (w u a : ℕ) → u ≢ w → a / 2 ^ w % 2 ≢ 1 → (a + 2 ^ w) / 2 ^ u % 2 ≡ a / 2 ^ u % 2
add_other zero zero a n c = absurd (n refl)
add_other zero (suc u) a n c =
    let e : (a + 1) / 2 ≡ a / 2 = omega arith in
    ap (λ (x : ℕ). x % 2) (halved (a + 1) u ∙ ap (λ (x : ℕ). x / 2 ^ u) e ∙ sym (halved a u))
add_other (suc w) zero a n c =
    let e = pow-suc 2 w in
    omega arith
add_other (suc w) (suc u) a n c =
    let e = pow-suc 2 w in
    let d : (a + 2 ^ suc w) / 2 ≡ a / 2 + 2 ^ w = omega arith in
    (ap (λ (x : ℕ). x % 2) (halved (a + 2 ^ suc w) u ∙ ap (λ (x : ℕ). x / 2 ^ u) d)
    ∙ add_other w u (a / 2) (λ z. n (ap suc z)) (λ z. c (ap (λ (x : ℕ). x % 2) (halved a w) ∙ z))
    ∙ ap (λ (x : ℕ). x % 2) (sym (halved a u)))

some : (w : ℕ) → 0 < 2 ^ w
some w = one-le-pow w 2 (omega arith)

add_here : (w a : ℕ) → a / 2 ^ w % 2 ≢ 1 → (a + 2 ^ w) / 2 ^ w % 2 ≡ 1
add_here w a c = omega (arith, add-div_right a (some w))

-- a set bit is a power that can be taken away
set_least : (w a : ℕ) → a / 2 ^ w % 2 ≡ 1 → 2 ^ w ≤ a
set_least w a c =
    by_test (leb (2 ^ w) a) (λ t. leb-true (2 ^ w) a t) (λ t. absurd (omega (arith, div-eq_of_lt (leb-false (2 ^ w) a t))))

less_here : (w a : ℕ) → a / 2 ^ w % 2 ≡ 1 → (a - 2 ^ w) / 2 ^ w % 2 ≢ 1
less_here w a c z = absurd (omega (arith, div-eq-sub-div (some w) (set_least w a c)))

less_other : (w u a : ℕ) → u ≢ w → a / 2 ^ w % 2 ≡ 1 → (a - 2 ^ w) / 2 ^ u % 2 ≡ a / 2 ^ u % 2
less_other w u a n c =
    let l = set_least w a c in
    let e : a - 2 ^ w + 2 ^ w ≡ a = omega arith in
    sym (add_other w u (a - 2 ^ w) n (less_here w a c)) ∙ ap (λ (x : ℕ). x / 2 ^ u % 2) e

module _ (byte w : ℕ) where
  pub set_here : bit (with_bit byte w) w ≡ true
  unfolding with_bit bit
  set_here =
      by_test (eqb (byte / 2 ^ w % 2) 1) (λ t. simp t)
      (λ t. simp t (eq-eqb ((byte + 2 ^ w) / 2 ^ w % 2) 1 (add_here w byte (eqb-false _ _ t))))

  pub set_there : (u : ℕ) → u ≢ w → bit (with_bit byte w) u ≡ bit byte u
  unfolding with_bit bit
  set_there u n =
      if_ind (λ (x : ℕ). eqb (x / 2 ^ u % 2) 1 ≡ eqb (byte / 2 ^ u % 2) 1) (eqb (byte / 2 ^ w % 2) 1) (λ t. refl)
      (λ t. ap (λ (x : ℕ). eqb x 1) (add_other w u byte n (eqb-false _ _ t)))

  pub clear_here : bit (without_bit byte w) w ≡ false
  unfolding without_bit bit
  clear_here =
      by_test (eqb (byte / 2 ^ w % 2) 1)
      (λ t. simp t (ne_eqb ((byte - 2 ^ w) / 2 ^ w % 2) 1 (less_here w byte (eqb-true _ _ t))))
      (λ t. simp t)

  pub clear_there : (u : ℕ) → u ≢ w → bit (without_bit byte w) u ≡ bit byte u
  unfolding without_bit bit
  clear_there u n =
      if_ind (λ (x : ℕ). eqb (x / 2 ^ u % 2) 1 ≡ eqb (byte / 2 ^ u % 2) 1) (eqb (byte / 2 ^ w % 2) 1)
      (λ t. ap (λ (x : ℕ). eqb x 1) (less_other w u byte n (eqb-true _ _ t)))
      (λ t. refl)
