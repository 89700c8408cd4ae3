-- Laws of the lowest set bit of a reference byte. The loops over a block's references go from set bit to set bit: word t of the lowest
-- one comes first, and what remains is the byte less 2^t. The code counts trailing zeros in 32 bits.
--     trailing_byte, trailing_within     the zeros below it are those of eight bits, and fewer than eight
--     lowest_within, lowest_le     a byte that isn't 0 has such a bit among its eight, and is at least its value
--     lowest_shift, lowest_sub, lowest_less     its value, as the code's shift has it: it can be taken off, and less remains
--     lowest_first                 the references of a byte: the word of its lowest bit, and the references of the rest
--     word_first, none_left        the same for a loop, with the rest as the code has it; a rest of 0 has no references
--     along, along_all             the references by halving the byte, for what is proved by its bits
-- Assumes nothing.
use Prim.Native.Nat.{ℕ, zero, suc, ◌+◌, ◌-◌, ◌*◌, ◌/◌, ◌%◌, ◌^◌, ◌≤◌, ◌<◌}
use mathlib.Core.Path.{◌≡◌, refl, sym, ◌∙◌, ap}
use mathlib.Core.Logic.{◌≢◌}
use mathlib.Core.List.{List, [], ◌∷◌}
use native.Mathlib.Nat.{pow-suc, one-le-pow}
use native.Mathlib.Omega.{arith}
use lib.Arith.{lt-one}
use lib.Count.{count_trailing_zeros, under}
use lib.Dec.{eqb}
use lib.ListN.{get_or}
use lib.Pow.{shr-shr}
use Rattle.std.specs.Prelude.{if◌then◌else◌}
use Rattle.machine.specs.Block.{bit, references_from, references}
use Rattle.machine.proofs.Bytes.{below_eight}

trailing : (k n : ℕ) → n ≢ 0 → n < 2 ^ k → (count_trailing_zeros k n < k) × (2 ^ count_trailing_zeros k n ≤ n)
unfolding count_trailing_zeros
trailing zero n o l = absurd (o (lt-one l))
trailing (suc k) n o l = go (n % 2) refl (λ z. trailing k (n / 2) z half)
  where
    half : n / 2 < 2 ^ k
    half = let e : n < 2 ^ k * 2 = rw (pow-suc 2 k) at l in omega arith

    go : (d : ℕ) → n % 2 ≡ d → (n / 2 ≢ 0 → (count_trailing_zeros k (n / 2) < k) × (2 ^ count_trailing_zeros k (n / 2) ≤ n / 2))
        → (under d (count_trailing_zeros k (n / 2)) < suc k) × (2 ^ under d (count_trailing_zeros k (n / 2)) ≤ n)
    go zero e i =
        let (a, b) = i (λ z. o (omega arith)) in
        let p : 2 ^ suc (count_trailing_zeros k (n / 2)) ≡ 2 ^ count_trailing_zeros k (n / 2) * 2 = pow-suc 2 (count_trailing_zeros k (n / 2)) in
        (omega arith, omega arith)
    go (suc d) e i = (omega arith, omega arith)

-- digits above a number's own change nothing
trailing_same : (k l n : ℕ) → k ≤ l → n ≢ 0 → n < 2 ^ k → count_trailing_zeros l n ≡ count_trailing_zeros k n
unfolding count_trailing_zeros
trailing_same zero l n h o f = absurd (o (lt-one f))
trailing_same (suc k) zero n h o f = absurd (omega arith)
trailing_same (suc k) (suc l) n h o f = go (n % 2) refl (λ z. trailing_same k l (n / 2) (omega arith) z half)
  where
    half : n / 2 < 2 ^ k
    half = let e : n < 2 ^ k * 2 = rw (pow-suc 2 k) at f in omega arith

    go : (d : ℕ) → n % 2 ≡ d → (n / 2 ≢ 0 → count_trailing_zeros l (n / 2) ≡ count_trailing_zeros k (n / 2)) → under d (count_trailing_zeros l (n / 2)) ≡ under d (count_trailing_zeros k (n / 2))
    go zero e i = ap suc (i (λ z. o (omega arith)))
    go (suc d) e i = refl

module _ (rest t : ℕ) (f : rest < 256) (n : rest ≢ 0) (e : t ≡ count_trailing_zeros 32 rest) where
  pub trailing_byte : t ≡ count_trailing_zeros 8 rest
  trailing_byte = e ∙ trailing_same 8 32 rest (omega arith) n f

  pub trailing_within : count_trailing_zeros 8 rest < 8
  trailing_within = (trailing 8 rest n f).0

  pub lowest_within : t < 8
  lowest_within = rw trailing_byte trailing_within

  pub lowest_le : 2 ^ t ≤ rest
  lowest_le = rw trailing_byte (trailing 8 rest n f).1

  pub lowest_shift : 1 * 2 ^ t % 4294967296 ≡ 2 ^ t
  lowest_shift = below_eight (λ v. 1 * 2 ^ v % 4294967296 ≡ 2 ^ v) refl refl refl refl refl refl refl refl t lowest_within

  pub lowest_sub : 1 * 2 ^ t % 4294967296 ≤ rest
  lowest_sub = rw lowest_shift lowest_le

  pub lowest_less : rest - 1 * 2 ^ t % 4294967296 < rest
  lowest_less = rw lowest_shift (let p : 1 ≤ 2 ^ t = one-le-pow t 2 (omega arith) in let l = lowest_le in omega arith)

module _ (part : List ℕ) where
  -- the references among n words from word w on, by the rest of the byte there
  unfoldable pub along : ℕ → ℕ → ℕ → List ℕ
  along zero w rest = []
  along (suc n) w rest = if eqb (rest % 2) 1 then get_or part w 0 ∷ along n (w + 1) (rest / 2) else along n (w + 1) (rest / 2)

  along_is : (n w byte : ℕ) → references_from n w part byte ≡ along n w (byte / 2 ^ w)
  unfolding references_from bit along
  along_is zero w byte = refl
  along_is (suc n) w byte =
      let e : byte / 2 ^ (w + 1) ≡ byte / 2 ^ w / 2 = sym (shr-shr byte w 1) in
      rw (along_is n (w + 1) byte, e) refl

  along_none : (n w : ℕ) → along n w 0 ≡ []
  unfolding along
  along_none zero w = refl
  along_none (suc n) w = along_none n (w + 1)

  along_lowest : (n w rest : ℕ) → count_trailing_zeros n rest < n
      → along n w rest ≡ get_or part (w + count_trailing_zeros n rest) 0 ∷ along n w (rest - 2 ^ count_trailing_zeros n rest)
  unfolding along count_trailing_zeros
  along_lowest zero w rest l = absurd (omega arith)
  along_lowest (suc n) w rest l = go (rest % 2) refl l (along_lowest n (w + 1) (rest / 2))
    where
      go : (d : ℕ) → rest % 2 ≡ d → under d (count_trailing_zeros n (rest / 2)) < suc n
          → (count_trailing_zeros n (rest / 2) < n
          → along n (w + 1) (rest / 2) ≡ get_or part (w + 1 + count_trailing_zeros n (rest / 2)) 0 ∷ along n (w + 1) (rest / 2 - 2 ^ count_trailing_zeros n (rest / 2)))
          → along (suc n) w rest ≡ get_or part (w + under d (count_trailing_zeros n (rest / 2))) 0 ∷ along (suc n) w (rest - 2 ^ under d (count_trailing_zeros n (rest / 2)))
      go zero e l i =
          let t = count_trailing_zeros n (rest / 2) in
          let p : 2 ^ suc t ≡ 2 ^ t * 2 = pow-suc 2 t in
          let a : w + 1 + t ≡ w + suc t = omega arith in
          let b : (rest - 2 ^ suc t) % 2 ≡ 0 = omega arith in
          let c : (rest - 2 ^ suc t) / 2 ≡ rest / 2 - 2 ^ t = omega arith in
          rw (e, b, c, ← a) (i (omega arith))
      go (suc d) e l i =
          let o : rest % 2 ≡ 1 = omega arith in
          let b : (rest - 1) % 2 ≡ 0 = omega arith in
          let c : (rest - 1) / 2 ≡ rest / 2 = omega arith in
          let a : w + 0 ≡ w = omega arith in
          rw (o, b, c, a) refl

  pub along_all : (rest : ℕ) → references part rest ≡ along 8 0 rest
  along_all rest = let e : rest / 2 ^ 0 ≡ rest = omega arith in along_is 8 0 rest ∙ ap (along 8 0) e

  pub none_left : (rest : ℕ) → rest ≡ 0 → references part rest ≡ []
  none_left rest e = along_all rest ∙ rw e (along_none 8 0)

  module _ (rest t : ℕ) (f : rest < 256) (n : rest ≢ 0) (e : t ≡ count_trailing_zeros 32 rest) where
    pub lowest_first : references part rest ≡ get_or part t 0 ∷ references part (rest - 2 ^ t)
    lowest_first =
        let l = trailing_within rest t f n e in
        let z : 0 + count_trailing_zeros 8 rest ≡ count_trailing_zeros 8 rest = omega arith in
        rw (trailing_byte rest t f n e, along_all (rest - 2 ^ count_trailing_zeros 8 rest)) (along_all rest ∙ (rw z at (along_lowest 8 0 rest l)))

    pub word_first : references part rest ≡ get_or part t 0 ∷ references part (rest - 1 * 2 ^ t % 4294967296)
    word_first = rw (lowest_shift rest t f n e) lowest_first
