-- Laws of the counts of an image: one for each way out of the code that looks at them.
--     length_off, colours_off, bytes_off, blocks_as        the ways of blocks_framed
--     behind_as                                            what is behind the registers
--     bare_off, unknown_off, known_long, framed_as         the ways of framed
--     framed_least                                         bytes that are framed have room for the registers
--     mark_earlier, mark_tenth, registers_read             the mark by the number read, and the registers by the first nine
-- Assumes nothing.
use Prim.Native.Nat.{ℕ, ◌+◌, ◌-◌, ◌*◌, ◌≤◌, ◌<◌}
use mathlib.Core.Path.{◌≡◌, refl, sym, ◌∙◌}
use mathlib.Core.Logic.{◌≢◌}
use mathlib.Core.Bool.{Bool, true, false}
use mathlib.Core.List.{List}
use native.Mathlib.Omega.{arith}
use lib.Dec.{eqb}
use lib.ListN.{length, get_or, take, drop, length-drop}
use lib.Seq.{take_all, drop-drop}
use borrow.Author.Tests.{eq-eqb, ne_eqb}
use Rattle.machine.specs.Image.{number, numbers_from, earlier_count, regs_of, past_numbers, decode, count_known}
use Rattle.machine.specs.Frame.{blocks_at, bytes_at, words_at, blocks_length, at, blocks_framed, framed}
use Rattle.machine.proofs.Tests.{by_test}
use Rattle.machine.proofs.Images.{by_count}
use Rattle.machine.proofs.Frames.{blocks_frame, framed_known, framed_blocks, regs_placed}

module _ (m : ℕ) (j : List ℕ) where
  pub length_off : length j ≢ blocks_length m → false ≡ blocks_framed m j
  unfolding blocks_framed
  length_off n = simp (ne_eqb (length j) (blocks_length m) n)

  module _ (l : length j ≡ blocks_length m) where
    pub colours_off : number j ≢ m → false ≡ blocks_framed m j
    unfolding blocks_framed
    colours_off n = simp (eq-eqb (length j) (blocks_length m) l, ne_eqb (number j) m n)

    module _ (c : number j ≡ m) where
      pub bytes_off : at j (bytes_at m) ≢ m → false ≡ blocks_framed m j
      unfolding blocks_framed
      bytes_off n =
          simp (eq-eqb (length j) (blocks_length m) l, eq-eqb (number j) m c, ne_eqb (at j (bytes_at m)) m n)

      pub blocks_as : at j (bytes_at m) ≡ m → eqb (at j (words_at m)) (8 * m) ≡ blocks_framed m j
      unfolding blocks_framed
      blocks_as b =
          simp (eq-eqb (length j) (blocks_length m) l, eq-eqb (number j) m c, eq-eqb (at j (bytes_at m)) m b)

module _ (i : List ℕ) where
  -- a part up to the end is all that is left
  pub behind_as : {p : ℕ} → p ≡ number i → take (length i - (4 + 4 * p)) (drop (4 + 4 * p) i) ≡ past_numbers i
  behind_as {p} e =
      let n = 4 + 4 * p in
      let l : length (drop n i) ≤ length i - n = omega (arith, length-drop n i) in
      rw (take_all (length i - n) (drop n i) l, e) refl

  pub framed_least : framed i ≡ true → 52 ≤ length i
  framed_least t =
      let w = (blocks_frame (framed_blocks i t)).whole in
      let d = length-drop (blocks_at (number i)) i in
      by_count (λ (n : ℕ). number i ≡ n → 52 ≤ length i) (number i) (framed_known i t) (λ e. omega arith) (λ e. omega arith) refl

  pub bare_off : length i < 52 → false ≡ framed i
  bare_off l = by_test (framed i) (λ t. let m = framed_least t in absurd (omega arith)) (λ t. sym t)

  pub unknown_off : count_known (number i) ≡ false → false ≡ framed i
  unfolding framed
  unknown_off e = simp e

  pub known_long : count_known (number i) ≡ true → 52 ≤ length i → blocks_at (number i) ≤ length i
  known_long e l = by_count (λ (n : ℕ). blocks_at n ≤ length i) (number i) e (omega arith) (omega arith)

  pub framed_as : {t : Bool} → count_known (number i) ≡ true → t ≡ blocks_framed (at i 4) (past_numbers i) → t ≡ framed i
  unfolding framed
  framed_as e f = simp e f

  pub mark_earlier : {n m : ℕ} → n ≡ number i → n ≡ earlier_count → m ≡ at i 4 → m + 1 ≡ (decode i).regs.mark
  unfolding decode numbers_from
  mark_earlier e z f = rw (f, ← e, z) refl

  module _ (f : framed i ≡ true) where
    pub mark_tenth : {n b : ℕ} → n ≡ number i → n ≢ earlier_count → b ≡ at i 40 → b ≡ (decode i).regs.mark
    unfolding decode numbers_from
    mark_tenth e z g =
        g ∙ by_count (λ (n : ℕ). n ≢ earlier_count → at i 40 ≡ (regs_of (numbers_from n (drop 4 i))).mark) (number i) (framed_known i f)
        (λ y. simp drop-drop) (λ y. absurd (y refl)) (λ y. z (e ∙ y))

    pub registers_read : {xs : List ℕ} {x : ℕ} → xs ≡ numbers_from 9 (drop 4 i) → x ≡ (decode i).regs.mark
        → (record {
          blocks = get_or xs 0 0;
          pace = get_or xs 1 0;
          phase = get_or xs 2 0;
          grey = get_or xs 3 0;
          free = get_or xs 4 0;
          count = get_or xs 5 0;
          position = get_or xs 6 0;
          root = get_or xs 7 0;
          cycle = get_or xs 8 0;
          mark = x;
        })
        ≡ (decode i).regs
    unfolding numbers_from
    registers_read e g = rw (e, g) (simp drop-drop (sym (regs_placed i f)))
