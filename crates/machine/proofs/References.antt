-- Laws of the audit's tests of a block's eight words.
--     names_on, names_off, names_end       the loop over its references: the word of the lowest bit passes or fails, and the end
--     zero_off, zero_as                    its words 1 to 7: one of the first three isn't 0, or the last four decide
-- Assumes nothing.
use Prim.Native.Nat.{ℕ, ◌-◌, ◌*◌, ◌%◌, ◌^◌, ◌<◌}
use mathlib.Core.Path.{◌≡◌, refl}
use mathlib.Core.Logic.{◌≢◌}
use mathlib.Core.Bool.{Bool, true, false, ◌&&◌, and_assoc, and-true}
use mathlib.Core.List.{List}
use native.Mathlib.Omega.{arith}
use lib.Bits.{bit_or, or_add_and, and_le_r}
use lib.Count.{count_trailing_zeros}
use lib.Dec.{eqb}
use lib.ListN.{get_or}
use borrow.Author.Tests.{eq-eqb, ne_eqb}
use Rattle.machine.specs.declared.Regs.{Regs}
use Rattle.machine.specs.Block.{references}
use Rattle.machine.specs.Colouring.{Colouring}
use Rattle.machine.specs.Audit.{may_name, may_name_all, zero_from}
use Rattle.machine.proofs.Tests.{by_eq}
use Rattle.machine.proofs.LowestBit.{word_first, none_left}

module _ (r : Regs) (k : Colouring) (s : Bool) (part : List ℕ) (rest : ℕ) where
  module _ (t : ℕ) (f : rest < 256) (n : rest ≢ 0) (e : t ≡ count_trailing_zeros 32 rest) where
    pub names_on : may_name r k s (get_or part t 0) ≡ true
        → may_name_all r k s (references part rest) ≡ may_name_all r k s (references part (rest - 1 * 2 ^ t % 4294967296))
    unfolding may_name_all
    names_on h = rw (word_first part rest t f n e, h) refl

    pub names_off : may_name r k s (get_or part t 0) ≡ false → may_name_all r k s (references part rest) ≡ false
    unfolding may_name_all
    names_off h = rw (word_first part rest t f n e, h) refl

  pub names_end : rest ≡ 0 → may_name_all r k s (references part rest) ≡ true
  unfolding may_name_all
  names_end z = rw (none_left part rest z) refl

-- an or is 0 exactly where both sides are
or_zero : (a b : ℕ) → eqb (bit_or a b) 0 ≡ (eqb a 0 && eqb b 0)
or_zero a b = by_eq a 0
    (λ z. rw z refl)
    (λ n. simp (ne_eqb a 0 n, ne_eqb (bit_or a b) 0 (λ z. n (omega (arith, or_add_and a b, and_le_r a b)))))

module _ (part : List ℕ) where
  abbrev three : ℕ
  three = bit_or (bit_or (get_or part 1 0) (get_or part 2 0)) (get_or part 3 0)

  abbrev four : ℕ
  four = bit_or (bit_or (bit_or (get_or part 4 0) (get_or part 5 0)) (get_or part 6 0)) (get_or part 7 0)

  zero_parts : (eqb three 0 && eqb four 0) ≡ zero_from 7 1 part
  unfolding zero_from
  zero_parts = simp (or_zero, and_assoc, and-true)

  pub zero_off : three ≢ 0 → false ≡ zero_from 7 1 part
  zero_off n = simp (ne_eqb three 0 n) at zero_parts

  pub zero_as : three ≡ 0 → eqb four 0 ≡ zero_from 7 1 part
  zero_as z = simp (eq-eqb three 0 z) at zero_parts
