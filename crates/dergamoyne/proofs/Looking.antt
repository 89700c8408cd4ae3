-- Laws of Look as a host has it: by the refusal of a Read of word 0, which is n.
--     word_0                 where Read gives word 0 of b, b is 2 to 16,385
--     not_seen, seen         the two ways of the answer
-- Assumes nothing.
use Prim.Native.Nat.{ℕ, ◌≤◌}
use mathlib.Core.Path.{◌≡◌, sym, ◌∙◌}
use mathlib.Core.Logic.{◌≢◌}
use native.Mathlib.Omega.{arith}
use borrow.Author.Tests.{eq-eqb, ne_eqb}
use Rattle.machine.specs.Block.{base}
use Rattle.machine.specs.Heap.{Heap}
use Rattle.machine.specs.Read.{read_refusal, look_at}
use Rattle.machine.proofs.Refusals.{readable}
use Rattle.dergamoyne.specs.Host.{no_index, look_index}

module _ (h : Heap) (b : ℕ) {n : ℕ} (e : n ≡ read_refusal b 0 h) where
  pub word_0 : n ≡ 0 → (2 ≤ b) × (b ≤ 16385)
  word_0 z = let d = readable h b 0 (sym e ∙ z) in (omega arith, omega arith)

  pub not_seen : n ≢ 0 → (n ≡ read_refusal b 0 h) × (4294967295 ≡ look_index b h)
  unfolding look_index no_index
  not_seen z = (e, simp (ne_eqb (read_refusal b 0 h) 0 (λ y. z (e ∙ y))))

  pub seen : n ≡ 0 → (0 ≡ read_refusal b 0 h) × (base b ≡ look_index b h)
  unfolding look_index look_at
  seen z = let q = sym e ∙ z in (sym q, simp (eq-eqb (read_refusal b 0 h) 0 q))
