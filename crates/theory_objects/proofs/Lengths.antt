-- An object of n blocks has 7n fields.
--     fields_within            FieldsWithin
--     fields_past              FieldsPast
--     passed                   what the tests at one block of a walk that passes say
-- A walk that passes does so up to each block before its end, and where the last link is no way on, each longer walk is refused there.
-- Assumes nothing.
use Prim.Native.Nat.{ℕ, zero, suc, ◌-◌, ◌/◌, ◌≤◌, ◌<◌}
use mathlib.Core.Path.{◌≡◌, refl, sym, ◌∙◌}
use native.Mathlib.Omega.{arith}
use borrow.Author.Tests.{eq-eqb, ne_eqb, leb-true, leb-false}
use lib.Dec.{leb}
use Rattle.machine.specs.Tests.{◌▷◌}
use Rattle.machine.specs.Heap.{Heap}
use Rattle.machine.specs.State.{holder_refusal}
use Rattle.machine.specs.Read.{read_answer}
use Rattle.machine.specs.Field.{next_of, field_block, link_refusal, walk_refusal, field_refusal, read_field}
use Rattle.machine.proofs.Tests.{by_eq, by_test}
use Rattle.machine.proofs.Blocks.{block_is_block}
use Rattle.machine.proofs.Entering.{first_zero, ready_entry}
use Rattle.machine.proofs.Refusals.{stops, passes}
use Rattle.machine.proofs.Fields.{field_fits, field_high}
use Rattle.theory_objects.specs.Lengths.{FieldsWithin, FieldsPast}

-- the answer's refusal number is field_refusal's
refusal_read : (h : Heap) (b k : ℕ) → (read_field b k h).answer.refusal ≡ field_refusal b k h
unfolding read_field read_answer
refusal_read h b k =
    by_eq (field_refusal b k h) 0
    (λ z. simp (eq-eqb (field_refusal b k h) 0 z) (sym z))
    (λ z. simp (ne_eqb (field_refusal b k h) 0 z))

module _ (h : Heap) where
  -- the tests at one block of a walk that passes
  pub passed : (j b : ℕ) → walk_refusal (suc j) b h ≡ 0 → (holder_refusal h b ≡ 0) × (link_refusal b h ≡ 0) × (walk_refusal j (next_of h b) h ≡ 0)
  unfolding walk_refusal
  passed j b e =
      let a = first_zero (holder_refusal h b) (link_refusal b h ▷ walk_refusal j (next_of h b) h) e in
      let p = first_zero (link_refusal b h) (walk_refusal j (next_of h b) h) a.1 in
      (a.0, p.0, p.1)

  goes_on : (j b n : ℕ) → holder_refusal h b ≡ 0 → link_refusal b h ≡ 0 → n ≡ walk_refusal j (next_of h b) h → n ≡ walk_refusal (suc j) b h
  unfolding walk_refusal
  goes_on j b n a p e = passes (sym a) refl (passes (sym p) refl e)

  shorter : (l j b : ℕ) → j ≤ l → walk_refusal l b h ≡ 0 → 0 ≡ walk_refusal j b h
  unfolding walk_refusal
  shorter zero zero b o e = sym e
  shorter zero (suc j) b o e = absurd (omega arith)
  shorter (suc l) zero b o e = sym (passed l b e).0
  shorter (suc l) (suc j) b o e = let (a, p, w) = passed l b e in goes_on j b 0 a p (shorter l j (next_of h b) (omega arith) w)

  past : (l j b : ℕ) → l < j → walk_refusal l b h ≡ 0 → link_refusal (field_block l b h) h ≡ 3 → 3 ≡ walk_refusal j b h
  unfolding walk_refusal field_block
  past l zero b o e f = absurd (omega arith)
  past zero (suc j) b o e f = passes (sym e) refl (stops (walk_refusal j (next_of h b) h) (sym f) (λ z. absurd (omega arith)))
  past (suc l) (suc j) b o e f = let (a, p, w) = passed l b e in goes_on j b 3 a p (past l j (next_of h b) (omega arith) w f)

pub fields_within : FieldsWithin
unfolding field_refusal
fields_within h b n k d l =
    let s = d.some in
    let m = d.most in
    refusal_read h b k
    ∙ sym (passes (sym (ready_entry h d.ready)) refl
    (passes (field_fits _ _ k (block_is_block _ _ d.block) (omega arith)) refl (shorter h (n - 1) (k / 7) b (omega arith) d.walks)))

pub fields_past : FieldsPast
unfolding field_refusal
fields_past h b n k d l =
    let s = d.some in
    let i = block_is_block _ _ d.block in
    refusal_read h b k
    ∙ sym (passes (sym (ready_entry h d.ready)) refl
    (by_test (leb k 1791)
    (λ t. passes (field_fits _ _ k i (leb-true k 1791 t)) refl (past h (n - 1) (k / 7) b (omega arith) d.walks d.ends))
    (λ t. stops _ (field_high _ _ k i (leb-false k 1791 t)) (λ z. absurd (omega arith)))))
