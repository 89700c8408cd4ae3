-- Longer walks along an object's blocks, and longer rows.
--     first_again, first_first     a refusal that is tested twice, and three in a row
--     block_splits, way_splits     a walk is a shorter one and the rest
--     refusal_read             the refusal that Read field answers
--     field_longer             reading a field is refused where reading an earlier one is, by the same number
--     row_refusal_lem              the first refusal of a row is that of its last field
--     row_field                a row that is refused nothing has fields that can be read
-- Assumes nothing.
use Prim.Native.Nat.{ℕ, zero, suc, ◌+◌, ◌-◌, ◌/◌, ◌≤◌, ◌<◌}
use mathlib.Core.Path.{◌≡◌, refl, sym, ◌∙◌, ap}
use native.Mathlib.Nat.{suc-add}
use native.Mathlib.Omega.{arith}
use borrow.Author.Tests.{eq-eqb, ne_eqb, le-leb}
use Rattle.machine.specs.Tests.{◌▷◌}
use Rattle.machine.specs.Heap.{Heap}
use Rattle.machine.specs.Entry.{entry}
use Rattle.machine.specs.State.{holder_refusal}
use Rattle.machine.specs.Read.{read_answer}
use Rattle.machine.specs.Field.{field_place, next_of, field_block, link_refusal, walk_refusal, field_refusal, read_field}
use Rattle.machine.proofs.Tests.{by_eq}
use Rattle.machine.proofs.Entering.{first_zero}
use Rattle.call_export_objects.specs.Objects.{refusal_from, row_refusal}

-- a is 0, or it is the answer
pub first_again : (a x : ℕ) → a ▷ (a ▷ x) ≡ a ▷ x
unfolding ◌▷◌
first_again a x = by_eq a 0 (λ z. simp (eq-eqb a 0 z)) (λ z. simp (ne_eqb a 0 z))

pub first_first : (a b c : ℕ) → (a ▷ b) ▷ c ≡ a ▷ (b ▷ c)
unfolding ◌▷◌
first_first a b c = by_eq a 0 (λ z. simp (eq-eqb a 0 z)) (λ z. simp (ne_eqb a 0 z))

-- what both tests begin with
first_both : (a x y : ℕ) → (a ▷ x) ▷ (a ▷ y) ≡ a ▷ (x ▷ y)
unfolding ◌▷◌
first_both a x y = by_eq a 0 (λ z. simp (eq-eqb a 0 z)) (λ z. simp (ne_eqb a 0 z))

first_same : (a : ℕ) → a ▷ a ≡ a
unfolding ◌▷◌
first_same a = by_eq a 0 (λ z. simp (eq-eqb a 0 z)) (λ z. simp (ne_eqb a 0 z))

first_none : (a : ℕ) → a ▷ 0 ≡ a
unfolding ◌▷◌
first_none a = by_eq a 0 (λ z. simp (eq-eqb a 0 z) (sym z)) (λ z. simp (ne_eqb a 0 z))

module _ (h : Heap) where
  pub block_splits : (i j b : ℕ) → field_block (i + j) b h ≡ field_block j (field_block i b h) h
  unfolding field_block
  block_splits zero j b = let z : 0 + j ≡ j = omega arith in rw z refl
  block_splits (suc i) j b = rw (suc-add i j) (block_splits i j (next_of h b))

  -- the tests of a block, as a walk from it begins with them
  walk_begins : (j b : ℕ) → walk_refusal j b h ≡ holder_refusal h b ▷ walk_refusal j b h
  unfolding walk_refusal
  walk_begins zero b = sym (first_same (holder_refusal h b))
  walk_begins (suc j) b = sym (first_again (holder_refusal h b) (link_refusal b h ▷ walk_refusal j (next_of h b) h))

  pub way_splits : (i j b : ℕ) → walk_refusal (i + j) b h ≡ walk_refusal i b h ▷ walk_refusal j (field_block i b h) h
  unfolding walk_refusal field_block
  way_splits zero j b = let z : 0 + j ≡ j = omega arith in rw z (walk_begins j b)
  way_splits (suc i) j b =
      let a = holder_refusal h b in
      let l = link_refusal b h in
      let w = walk_refusal i (next_of h b) h in
      let r = walk_refusal j (field_block i (next_of h b) h) h in
      rw (suc-add i j, way_splits i j (next_of h b)) (sym (first_first a (l ▷ w) r ∙ ap (λ (x : ℕ). a ▷ x) (first_first l w r)))

  walk_longer : (i j b : ℕ) → walk_refusal i b h ▷ walk_refusal (i + j) b h ≡ walk_refusal (i + j) b h
  walk_longer i j b = rw (way_splits i j b) (first_again (walk_refusal i b h) (walk_refusal j (field_block i b h) h))

  pub refusal_read : (b k : ℕ) → (read_field b k h).answer.refusal ≡ field_refusal b k h
  unfolding read_field read_answer
  refusal_read b k =
      by_eq (field_refusal b k h) 0
      (λ z. simp (eq-eqb (field_refusal b k h) 0 z) (sym z))
      (λ z. simp (ne_eqb (field_refusal b k h) 0 z))

  module _ (b : ℕ) where
    place_same : (k l : ℕ) → k ≤ l → l ≤ 1791 → field_place h.regs.blocks b k ≡ field_place h.regs.blocks b l
    unfolding field_place
    place_same k l o m = simp (le-leb k 1791 (omega arith), le-leb l 1791 m)

    pub field_longer : (k l : ℕ) → k ≤ l → l ≤ 1791 → field_refusal b k h ▷ field_refusal b l h ≡ field_refusal b l h
    unfolding field_refusal
    field_longer k l o m =
        let e = entry h in
        let p = field_place h.regs.blocks b l in
        let z : k / 7 + (l / 7 - k / 7) ≡ l / 7 = omega arith in
        let w : walk_refusal (k / 7) b h ▷ walk_refusal (l / 7) b h ≡ walk_refusal (l / 7) b h = rw z at (walk_longer (k / 7) (l / 7 - k / 7) b) in
        rw (place_same k l o m)
        (first_both e (p ▷ walk_refusal (k / 7) b h) (p ▷ walk_refusal (l / 7) b h)
        ∙ ap (λ (x : ℕ). e ▷ x) (first_both p (walk_refusal (k / 7) b h) (walk_refusal (l / 7) b h) ∙ ap (λ (x : ℕ). p ▷ x) w))

    refusal_from_lem : (n k : ℕ) → k + n ≤ 1791 → refusal_from (suc n) k b h ≡ field_refusal b (k + n) h
    unfolding refusal_from
    refusal_from_lem zero k l =
        let z : k + 0 ≡ k = omega arith in
        rw z (first_none (read_field b k h).answer.refusal ∙ refusal_read b k)
    refusal_from_lem (suc n) k l =
        let z : k + 1 + n ≡ k + suc n = omega arith in
        let r : refusal_from (suc n) (k + 1) b h ≡ field_refusal b (k + suc n) h = refusal_from_lem n (k + 1) (omega arith) ∙ (rw z refl) in
        ap (λ (x : ℕ). (read_field b k h).answer.refusal ▷ x) r ∙ (rw (refusal_read b k) (field_longer k (k + suc n) (omega arith) l))

    pub row_refusal_lem : (n : ℕ) → 1 ≤ n → n ≤ 1792 → row_refusal n b h ≡ field_refusal b (n - 1) h
    row_refusal_lem n o m =
        let e : n ≡ suc (n - 1) = omega arith in
        let z : 0 + (n - 1) ≡ n - 1 = omega arith in
        ap (λ (k : ℕ). refusal_from k 0 b h) e ∙ refusal_from_lem (n - 1) 0 (omega arith) ∙ ap (λ (k : ℕ). field_refusal b k h) z

    pub row_field : (n k : ℕ) → k < n → n ≤ 1792 → field_refusal b (n - 1) h ≡ 0 → field_refusal b k h ≡ 0
    row_field n k l m e = (first_zero (field_refusal b k h) (field_refusal b (n - 1) h) (field_longer k (n - 1) (omega arith) (omega arith) ∙ e)).0
