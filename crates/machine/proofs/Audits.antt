-- Laws of the audit's loops: what is tested, counted or walked so far, and what is still to come.
--     all_on, all_off, all_end      a test of all blocks: a step on, a block that fails, the end
--     count_on, count_end         a count: a step on, the end; one-most: a block adds at most 1
--     walk_on, walk_off, walk_end              a walk: a step on, a block that fails, the end
-- Assumes nothing.
use Prim.Native.Nat.{ℕ, ◌+◌, ◌≤◌}
use mathlib.Core.Path.{◌≡◌, sym, ◌∙◌}
use mathlib.Core.Bool.{Bool, true, false}
use native.Mathlib.Omega.{arith}
use native.Mathlib.Numerals.{add-one}
use lib.Dec.{eqb}
use Rattle.std.specs.Prelude.{if◌then◌else◌}
use Rattle.machine.specs.Audit.{all_from, count_from, walk}

module _ (p : ℕ → Bool) (t : Bool) (n b : ℕ) (i : t ≡ all_from p n b) where
  pub all_on : (k : ℕ) → n ≡ k + 1 → p b ≡ true → t ≡ all_from p k (b + 1)
  unfolding all_from
  all_on k e h = simp h at (rw (e, add-one k) at i)

  pub all_off : (k : ℕ) → n ≡ k + 1 → p b ≡ false → false ≡ t
  unfolding all_from
  all_off k e h = sym (simp h at (rw (e, add-one k) at i))

  pub all_end : n ≡ 0 → true ≡ t
  unfolding all_from
  all_end e = sym (rw e at i)

module _ (p : ℕ → Bool) (t a n b : ℕ) (i : t ≡ a + count_from p n b) where
  pub count_on : (k x : ℕ) (c : Bool) → n ≡ k + 1 → c ≡ p b → x ≡ (if c then 1 else 0) → t ≡ a + x + count_from p k (b + 1)
  unfolding count_from
  count_on k x c e h y = (rw (e, add-one k, ← h, ← y) at i) ∙ omega arith

  pub count_end : n ≡ 0 → a ≡ t
  unfolding count_from
  count_end e = let z = (rw e at i) in omega arith

pub one_most : (x : ℕ) (c : Bool) → x ≡ (if c then 1 else 0) → x ≤ 1
one_most x true e = omega arith
one_most x false e = omega arith

module _ (p : ℕ → Bool) (next : ℕ → ℕ) (end : ℕ) (t : Bool) (n a : ℕ) (i : t ≡ walk p next end n a) where
  pub walk_on : (k x : ℕ) → n ≡ k + 1 → p a ≡ true → x ≡ next a → t ≡ walk p next end k x
  unfolding walk
  walk_on k x e h f = rw f (simp h at (rw (e, add-one k) at i))

  pub walk_off : (k : ℕ) → n ≡ k + 1 → p a ≡ false → false ≡ t
  unfolding walk
  walk_off k e h = sym (simp h at (rw (e, add-one k) at i))

  pub walk_end : n ≡ 0 → eqb a end ≡ t
  unfolding walk
  walk_end e = sym (rw e at i)
