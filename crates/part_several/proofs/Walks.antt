-- Laws of the walk along the first blocks of the free list, one for each way through the code, and what it establishes.
--     fits_block, fits_next                   what fits is a block, and its link is 0 or one
--     walked_on, walked_off, walked_end       a step of the walk, a block that can't be taken, the end
--     walked_last, walked_none                the walk ends at the last of n blocks exactly where all n can be taken
--     walks_within             then they have their place in the word buffer
--     last_walks, last_none    the same of the walk from the free head on;     before_last: what the search among the others asks for
--     repeats, differs         the first n of the free list are all different exactly where the search doesn't find the last
--     within_step              what a step of the search for a block asks for
--     met_on, met_found, met_end              a step of the search for a block, the block found, the end
--     heads_agree, heads_differ     a head and a count that are both 0 or both not, and others
-- Assumes nothing.
use Prim.Native.Nat.{ℕ, zero, suc, ◌+◌, ◌-◌, ◌*◌, ◌<◌, ◌≤◌}
use mathlib.Core.Path.{◌≡◌, refl, sym, ◌∙◌, ap}
use mathlib.Core.Logic.{◌≢◌}
use mathlib.Core.Bool.{Bool, true, false, ◌&&◌, not, beq}
use mathlib.Core.List.{List}
use native.Mathlib.Nat.{add-zero}
use native.Mathlib.Omega.{arith}
use native.Mathlib.Numerals.{add-one}
use lib.Dec.{eqb}
use lib.ListN.{get_or, length}
use borrow.Author.Tests.{eq-eqb, ne_eqb}
use Rattle.std.specs.Prelude.{if◌then◌else◌}
use Rattle.machine.specs.Block.{base, word_of}
use Rattle.machine.specs.Colouring.{Colouring, is_free}
use Rattle.machine.specs.Heap.{Heap, colouring}
use Rattle.machine.specs.Entry.{is_block_or_none}
use Rattle.machine.specs.WellFormed.{Block}
use Rattle.machine.specs.Several.{link_of, frees, first_frees, list_walks, amongst, distinct}
use Rattle.machine.proofs.Tests.{both_true, both, by_test, clash, differ}
use Rattle.machine.proofs.Entering.{none_or_block}
use Rattle.machine.proofs.Steps.{never}
use Rattle.machine.proofs.Walking.{onward, onward_link, walks_blocks, last_new, last_again}
use Rattle.part_several.specs.Walk.{fits_at, walked_to, Within}

module _ (k : Colouring) (ws : List ℕ) (a : ℕ) where
  abbrev m : ℕ
  m = k.blocks

  pub fits_block : (a ≢ 0 → Block m a) → fits_at k ws a ≡ true → Block m a × (word_of ws a 0 ≢ 0 → Block m (word_of ws a 0))
  unfolding fits_at
  fits_block b e =
      let u = both_true (not (eqb a 0)) (is_free k a && is_block_or_none m (word_of ws a 0)) e in
      let v = both_true (is_free k a) (is_block_or_none m (word_of ws a 0)) u.1 in
      (b (differ a 0 u.0), none_or_block m (word_of ws a 0) v.1)

  -- the same of the link as the code reads it
  pub fits_next : (a ≢ 0 → Block m a) → fits_at k ws a ≡ true → get_or ws (base a) 0 ≢ 0 → Block m (get_or ws (base a) 0)
  fits_next b e = rw (add-zero (base a)) at (fits_block b e).1

module _ (c : Colouring) (ws : List ℕ) (t n a l : ℕ) (i : t ≡ walked_to c ws n a l) where
  pub walked_on : (k : ℕ) → n ≡ k + 1 → fits_at c ws a ≡ true → t ≡ walked_to c ws k (get_or ws (base a) 0) a
  unfolding walked_to
  walked_on k e h = (simp h at (rw (e, add-one k) at i)) ∙ ap (λ (x : ℕ). walked_to c ws k (get_or ws x 0) a) (add-zero (base a))

  pub walked_off : (k : ℕ) → n ≡ k + 1 → fits_at c ws a ≡ false → 0 ≡ t
  unfolding walked_to
  walked_off k e h = sym (simp h at (rw (e, add-one k) at i))

  pub walked_end : n ≡ 0 → l ≡ t
  unfolding walked_to
  walked_end e = sym (rw e at i)

module _ (h : Heap) where
  abbrev ends : ℕ → ℕ → ℕ → ℕ
  ends n a l = walked_to (colouring h) h.words n a l

  -- a step of the machine's walk is one of the code's
  walks_step : (n a : ℕ) → list_walks (suc n) a h ≡ (fits_at (colouring h) h.words a && list_walks n (link_of h a) h)
  unfolding list_walks fits_at
  walks_step n a = by_test (eqb a 0)
      (λ z. simp z)
      (λ z. by_test (is_free (colouring h) a) (λ f. simp (z, f)) (λ f. simp (z, f)))

  walks_both : (n a : ℕ) → list_walks (suc n) a h ≡ true → (fits_at (colouring h) h.words a ≡ true) × (list_walks n (link_of h a) h ≡ true)
  walks_both n a e = both_true (fits_at (colouring h) h.words a) (list_walks n (link_of h a) h) (sym (walks_step n a) ∙ e)

  pub walked_last : (n a l : ℕ) → list_walks (suc n) a h ≡ true → ends (suc n) a l ≡ onward h a n
  unfolding walked_to onward
  walked_last zero a l e =
      let u = walks_both zero a e in
      simp u.0
  walked_last (suc n) a l e =
      let u = walks_both (suc n) a e in
      simp u.0 (walked_last n (link_of h a) a u.1 ∙ onward_link h a n)

  pub walked_none : (n a l : ℕ) → list_walks n a h ≡ false → ends n a l ≡ 0
  unfolding walked_to list_walks
  walked_none zero a l e = clash refl e
  walked_none (suc n) a l e = by_test (fits_at (colouring h) h.words a)
      (λ t. simp t (walked_none n (link_of h a) a (simp t at (sym (walks_step n a) ∙ e))))
      (λ t. simp t)

  walks_fewer : (n a : ℕ) → list_walks (suc n) a h ≡ true → list_walks n a h ≡ true
  unfolding list_walks
  walks_fewer zero a e = refl
  walks_fewer (suc n) a e =
      let u = walks_both (suc n) a e in
      walks_step n a ∙ both {a = fits_at (colouring h) h.words a} u.0 (walks_fewer n (link_of h a) u.1)

  module _ (d : length h.words ≡ 8 * h.regs.blocks) where
    pub walks_within : (n a : ℕ) → list_walks n a h ≡ true → (a ≢ 0 → Block h.regs.blocks a) → Within h.words n a
    unfolding Within
    walks_within zero a e b = tt
    walks_within (suc n) a e b =
        let u = walks_both n a e in
        let (k, l) = fits_block (colouring h) h.words a b u.0 in
        (k.low, omega arith, walks_within n (link_of h a) u.1 l)

-- the walk as the code makes it, n blocks from the free head on, and the search for the last of them among the others
module _ (h : Heap) (n : ℕ) {last : ℕ} (q : last ≡ ends h n h.regs.free 0) where
  pub last_walks : last ≢ 0 → list_walks n h.regs.free h ≡ true
  last_walks z = by_test (list_walks n h.regs.free h) (λ t. t) (λ t. absurd (z (q ∙ walked_none h n h.regs.free 0 t)))

  last_as : (k : ℕ) → n ≡ suc k → list_walks n h.regs.free h ≡ true → last ≡ onward h h.regs.free k
  last_as k e w = q ∙ rw e (walked_last h k h.regs.free 0 (rw e at w))

  pub last_none : (h.regs.free ≢ 0 → Block h.regs.blocks h.regs.free) → 1 ≤ n → last ≡ 0 → list_walks n h.regs.free h ≡ false
  last_none b o z = by_test (list_walks n h.regs.free h)
      (λ t.
      let l = (walks_blocks h n h.regs.free t b (n - 1) (omega arith)).low in
      absurd (omega (arith, last_as (n - 1) (omega arith) t)))
      (λ t. t)

  module _ (z : last ≢ 0) (o : 1 ≤ n) where
    pub before_last : (h.regs.free ≢ 0 → Block h.regs.blocks h.regs.free) → length h.words ≡ 8 * h.regs.blocks → Within h.words (n - 1) h.regs.free
    before_last b d = walks_within h d (n - 1) h.regs.free (fewer n (n - 1) (omega arith) (last_walks z)) b
      where
        fewer : (i k : ℕ) → i ≡ suc k → list_walks i h.regs.free h ≡ true → list_walks k h.regs.free h ≡ true
        fewer i k e w = walks_fewer h k h.regs.free (rw e at w)

    module _ {t : Bool} (m : t ≡ amongst last (frees (n - 1) h.regs.free h)) where
      met_last : (k : ℕ) → n ≡ suc k → n - 1 ≡ k → t ≡ amongst (onward h h.regs.free k) (frees k h.regs.free h)
      met_last k e f = m ∙ rw (f, last_as k e (last_walks z)) refl

      pub repeats : t ≡ true → distinct (first_frees n h) ≡ false
      unfolding first_frees
      repeats y = go (n - 1) (omega arith) refl
        where
          go : (k : ℕ) → n ≡ suc k → n - 1 ≡ k → distinct (frees n h.regs.free h) ≡ false
          go k e f = rw e (last_again h k h.regs.free (sym (met_last k e f) ∙ y))

      pub differs : t ≡ false → distinct (first_frees n h) ≡ true
      unfolding first_frees
      differs y = go (n - 1) (omega arith) refl
        where
          go : (k : ℕ) → n ≡ suc k → n - 1 ≡ k → distinct (frees n h.regs.free h) ≡ true
          go k e f = rw e (last_new h k h.regs.free (sym (met_last k e f) ∙ y))

-- what a step of the search asks for, and what it leaves
pub within_step : (ws : List ℕ) (n a k : ℕ) → n ≡ k + 1 → Within ws n a → (2 ≤ a) × (base a < length ws) × Within ws k (get_or ws (base a) 0)
unfolding Within
within_step ws n a k e d =
    let (l, b, w) = rw (e, add-one k) at d in
    (l, b, rw (add-zero (base a)) at w)

module _ (h : Heap) (t : Bool) (x n a : ℕ) (i : t ≡ amongst x (frees n a h)) where
  pub met_on : (k : ℕ) → n ≡ k + 1 → a ≢ x → t ≡ amongst x (frees k (get_or h.words (base a) 0) h)
  unfolding frees amongst
  met_on k e o =
      (simp (ne_eqb x a (λ z. o (sym z))) at (rw (e, add-one k) at i))
      ∙ ap (λ (y : ℕ). amongst x (frees k (get_or h.words y 0) h)) (add-zero (base a))

  pub met_found : (k : ℕ) → n ≡ k + 1 → a ≡ x → true ≡ t
  unfolding frees amongst
  met_found k e o = sym (simp (eq-eqb x a (sym o)) at (rw (e, add-one k) at i))

  pub met_end : n ≡ 0 → false ≡ t
  unfolding frees amongst
  met_end e = sym (rw e at i)

pub heads_agree : (p q : Bool) → beq p q ≡ true → ◌≡◌ {A = ℕ} 0 (if p then (if q then 0 else 8) else (if q then 8 else 0))
heads_agree true true e = refl
heads_agree true false e = never (cc)
heads_agree false true e = never (cc)
heads_agree false false e = refl

pub heads_differ : (p q : Bool) → beq p q ≡ false → ◌≡◌ {A = ℕ} 8 (if p then (if q then 0 else 8) else (if q then 8 else 0))
heads_differ true true e = never (cc)
heads_differ true false e = refl
heads_differ false true e = refl
heads_differ false false e = never (cc)
