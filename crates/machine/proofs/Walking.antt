-- Following links from a block on: when the first n blocks are all different.
--     onward h a j             the block j links on from a
--     at_frees                 the numbers of a list followed by links, by their index
--     absent, not_absent       a number is none of the first n, by their index
--     apart, not_apart         the first n are all different, by their indexes
--     walks_head               what the walk establishes of its first block
--     walks_blocks, walks_free     the blocks met are blocks and coloured free
--     last_new, last_again     the first n + 1 are all different exactly where the last is none of the others
-- Two equal blocks have equal links, so what follows them is equal too. Where the blocks i and j are equal, i < j ≤ n, block n
-- equals block n - (j - i), which comes earlier: a repeat anywhere shows at the last block, and one comparison a block finds it.
-- Assumes nothing.
use Prim.Native.Nat.{ℕ, zero, suc, ◌+◌, ◌-◌, ◌<◌}
use mathlib.Core.Path.{◌≡◌, refl, sym, ◌∙◌, ap}
use mathlib.Core.Logic.{◌≢◌}
use mathlib.Core.Bool.{true, false, ◌&&◌, not}
use native.Mathlib.Nat.{zero-add, suc-add}
use native.Mathlib.Omega.{arith}
use lib.Dec.{eqb}
use lib.ListN.{get_or}
use borrow.Author.Tests.{eq-eqb, ne_eqb}
use Rattle.machine.specs.Colouring.{is_free}
use Rattle.machine.specs.Heap.{Heap, colouring}
use Rattle.machine.specs.Entry.{is_block_or_none}
use Rattle.machine.specs.WellFormed.{Block}
use Rattle.machine.specs.Several.{link_of, frees, list_walks, amongst, distinct}
use Rattle.machine.proofs.Tests.{both_true, both, by_test, clash, differ}
use Rattle.machine.proofs.Entering.{none_or_block}

unfoldable pub onward : Heap → ℕ → ℕ → ℕ
onward h a zero = a
onward h a (suc j) = link_of h (onward h a j)

module _ (h : Heap) where
  pub onward_link : (a j : ℕ) → onward h (link_of h a) j ≡ onward h a (suc j)
  unfolding onward
  onward_link a zero = refl
  onward_link a (suc j) = ap (link_of h) (onward_link a j)

  -- equal blocks lead to equal blocks
  onward_same : (a i j d : ℕ) → onward h a i ≡ onward h a j → onward h a (d + i) ≡ onward h a (d + j)
  unfolding onward
  onward_same a i j zero e = ap (onward h a) (zero-add i) ∙ e ∙ sym (ap (onward h a) (zero-add j))
  onward_same a i j (suc d) e = ap (onward h a) (suc-add d i) ∙ ap (link_of h) (onward_same a i j d e) ∙ sym (ap (onward h a) (suc-add d j))

  pub at_frees : (n a j : ℕ) → j < n → get_or (frees n a h) j 0 ≡ onward h a j
  unfolding frees onward
  at_frees zero a j l = absurd (omega arith)
  at_frees (suc n) a zero l = refl
  at_frees (suc n) a (suc j) l = at_frees n (link_of h a) j (omega arith) ∙ onward_link a j

  pub absent : (x n a : ℕ) → amongst x (frees n a h) ≡ false → (j : ℕ) → j < n → x ≢ onward h a j
  unfolding frees amongst onward
  absent x zero a e j l = absurd (omega arith)
  absent x (suc n) a e zero l = λ z. clash (simp (eq-eqb x a z)) e
  absent x (suc n) a e (suc j) l = by_test (eqb x a)
      (λ t. clash (simp t) e)
      (λ t. λ z. absent x n (link_of h a) (simp t at e) j (omega arith) (z ∙ sym (onward_link a j)))

  pub not_absent : (x n a : ℕ) → ((j : ℕ) → j < n → x ≢ onward h a j) → amongst x (frees n a h) ≡ false
  unfolding frees amongst onward
  not_absent x zero a f = refl
  not_absent x (suc n) a f =
      simp (ne_eqb x a (f 0 (omega arith))) (not_absent x n (link_of h a) (λ j l z. f (suc j) (omega arith) (z ∙ onward_link a j)))

  pub apart : (n a : ℕ) → distinct (frees n a h) ≡ true → (j k : ℕ) → j < k → k < n → onward h a j ≢ onward h a k
  unfolding frees distinct onward
  apart zero a e j k l m = absurd (omega arith)
  apart (suc n) a e j zero l m = absurd (omega arith)
  apart (suc n) a e zero (suc k) l m =
      let d = both_true (not (amongst a (frees n (link_of h a) h))) (distinct (frees n (link_of h a) h)) e in
      by_test (amongst a (frees n (link_of h a) h))
      (λ t. clash d.0 (simp t))
      (λ t z. absent a n (link_of h a) t k (omega arith) (z ∙ sym (onward_link a k)))
  apart (suc n) a e (suc j) (suc k) l m =
      let d = both_true (not (amongst a (frees n (link_of h a) h))) (distinct (frees n (link_of h a) h)) e in
      λ z. apart n (link_of h a) d.1 j k (omega arith) (omega arith) (onward_link a j ∙ z ∙ sym (onward_link a k))

  pub not_apart : (n a : ℕ) → ((j k : ℕ) → j < k → k < n → onward h a j ≢ onward h a k) → distinct (frees n a h) ≡ true
  unfolding frees distinct onward
  not_apart zero a f = refl
  not_apart (suc n) a f =
      both {a = not (amongst a (frees n (link_of h a) h))}
      (simp (not_absent a n (link_of h a) (λ j l z. f 0 (suc j) (omega arith) (omega arith) (z ∙ onward_link a j))))
      (not_apart n (link_of h a) (λ j k l m z. f (suc j) (suc k) (omega arith) (omega arith) (sym (onward_link a j) ∙ z ∙ onward_link a k)))

  pub last_new : (n a : ℕ) → amongst (onward h a n) (frees n a h) ≡ false → distinct (frees (suc n) a h) ≡ true
  last_new n a e =
      not_apart (suc n) a (λ i j l m z.
      let p : n - j + i < n = omega arith in
      let q : n - j + j ≡ n = omega arith in
      absent (onward h a n) n a e (n - j + i) p (sym (onward_same a i j (n - j) z ∙ ap (onward h a) q)))

  pub last_again : (n a : ℕ) → amongst (onward h a n) (frees n a h) ≡ true → distinct (frees (suc n) a h) ≡ false
  last_again n a e = by_test (distinct (frees (suc n) a h))
      (λ t. clash e (not_absent (onward h a n) n a (λ j l z. apart (suc n) a t j n l (omega arith) (sym z))))
      (λ t. t)

  pub walks_head : (n a : ℕ) → list_walks (suc n) a h ≡ true
      → (a ≢ 0) × (is_free (colouring h) a ≡ true) × (is_block_or_none h.regs.blocks (link_of h a) ≡ true) × (list_walks n (link_of h a) h ≡ true)
  unfolding list_walks
  walks_head n a e =
      let c = is_free (colouring h) a in
      let l = is_block_or_none h.regs.blocks (link_of h a) in
      let u = both_true (not (eqb a 0)) (c && (l && list_walks n (link_of h a) h)) e in
      let v = both_true c (l && list_walks n (link_of h a) h) u.1 in
      let w = both_true l (list_walks n (link_of h a) h) v.1 in
      (differ a 0 u.0, v.0, w.0, w.1)

  pub walks_blocks : (n a : ℕ) → list_walks n a h ≡ true → (a ≢ 0 → Block h.regs.blocks a) → (j : ℕ) → j < n → Block h.regs.blocks (onward h a j)
  unfolding onward
  walks_blocks zero a e b j l = absurd (omega arith)
  walks_blocks (suc n) a e b zero l = b (walks_head n a e).0
  walks_blocks (suc n) a e b (suc j) l =
      let u = walks_head n a e in
      rw (← onward_link a j) (walks_blocks n (link_of h a) u.3 (none_or_block h.regs.blocks (link_of h a) u.2) j (omega arith))

  pub walks_free : (n a : ℕ) → list_walks n a h ≡ true → (j : ℕ) → j < n → is_free (colouring h) (onward h a j) ≡ true
  unfolding onward
  walks_free zero a e j l = absurd (omega arith)
  walks_free (suc n) a e zero l = (walks_head n a e).1
  walks_free (suc n) a e (suc j) l = rw (← onward_link a j) (walks_free n (link_of h a) (walks_head n a e).3 j (omega arith))
