-- What the five moves of the running program have in common.
--     Tinted h k n c       c's colour stayed; or c is n and was greyed by the barrier; or c is n and was taken
--     Mutation M n h k     one of those moves, n being the block that it names, 0 where it names none
--     same_ref             the same cells name the same
--     fresh_free_lem, fresh_grey, fresh_dark, fresh_live     of the colour of a new block
--     tinted_free, tinted_kept, tinted_white, tinted_steady, tinted_live, was_live      free, white, live before and after
--     number_mutation, ref_mutation, root_mutation, held_mutation, taken_mutation     each move is a Mutation
-- Assumes nothing.
use Prim.Native.Nat.{ℕ, ◌+◌, ◌≤◌}
use mathlib.Core.Path.{◌≡◌, refl, sym, ◌∙◌}
use mathlib.Core.Logic.{◌≢◌}
use mathlib.Core.Bool.{Bool, true, false}
use native.Mathlib.Omega.{arith}
use Rattle.theory_reach.specs.Sums.{Block}
use Rattle.theory_reach.proofs.Splits.{never, by_eq}
use Rattle.theory_moves.specs.Tints.{Tint, White, Grey, Free, Turned, turned, stayed}
use Rattle.theory_moves.specs.Heaps.{Abs, marking, sweeping, named, ref, Live}
use Rattle.theory_moves.specs.Moves.{SameCells, Steady, Holds, WriteNumber, Barred, WriteRef, SetRoot, Fresh, new_marking, new_ahead, new_behind, new_idle, Taken, TakeHeld, TakeRoot}

pub data Tinted (h k : Abs) (n c : ℕ) : Type 0 where
  keeps : k.tint c ≡ h.tint c → Tinted h k n c
  greys : h.phase ≡ marking → c ≡ n → h.tint c ≡ White → k.tint c ≡ Grey → Tinted h k n c
  takes : c ≡ n → h.tint c ≡ Free → Fresh h c (k.tint c) → Tinted h k n c

pub record Mutation (M n : ℕ) (h k : Abs) : Type 0 where
  pub steady : Steady h k
  pub tints : (c : ℕ) → Block M c → Tinted h k n c
  -- a root or a reference that is not n was there before
  pub root : k.root ≢ n → k.root ≡ h.root
  pub refs : (b w x : ℕ) → Block M b → ref k b w ≡ x → x ≢ 0 → x ≢ n → ref h b w ≡ x
  -- free blocks are not written to
  pub frees : (b w : ℕ) → Block M b → h.tint b ≡ Free → k.is_ref b w ≡ h.is_ref b w
  -- the block named is live afterwards, and while marking it isn't white
  pub target : n ≢ 0 → Live M k n
  pub dark : n ≢ 0 → h.phase ≡ marking → k.tint n ≢ White
  -- the mark doesn't fall, stays within the heap, and is at or above a block that was taken
  pub rises : h.mark ≤ k.mark
  pub within : h.mark ≤ M + 1 → k.mark ≤ M + 1
  pub covers : n ≢ 0 → h.tint n ≡ Free → n ≤ k.mark

pub same_ref : {h k : Abs} {b : ℕ} → SameCells h k b → (w : ℕ) → ref k b w ≡ ref h b w
same_ref s w = rw (s.bits w, s.words w) refl

pub fresh_free_lem : {h : Abs} {x : ℕ} {t : Tint} → Fresh h x t → t ≢ Free
fresh_free_lem (new_marking p e) z = never (cc)
fresh_free_lem (new_ahead p l e) z = never (cc)
fresh_free_lem (new_behind p l e) z = never (cc)
fresh_free_lem (new_idle p e) z = never (cc)

pub fresh_grey : {h : Abs} {x : ℕ} {t : Tint} → Fresh h x t → t ≢ Grey
fresh_grey (new_marking p e) z = never (cc)
fresh_grey (new_ahead p l e) z = never (cc)
fresh_grey (new_behind p l e) z = never (cc)
fresh_grey (new_idle p e) z = never (cc)

pub fresh_dark : {h : Abs} {x : ℕ} {t : Tint} → Fresh h x t → h.phase ≡ marking → t ≢ White
fresh_dark (new_marking p e) m z = never (cc)
fresh_dark (new_ahead p l e) m z = absurd (omega arith)
fresh_dark (new_behind p l e) m z = absurd (omega arith)
fresh_dark (new_idle p e) m z = absurd (omega arith)

-- a new block isn't doomed
pub fresh_live : {M : ℕ} {h k : Abs} {x : ℕ} → Steady h k → Block M x → Fresh h x (k.tint x) → Live M k x
fresh_live {M} {h} {k} {x} s l f =
    record { block = l; allocated = fresh_free_lem f; spared = λ d. go f d.white (sym s.phase ∙ d.phase) (omega (arith, s.position, d.ahead)) }
  where
    go : Fresh h x (k.tint x) → k.tint x ≡ White → h.phase ≡ sweeping → h.position ≤ x → ⊥
    go (new_marking p e) w t g = never (cc)
    go (new_ahead p n e) w t g = never (cc)
    go (new_behind p n e) w t g = absurd (omega arith)
    go (new_idle p e) w t g = absurd (omega arith)

module _ {h k : Abs} {n c : ℕ} where
  pub tinted_free : Tinted h k n c → k.tint c ≡ Free → h.tint c ≡ Free
  tinted_free (keeps e) z = cc
  tinted_free (greys p i w e) z = never (cc)
  tinted_free (takes i f g) z = f

  pub tinted_kept : Tinted h k n c → h.tint c ≢ Free → k.tint c ≢ Free
  tinted_kept (keeps e) a z = a (cc)
  tinted_kept (greys p i w e) a z = never (cc)
  tinted_kept (takes i f g) a z = a f

  -- a block that was allocated is white afterwards only if it was
  pub tinted_white : Tinted h k n c → h.tint c ≢ Free → k.tint c ≡ White → h.tint c ≡ White
  tinted_white (keeps e) a z = cc
  tinted_white (greys p i w e) a z = w
  tinted_white (takes i f g) a z = absurd (a f)

  pub tinted_steady : Tinted h k n c → h.phase ≢ marking → h.tint c ≡ White → k.tint c ≡ White
  tinted_steady (keeps e) a z = cc
  tinted_steady (greys p i w e) a z = absurd (a p)
  tinted_steady (takes i f g) a z = never (cc)

module _ {M : ℕ} {h k : Abs} {n b : ℕ} (s : Steady h k) (t : Tinted h k n b) where
  pub tinted_live : Live M h b → Live M k b
  tinted_live l =
      record {
        block = l.block;
        allocated = tinted_kept t l.allocated;
        spared = λ d. l.spared (record { phase = sym s.phase ∙ d.phase; ahead = omega (arith, s.position, d.ahead); white = tinted_white t l.allocated d.white });
      }

  pub was_live : h.tint b ≢ Free → Live M k b → Live M h b
  was_live a l =
      record {
        block = l.block;
        allocated = a;
        spared = λ d. l.spared (record { phase = s.phase ∙ d.phase; ahead = omega (arith, s.position, d.ahead); white = tinted_steady t (λ z. absurd (omega (arith, d.phase))) d.white });
      }

-- the barrier as a Tinted
barred : {h k : Abs} {t c : ℕ} → Turned (Barred h t c) (h.tint c) (k.tint c) → Tinted h k t c
barred (turned i p q) = greys i.phase i.target p q
barred (stayed m e) = keeps e

-- after the barrier a live target is live, and not white while marking
barred_dark : (h k : Abs) (t : ℕ) → Turned (Barred h t t) (h.tint t) (k.tint t) → h.phase ≡ marking → k.tint t ≢ White
barred_dark h k t (turned i p q) m z = never (cc)
barred_dark h k t (stayed n e) m z = n (record { phase = m; target = refl }) (cc)

-- a reference that is not the one written was there before
holds_ref : {h k : Abs} {b w v : ℕ} {t : Bool} (n u x : ℕ) → Holds h k b w v t → (t ≡ true → v ≡ n) → ref k b u ≡ x → x ≢ 0 → x ≢ n → ref h b u ≡ x
unfolding named
holds_ref {h} {k} {b} {w} {v} {t} n u x s a e z m =
    by_eq u w
    (λ i. absurd (go t s.bit a (sym e ∙ rw i refl)))
    (λ i. rw (← s.bits u i, ← s.words u i) e)
  where
    go : (t : Bool) → k.is_ref b w ≡ t → (t ≡ true → v ≡ n) → x ≡ named (k.is_ref b w) (k.word b w) → ⊥
    go true p a q = m (cc (s.word, a refl))
    go false p a q = z (cc)

named_none : (t : Bool) → named t 0 ≡ 0
unfolding named
named_none true = refl
named_none false = refl

-- whatever the block taken names, it named before
taken_ref : {M x : ℕ} {h k : Abs} (u y : ℕ) → Taken M x h k → ref k x u ≡ y → y ≢ 0 → ref h x u ≡ y
taken_ref {M} {x} {h} {k} u y t e z =
    by_eq u 0
    (λ i. absurd (z (sym e ∙ rw (i, t.emptied) (named_none _))))
    (λ i. rw (← t.bits u, ← t.words u i) e)

module _ {M : ℕ} {h k : Abs} where
  pub number_mutation : (b w v : ℕ) → WriteNumber M b w v h k → Mutation M 0 h k
  number_mutation b w v m =
      record {
        steady = m.steady;
        tints = λ c l. keeps (m.tints c l);
        root = λ n. m.root;
        refs = λ c u x l e z n.
            by_eq c b
            (λ i. rw i (holds_ref 0 u x m.holds (λ f. never (cc)) (rw i at e) z n))
            (λ i. sym (same_ref (m.others c l i) u) ∙ e);
        frees = λ c u l f. (m.others c l (λ i. m.live.allocated (cc))).bits u;
        target = λ n. absurd (n refl);
        dark = λ n. absurd (n refl);
        rises = omega (arith, m.mark);
        within = λ i. omega (arith, m.mark);
        covers = λ n. absurd (n refl);
      }

  pub ref_mutation : (b w t : ℕ) → WriteRef M b w t h k → Mutation M t h k
  ref_mutation b w t m =
      record {
        steady = m.steady;
        tints = λ c l. barred (m.tints c l);
        root = λ n. m.root;
        refs = λ c u x l e z n.
            by_eq c b
            (λ i. rw i (holds_ref t u x m.holds (λ f. refl) (rw i at e) z n))
            (λ i. sym (same_ref (m.others c l i) u) ∙ e);
        frees = λ c u l f. (m.others c l (λ i. m.live.allocated (cc))).bits u;
        target = λ n. tinted_live m.steady (barred (m.tints t (m.target n).block)) (m.target n);
        dark = λ n. barred_dark h k t (m.tints t (m.target n).block);
        rises = omega (arith, m.mark);
        within = λ i. omega (arith, m.mark);
        covers = λ n f. absurd ((m.target n).allocated f);
      }

  pub root_mutation : (t : ℕ) → SetRoot M t h k → Mutation M t h k
  root_mutation t m =
      record {
        steady = m.steady;
        tints = λ c l. barred (m.tints c l);
        root = λ n. absurd (n m.root);
        refs = λ c u x l e z n. sym (same_ref (m.cells c l) u) ∙ e;
        frees = λ c u l f. (m.cells c l).bits u;
        target = λ n. tinted_live m.steady (barred (m.tints t (m.target n).block)) (m.target n);
        dark = λ n. barred_dark h k t (m.tints t (m.target n).block);
        rises = omega (arith, m.mark);
        within = λ i. omega (arith, m.mark);
        covers = λ n f. absurd ((m.target n).allocated f);
      }

  taken_tints : (x : ℕ) → Taken M x h k → (c : ℕ) → Block M c → Tinted h k x c
  taken_tints x t c l =
      by_eq c x
      (λ i. takes i (rw i t.free) (rw i t.fresh))
      (λ i. keeps (t.tints c l i))

  pub held_mutation : (x b w : ℕ) → TakeHeld M x b w h k → Mutation M x h k
  held_mutation x b w m =
      record {
        steady = m.steady;
        tints = taken_tints x m.taken;
        root = λ n. m.root;
        refs = λ c u y l e z n.
            by_eq c b
            (λ i. rw i (holds_ref x u y m.holds (λ f. refl) (rw i at e) z n))
            (λ i. by_eq c x
            (λ j. rw j (taken_ref u y m.taken (rw j at e) z))
            (λ j. sym (same_ref (m.others c l i j) u) ∙ e));
        frees = λ c u l f.
            by_eq c x
            (λ j. rw j (m.taken.bits u))
            (λ j. (m.others c l (λ i. m.live.allocated (cc)) j).bits u);
        target = λ n. fresh_live m.steady m.taken.block m.taken.fresh;
        dark = λ n. fresh_dark m.taken.fresh;
        rises = omega (arith, m.taken.mark);
        within = λ i. omega (arith, m.taken.mark, m.taken.block.high);
        covers = λ n f. omega (arith, m.taken.mark);
      }

  pub taken_mutation : (x : ℕ) → TakeRoot M x h k → Mutation M x h k
  taken_mutation x m =
      record {
        steady = m.steady;
        tints = taken_tints x m.taken;
        root = λ n. absurd (n m.root);
        refs = λ c u y l e z n.
            by_eq c x
            (λ j. rw j (taken_ref u y m.taken (rw j at e) z))
            (λ j. sym (same_ref (m.others c l j) u) ∙ e);
        frees = λ c u l f.
            by_eq c x
            (λ j. rw j (m.taken.bits u))
            (λ j. (m.others c l j).bits u);
        target = λ n. fresh_live m.steady m.taken.block m.taken.fresh;
        dark = λ n. fresh_dark m.taken.fresh;
        rises = omega (arith, m.taken.mark);
        within = λ i. omega (arith, m.taken.mark, m.taken.block.high);
        covers = λ n f. omega (arith, m.taken.mark);
      }
