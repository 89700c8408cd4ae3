-- The free list as moves change it: freed blocks go to its front, and the blocks that were never used are its end, in rising order.
--     HeadSwept h k a b, HeadTaken x h a b, Heads m a b     how the move m changes the first of the free list, from a to b
--     Rising M h           the blocks above the mark are linked in rising order
--     Orderly M a h        so they are, and a and the links of the other free blocks lead to no block above the mark but the lowest
--     Rest M b h           b is the lowest block above the mark, and 0 where there is none
--     Linked M b h k       after a move: the list is orderly, and the mark is where it was, or only blocks above it are left
--     move_linked          every move leaves that
--     rest_long            a list that begins with the lowest block above the mark has all of those, and no others
-- No list is in it: only the first block, and the link of each free block, which is its word 0.
-- Assumes nothing.
use Prim.Native.Nat.{ℕ, ◌+◌, ◌≤◌, ◌<◌}
use mathlib.Core.Path.{◌≡◌, sym, ◌∙◌, subst}
use mathlib.Core.Logic.{◌≢◌, ◌⊎◌, inl, inr}
use mathlib.Core.List.{List}
use native.Mathlib.Omega.{arith}
use lib.ListN.{length}
use Rattle.machine.specs.WellFormed.{Listed, ends, goes}
use Rattle.machine.proofs.Tests.{by_eq}
use Rattle.machine.proofs.Steps.{never}
use Rattle.theory_reach.specs.Sums.{Block}
use Rattle.theory_reach.proofs.Splits.{by_le}
use Rattle.theory_moves.specs.Tints.{Tint, White, Free}
use Rattle.theory_moves.specs.Heaps.{Abs, Sound}
use Rattle.theory_moves.specs.Moves.{Swept, freeing, whitening, passing, Sweep, Fresh, new_marking, new_ahead, new_behind, new_idle, Taken, Move}
use Rattle.theory_moves.specs.Moves.{begin, mark, turn, sweep, write_number, write_ref, set_root, take_held, take_root}
use Rattle.theory_moves.proofs.Tints.{was_free}
use Rattle.theory_promises.proofs.TakingMoves.{none_long}

-- a white block is freed and goes to the front; else the list stays
pub data HeadSwept (h k : Abs) (a b : ℕ) : Type 0 where
  onto : h.tint h.position ≡ White → b ≡ h.position → k.word h.position 0 ≡ a → HeadSwept h k a b
  past : h.tint h.position ≢ White → b ≡ a → HeadSwept h k a b

-- the first is taken
pub record HeadTaken (x : ℕ) (h : Abs) (a b : ℕ) : Type 0 where
  pub first : a ≡ x
  pub next : b ≡ h.word x 0

abbrev pub Heads : {M : ℕ} {h k : Abs} → Move M h k → ℕ → ℕ → Type 0
Heads (begin m) a b = b ≡ a
Heads (mark c m) a b = b ≡ a
Heads (turn m) a b = b ≡ a
Heads {M} {h} {k} (sweep m) a b = HeadSwept h k a b
Heads (write_number c w v m) a b = b ≡ a
Heads (write_ref c w t m) a b = b ≡ a
Heads (set_root t m) a b = b ≡ a
Heads {M} {h} (take_held x c w m) a b = HeadTaken x h a b
Heads {M} {h} (take_root x m) a b = HeadTaken x h a b

pub record Rising (M : ℕ) (h : Abs) : Type 0 where
  pub next : (b : ℕ) → Block M b → h.mark < b → b ≤ M → h.word b 0 ≡ b + 1
  pub last : (b : ℕ) → Block M b → h.mark < b → b ≡ M + 1 → h.word b 0 ≡ 0

pub record Orderly (M a : ℕ) (h : Abs) : Type 0 where
  pub head : a ≤ h.mark + 1
  pub links : (b : ℕ) → Block M b → h.tint b ≡ Free → b ≤ h.mark → h.word b 0 ≤ h.mark + 1
  pub above : Rising M h

pub record Rest (M b : ℕ) (h : Abs) : Type 0 where
  pub some : h.mark ≤ M → b ≡ h.mark + 1
  pub none : M < h.mark → b ≡ 0

pub record Linked (M b : ℕ) (h k : Abs) : Type 0 where
  pub orderly : Orderly M b k
  pub climbed : (k.mark ≡ h.mark) ⊎ Rest M b k

-- a new block isn't free
fresh_taken : {h : Abs} {x : ℕ} {t : Tint} → Fresh h x t → t ≢ Free
fresh_taken (new_marking p e) z = never (cc)
fresh_taken (new_ahead p l e) z = never (cc)
fresh_taken (new_behind p l e) z = never (cc)
fresh_taken (new_idle p e) z = never (cc)

-- what keeps the links above the mark keeps the order
still_rising : {M : ℕ} {h k : Abs} → Rising M h → h.mark ≤ k.mark → ((c : ℕ) → Block M c → k.mark < c → k.word c 0 ≡ h.word c 0) → Rising M k
still_rising r m w =
    record {
      next = λ b l i n. w b l i ∙ r.next b l (omega arith) n;
      last = λ b l i n. w b l i ∙ r.last b l (omega arith) n;
    }

module _ {M a : ℕ} {h k : Abs} (s : Sound M h) (o : Orderly M a h) where
  -- no block is freed, and the free ones keep their links
  same : {b : ℕ} → b ≡ a → k.mark ≡ h.mark → ((c : ℕ) → Block M c → k.tint c ≡ Free → h.tint c ≡ Free)
      → ((c : ℕ) → Block M c → h.tint c ≡ Free → k.word c 0 ≡ h.word c 0) → Linked M b h k
  same e q f w =
      record {
        orderly =
            record {
              head = omega (arith, o.head);
              links = λ c l t n. let z = f c l t in omega (arith, w c l z, o.links c l z (omega arith));
              above = still_rising o.above (omega arith) (λ c l n. w c l (s.mark_over c l (omega arith)));
            };
        climbed = inl q;
      }

  swept_past : h.tint h.position ≢ White → Swept h k h.position → k.tint h.position ≡ Free → h.tint h.position ≡ Free
  swept_past n (freeing w f c) e = absurd (n w)
  swept_past n (whitening b w c) e = never (cc)
  swept_past n (passing f g c) e = f

  swept_word : h.tint h.position ≢ White → Swept h k h.position → h.tint h.position ≡ Free → k.word h.position 0 ≡ h.word h.position 0
  swept_word n (freeing w f c) e = absurd (n w)
  swept_word n (whitening b w c) e = never (cc)
  swept_word n (passing f g c) e = c.words 0

  swept : {b : ℕ} → Sweep M h k → HeadSwept h k a b → Linked M b h k
  swept m (past n e) =
      let p = h.position in
      same e m.mark
      (λ c l t. by_eq c p
      (λ z. subst (λ (x : ℕ). h.tint x ≡ Free) (sym z) (swept_past n m.here (subst (λ (x : ℕ). k.tint x ≡ Free) z t)))
      (λ z. sym (m.tints c l z) ∙ t))
      (λ c l t. by_eq c p
      (λ z. subst (λ (x : ℕ). k.word x 0 ≡ h.word x 0) (sym z) (swept_word n m.here (subst (λ (x : ℕ). h.tint x ≡ Free) z t)))
      (λ z. (m.cells c l z).words 0))
  swept m (onto t e w) =
      let p = h.position in
      let q = m.mark in
      record {
        orderly =
            record {
              head = omega (arith, m.short);
              links = λ c l f n. by_eq c p
                  (λ z. subst (λ (x : ℕ). k.word x 0 ≤ k.mark + 1) (sym z) (omega (arith, o.head)))
                  (λ z. let g = sym (m.tints c l z) ∙ f in omega (arith, (m.cells c l z).words 0, o.links c l g (omega arith)));
              above = still_rising o.above (omega arith) (λ c l n. (m.cells c l (λ z. absurd (omega (arith, m.short)))).words 0);
            };
        climbed = inl q;
      }

  -- the first is taken, and the other free blocks keep their links
  module _ {x b : ℕ} (m : Taken M x h k) (e : HeadTaken x h a b) where
    -- where it lies above the mark, it is the lowest of those
    lowest : h.mark < x → (x ≡ h.mark + 1) × (k.mark ≡ x)
    lowest l = (omega (arith, e.first, o.head), omega (arith, m.mark))

    next_rest : h.mark < x → Rest M b k
    next_rest l =
        let q = lowest l in
        record {
          some = λ i. omega (arith, q.1, e.next, o.above.next x m.block l (omega (arith, q.1)));
          none = λ i. let g = m.block in e.next ∙ o.above.last x g l (omega (arith, q.1));
        }

    rest_near : Rest M b k → b ≤ k.mark + 1
    rest_near r = by_le k.mark M (λ i. omega (arith, r.some i)) (λ i. omega (arith, r.none i))

    taking : ((c : ℕ) → Block M c → c ≢ x → h.tint c ≡ Free → k.word c 0 ≡ h.word c 0) → Linked M b h k
    taking w =
        let q = m.mark in
        let y = e.first in
        let i = o.head in
        record {
          orderly =
              record {
                head = by_le x h.mark (λ l. omega (arith, e.next, o.links x m.block m.free l)) (λ l. rest_near (next_rest l));
                links = λ c l f n. by_eq c x
                    (λ r. absurd (fresh_taken m.fresh (subst (λ (j : ℕ). k.tint j ≡ Free) r f)))
                    (λ r. let t = sym (m.tints c l r) ∙ f in omega (arith, w c l r t, o.links c l t (omega arith)));
                above = still_rising o.above (omega arith) (λ c l n. w c l (λ r. absurd (omega arith)) (s.mark_over c l (omega arith)));
              };
          climbed = by_le x h.mark (λ l. inl (omega arith)) (λ l. inr (next_rest l));
        }

  pub move_linked : {b : ℕ} (m : Move M h k) → Heads m a b → Linked M b h k
  move_linked (begin m) e = same e m.mark (λ c l t. was_free (m.tints c l) t) (λ c l t. (m.cells c l).words 0)
  move_linked (mark b m) e =
      same e m.mark
      (λ c l t. by_eq c b
      (λ z. never (cc (m.black, subst (λ (x : ℕ). k.tint x ≡ Free) z t)))
      (λ z. was_free (m.tints c l z) t))
      (λ c l t. (m.cells c l).words 0)
  move_linked (turn m) e = same e m.mark (λ c l t. sym (m.tints c l) ∙ t) (λ c l t. (m.cells c l).words 0)
  move_linked (sweep m) e = swept m e
  move_linked (write_number b w v m) e =
      same e m.mark (λ c l t. sym (m.tints c l) ∙ t)
      (λ c l t. (m.others c l (λ z. m.live.allocated (subst (λ (x : ℕ). h.tint x ≡ Free) z t))).words 0)
  move_linked (write_ref b w v m) e =
      same e m.mark (λ c l t. was_free (m.tints c l) t)
      (λ c l t. (m.others c l (λ z. m.live.allocated (subst (λ (x : ℕ). h.tint x ≡ Free) z t))).words 0)
  move_linked (set_root t m) e = same e m.mark (λ c l t. was_free (m.tints c l) t) (λ c l t. (m.cells c l).words 0)
  move_linked (take_held x b w m) e =
      taking m.taken e (λ c l n t. (m.others c l (λ z. m.live.allocated (subst (λ (x : ℕ). h.tint x ≡ Free) z t)) n).words 0)
  move_linked (take_root x m) e = taking m.taken e (λ c l n t. (m.others c l n).words 0)

module _ {M x : ℕ} {h : Abs} (o : Orderly M x h) where
  abbrev link : ℕ → ℕ
  link b = h.word b 0

  rising_long : {b : ℕ} {l : List ℕ} → Listed link 0 b l → h.mark < b → 2 ≤ b → b ≤ M + 1 → length l + b ≡ M + 2
  rising_long (ends e) i j n = absurd (omega arith)
  rising_long (goes {a} z d) i j n =
      let g : Block M a = record { low = j; high = n } in
      by_le a M
      (λ r. let e = o.above.next a g i r in omega (arith, rising_long d (omega arith) (omega arith) (omega arith)))
      (λ r. omega (arith, none_long d (o.above.last a g i (omega arith))))

  pub rest_long : {l : List ℕ} → Sound M h → Rest M x h → Listed link 0 x l → length l + h.mark ≡ M + 1
  rest_long s r d =
      let low = s.mark_low in
      let high = s.mark_high in
      by_le h.mark M
      (λ i. let e = r.some i in omega (arith, rising_long d (omega arith) (omega arith) (omega arith)))
      (λ i. omega (arith, none_long d (r.none i)))
