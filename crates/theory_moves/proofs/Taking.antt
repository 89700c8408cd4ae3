-- How many blocks are allocated, along moves; and which, at a cycle's end.
--     few_over             a unit leaves at most K blocks reachable
--     stands_one, stands_some   the weight is 1 at most, and 0 for what is free
--     allocated_in         if every allocated block is in a list, they are at most as many as it is long
--     move_stands, run_stands   only a take raises the number of allocated blocks, and by one
--     acts_stand           acts don't lower it
--     move_takes           a free block is allocated only by being taken
--     Cover M S l h        every allocated block is in the list l, or waits to be freed by the running cycle
--     cover_begin, cover_on, cover_end     so at a beginning, with the reachable blocks for l; after each move, with the blocks taken put to l; and so at the
--                          cycle's end every allocated block is in l
-- Assumes nothing.
use Prim.Native.Nat.{ℕ, ◌+◌, ◌≤◌}
use mathlib.Core.Path.{◌≡◌, refl, ◌∙◌}
use mathlib.Core.Logic.{◌≢◌}
use mathlib.Core.List.Memᴰ
use mathlib.Core.List.{List, [], ◌∷◌, ◌++◌}
use native.Mathlib.Omega.{arith}
use lib.ListN.{length, length-append}
use Rattle.theory_reach.specs.Sums.{Block}
use Rattle.theory_reach.specs.Listed.{In}
use Rattle.theory_reach.proofs.Splits.{never, by_eq}
use Rattle.theory_reach.proofs.Sums.{total_le, total_down}
use Rattle.theory_reach.proofs.Listed.{in?, in_left, in_right, pigeonhole}
use Rattle.theory_moves.specs.Tints.{Tint, White, Grey, Black, Free, Turned, turned, stayed}
use Rattle.theory_moves.specs.Heaps.{Abs, idle, Sound}
use Rattle.theory_moves.specs.Moves.{Begin, Mark, Swept, freeing, whitening, passing, Sweep, Taken, Move, begin, mark, turn, sweep, write_number, write_ref, set_root, take_held, take_root}
use Rattle.theory_moves.specs.Kinds.{cost, begun, taking}
use Rattle.theory_moves.specs.Runs.{Run, rest, step, units, taken, Proper}
use Rattle.theory_moves.specs.Demand3.{Few, stands, allocated}
use Rattle.theory_moves.proofs.Tints.{tint_cases, by_free, stays_free}
use Rattle.theory_moves.proofs.Safety.{unit_back}
use Rattle.theory_moves.proofs.Acting.{act_kept}
use Rattle.theory_moves.proofs.Garbage.{Waiting, Inside, begin_waits, waits_on, waits_not}

-- whatever the cycle still has to free waits for it, but for the blocks of a list
pub record Cover (M : ℕ) (S : ℕ → Type 0) (l : List ℕ) (h : Abs) : Type 0 where
  pub waits : (g : ℕ) → Block M g → h.tint g ≢ Free → (In g l → ⊥) → Waiting M S g h

pub stands_one : (t : Tint) → stands t ≤ 1
stands_one White = omega arith
stands_one Grey = omega arith
stands_one Black = omega arith
stands_one Free = omega arith

pub stands_some : (t : Tint) → stands t ≢ 0 → t ≢ Free
stands_some t n e = n (rw e refl)

kept_stands : (s t : Tint) → (s ≢ Free → t ≢ Free) → stands s ≤ stands t
kept_stands s t n =
    by_free s
    (λ f. rw f (omega arith))
    (λ a. tint_cases t (λ e. rw e (stands_one s)) (λ e. rw e (stands_one s)) (λ e. rw e (stands_one s)) (λ e. absurd (n a e)))

-- as many are allocated as a list has them
pub allocated_in : (M : ℕ) (h : Abs) (l : List ℕ) → ((g : ℕ) → Block M g → h.tint g ≢ Free → In g l) → allocated M h ≤ length l
allocated_in M h l i =
    pigeonhole M (λ c. stands (h.tint c)) l (λ c b. stands_one (h.tint c)) (λ c b n. i c b (stands_some (h.tint c) n))

turned_stands : {S : Type 0} {s t : Tint} → Turned S s t → stands t ≡ stands s
turned_stands (turned i p q) = rw (p, q) refl
turned_stands (stayed n e) = rw e refl

stands_le : (M : ℕ) (h k : Abs) → ((c : ℕ) → Block M c → stands (k.tint c) ≤ stands (h.tint c)) → allocated M k ≤ allocated M h + 0
stands_le M h k i = omega (arith, total_le M (λ c. stands (k.tint c)) (λ c. stands (h.tint c)) i)

module _ {M : ℕ} {h k : Abs} where
  mark_stands : (b : ℕ) → Mark M b h k → (c : ℕ) → Block M c → stands (k.tint c) ≤ stands (h.tint c)
  mark_stands b m c l =
      by_eq c b (λ i. rw (i, m.grey, m.black) (omega arith)) (λ i. omega (arith, turned_stands (m.tints c l i)))

  sweep_stands : Sweep M h k → (c : ℕ) → Block M c → stands (k.tint c) ≤ stands (h.tint c)
  sweep_stands m c l = by_eq c h.position (go m.here) (λ i. rw (m.tints c l i) (omega arith))
    where
      go : Swept h k h.position → c ≡ h.position → stands (k.tint c) ≤ stands (h.tint c)
      go (freeing w f b) i = rw (i, w, f) (omega arith)
      go (whitening w f b) i = rw (i, w, f) (omega arith)
      go (passing w f b) i = rw (i, w, f) (omega arith)

  taken_stands : {x : ℕ} → Taken M x h k → allocated M k ≤ allocated M h + 1
  taken_stands {x} m =
      omega (
        arith,
        total_down M (λ c. stands (k.tint c)) (λ c. stands (h.tint c)) x m.block (λ c l n. rw (m.tints c l n) (omega arith)),
        stands_one (k.tint x),
      )

  -- only a take raises the number of allocated blocks, and by one
  pub move_stands : (m : Move M h k) → allocated M k ≤ allocated M h + length (taking m)
  move_stands (begin m) = stands_le M h k (λ c l. omega (arith, turned_stands (m.tints c l)))
  move_stands (mark b m) = stands_le M h k (mark_stands b m)
  move_stands (turn m) = stands_le M h k (λ c l. rw (m.tints c l) (omega arith))
  move_stands (sweep m) = stands_le M h k (sweep_stands m)
  move_stands (write_number b w v m) = stands_le M h k (λ c l. rw (m.tints c l) (omega arith))
  move_stands (write_ref b w t m) = stands_le M h k (λ c l. omega (arith, turned_stands (m.tints c l)))
  move_stands (set_root t m) = stands_le M h k (λ c l. omega (arith, turned_stands (m.tints c l)))
  move_stands (take_held x b w m) = taken_stands m.taken
  move_stands (take_root x m) = taken_stands m.taken

  sweep_takes : Sweep M h k → (g : ℕ) → Block M g → h.tint g ≡ Free → k.tint g ≡ Free
  sweep_takes m g l f = by_eq g h.position (go m.here) (λ i. m.tints g l i ∙ f)
    where
      go : Swept h k h.position → g ≡ h.position → k.tint g ≡ Free
      go (freeing w e b) i = rw i e
      go (whitening w e b) i = never (cc)
      go (passing w e b) i = rw i e

  take_takes : {x : ℕ} → Taken M x h k → (g : ℕ) → Block M g → h.tint g ≡ Free → k.tint g ≢ Free → In g (x ∷ [])
  take_takes {x} m g l f a = by_eq g x (λ i. Memᴰ.head i) (λ i. absurd (a (m.tints g l i ∙ f)))

  -- a free block is allocated only by being taken
  pub move_takes : (m : Move M h k) → (g : ℕ) → Block M g → h.tint g ≡ Free → k.tint g ≢ Free → In g (taking m)
  move_takes (begin m) g l f a = absurd (a (stays_free (m.tints g l) f))
  move_takes (mark b m) g l f a = absurd (a (by_eq g b (λ i. never (cc m.grey)) (λ i. stays_free (m.tints g l i) f)))
  move_takes (turn m) g l f a = absurd (a (m.tints g l ∙ f))
  move_takes (sweep m) g l f a = absurd (a (sweep_takes m g l f))
  move_takes (write_number b w v m) g l f a = absurd (a (m.tints g l ∙ f))
  move_takes (write_ref b w t m) g l f a = absurd (a (stays_free (m.tints g l) f))
  move_takes (set_root t m) g l f a = absurd (a (stays_free (m.tints g l) f))
  move_takes (take_held x b w m) g l f a = take_takes m.taken g l f a
  move_takes (take_root x m) g l f a = take_takes m.taken g l f a

  pub cover_on : {S : ℕ → Type 0} {l : List ℕ} → Sound M h → Cover M S l h → (m : Move M h k) → begun m ≡ 0 → Proper m → Cover M S (taking m ++ l) k
  cover_on {l = l} s c m e p =
      record {
        waits = λ g b a n.
            by_free (h.tint g)
            (λ f. absurd (n (in_left l (move_takes m g b f a))))
            (λ a'. waits_on s b m e p a (c.waits g b a' (λ i. n (in_right (taking m) i))));
      }

  pub cover_begin : (s : Sound M h) (m : Begin M h k) {K : ℕ} (f : Few K h) → Cover M (Inside h) f.list k
  cover_begin s m f =
      record { waits = λ g b a n. begin_waits s m (λ z. a (stays_free (m.tints g b) z)) (λ r. n (f.has g r)) }

-- the cycle over, every allocated block is in the list
pub cover_end : {M : ℕ} {S : ℕ → Type 0} {l : List ℕ} {h : Abs} → Cover M S l h → h.phase ≡ idle → allocated M h ≤ length l
cover_end {M} {S} {l} {h} c p = allocated_in M h l (λ g b a. in? g l (λ i. i) (λ n. absurd (waits_not p (c.waits g b a n))))

pub few_over : {M K : ℕ} {h k : Abs} → Sound M h → (m : Move M h k) → cost m ≡ 1 → Few K h → Few K k
few_over s m e f = record { list = f.list; short = f.short; has = λ x r. f.has x (unit_back s m e r) }

pub run_stands : {M : ℕ} {h k : Abs} (r : Run M h k) → allocated M k ≤ allocated M h + length (taken r)
run_stands rest = omega arith
run_stands (step m r) = omega (arith, move_stands m, run_stands r, length-append (taken r) (taking m))

pub acts_stand : {M : ℕ} {h k : Abs} (r : Run M h k) → units r ≡ 0 → allocated M h ≤ allocated M k
acts_stand rest z = omega arith
acts_stand {M} {h} (step {i = j} m r) z =
    let e : cost m ≡ 0 = omega arith in
    let d = total_le M (λ c. stands (h.tint c)) (λ c. stands (j.tint c)) (λ c l. kept_stands (h.tint c) (j.tint c) (act_kept m e l)) in
    omega (arith, d, acts_stand r (omega arith))
