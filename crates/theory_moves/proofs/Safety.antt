-- No reachable block is freed, and only a write into it or a take held by it changes its words.
--     freed_sweep          only a sweep frees a block
--     freed_doomed         a move frees only a doomed block
--     live_kept            no move frees a live block
--     reached_kept         no move frees a reachable block
--     cells_kept           a live block's words and reference bits stay, but for the one that the move writes
--     reached_cells        so of a reachable block's
--     taken_unreached      a block that is taken was out of reach
--     unit_cells, unit_root, unit_over, unit_back     a unit changes no live block's cells, no root, no reachability
--     nothing_lost         the statement NothingLost
-- A reachable block is live, and a live block isn't doomed. A block that is taken was free, and so not live.
-- Assumes nothing.
use Prim.Native.Nat.{ℕ}
use mathlib.Core.Path.{◌≡◌, sym, ◌∙◌}
use mathlib.Core.Logic.{◌≢◌}
use mathlib.Core.Bool.{Bool}
use native.Mathlib.Omega.{arith}
use mathlib.Core.List.Memᴰ
use Rattle.theory_reach.specs.Sums.{Block}
use Rattle.theory_reach.specs.Listed.{In}
use Rattle.theory_reach.proofs.Splits.{never, by_eq}
use Rattle.theory_reach.proofs.Reaching.{reach_over, reach_back}
use Rattle.theory_moves.specs.Tints.{Free}
use Rattle.theory_moves.specs.Heaps.{Abs, ref, Reached, Doomed, Live, Sound}
use Rattle.theory_moves.specs.Moves.{SameCells, Holds, Mark, Swept, freeing, whitening, passing, Sweep, Move, begin, mark, turn, sweep, write_number, write_ref, set_root, take_held, take_root}
use Rattle.theory_moves.specs.Kinds.{cost, At, Writes, taking}
use Rattle.theory_moves.specs.Demand2.{SameCell, NothingLost}
use Rattle.theory_moves.proofs.Tints.{was_free}
use Rattle.theory_moves.proofs.Heaps.{reached_live}
use Rattle.theory_moves.proofs.Mutating.{Mutation, same_ref, tinted_free, number_mutation, ref_mutation, root_mutation, held_mutation, taken_mutation}
use Rattle.theory_moves.proofs.Soundness.{sweep_cells}

module _ {M : ℕ} {h k : Abs} where
  sweep_doomed : Sweep M h k → (c : ℕ) → Block M c → h.tint c ≢ Free → k.tint c ≡ Free → Doomed h c
  sweep_doomed m c l a f = by_eq c h.position (go m.here) (λ i. absurd (a (sym (m.tints c l i) ∙ f)))
    where
      go : Swept h k h.position → c ≡ h.position → Doomed h c
      go (freeing w e b) i = record { phase = m.before; ahead = omega arith; white = rw i w }
      go (whitening w e b) i = never (cc)
      go (passing w e b) i = absurd (a (rw i w))

  mark_free : (b : ℕ) → Mark M b h k → (c : ℕ) → Block M c → k.tint c ≡ Free → h.tint c ≡ Free
  mark_free b m c l f = by_eq c b (λ i. never (cc m.black)) (λ i. was_free (m.tints c l i) f)

  mutation_free : {n : ℕ} → Mutation M n h k → (c : ℕ) → Block M c → k.tint c ≡ Free → h.tint c ≡ Free
  mutation_free m c l f = tinted_free (m.tints c l) f

  pub freed_sweep : Move M h k → (c : ℕ) → Block M c → h.tint c ≢ Free → k.tint c ≡ Free → Sweep M h k
  freed_sweep (begin m) c l a f = absurd (a (was_free (m.tints c l) f))
  freed_sweep (mark b m) c l a f = absurd (a (mark_free b m c l f))
  freed_sweep (turn m) c l a f = absurd (a (sym (m.tints c l) ∙ f))
  freed_sweep (sweep m) c l a f = m
  freed_sweep (write_number b w v m) c l a f = absurd (a (mutation_free (number_mutation b w v m) c l f))
  freed_sweep (write_ref b w t m) c l a f = absurd (a (mutation_free (ref_mutation b w t m) c l f))
  freed_sweep (set_root t m) c l a f = absurd (a (mutation_free (root_mutation t m) c l f))
  freed_sweep (take_held x b w m) c l a f = absurd (a (mutation_free (held_mutation x b w m) c l f))
  freed_sweep (take_root x m) c l a f = absurd (a (mutation_free (taken_mutation x m) c l f))

  pub freed_doomed : Move M h k → (c : ℕ) → Block M c → h.tint c ≢ Free → k.tint c ≡ Free → Doomed h c
  freed_doomed m c l a f = sweep_doomed (freed_sweep m c l a f) c l a f

  pub live_kept : Move M h k → {c : ℕ} → Live M h c → k.tint c ≢ Free
  live_kept m {c} l f = l.spared (freed_doomed m c l.block l.allocated f)

  pub reached_kept : Sound M h → Move M h k → {x : ℕ} → Reached h x → k.tint x ≢ Free
  reached_kept s m r = live_kept m (reached_live s r)

cell : {h k : Abs} {b : ℕ} → SameCells h k b → (w : ℕ) → SameCell h k b w
cell s w = record { word = s.words w; bit = s.bits w }

-- the holder's other words
held : {h k : Abs} {b w v : ℕ} {t : Bool} → Holds h k b w v t → (c u : ℕ) → c ≡ b → (At b w c u → ⊥) → SameCell h k c u
held {w} s c u i n =
    by_eq u w
    (λ j. absurd (n (record { block = i; word = j })))
    (λ j. rw i (record { word = s.words u j; bit = s.bits u j }))

module _ {M : ℕ} {h k : Abs} where
  pub cells_kept : (m : Move M h k) {c : ℕ} → Live M h c → (u : ℕ) → (Writes m c u → ⊥) → SameCell h k c u
  cells_kept (begin m) {c} l u n = cell (m.cells c l.block) u
  cells_kept (mark b m) {c} l u n = cell (m.cells c l.block) u
  cells_kept (turn m) {c} l u n = cell (m.cells c l.block) u
  cells_kept (sweep m) {c} l u n = cell (sweep_cells m l) u
  cells_kept (write_number b w v m) {c} l u n =
      by_eq c b (λ i. held m.holds c u i n) (λ i. cell (m.others c l.block i) u)
  cells_kept (write_ref b w t m) {c} l u n =
      by_eq c b (λ i. held m.holds c u i n) (λ i. cell (m.others c l.block i) u)
  cells_kept (set_root t m) {c} l u n = cell (m.cells c l.block) u
  cells_kept (take_held x b w m) {c} l u n =
      by_eq c b
      (λ i. held m.holds c u i n)
      (λ i. cell (m.others c l.block i (λ j. l.allocated (rw j m.taken.free))) u)
  cells_kept (take_root x m) {c} l u n =
      cell (m.others c l.block (λ j. l.allocated (rw j m.taken.free))) u

  pub reached_cells : Sound M h → (m : Move M h k) {c : ℕ} → Reached h c → (u : ℕ) → (Writes m c u → ⊥) → SameCell h k c u
  reached_cells s m r u n = cells_kept m (reached_live s r) u n

  pub unit_cells : (m : Move M h k) → cost m ≡ 1 → {c : ℕ} → Live M h c → SameCells h k c
  unit_cells (begin m) e {c} l = m.cells c l.block
  unit_cells (mark b m) e {c} l = m.cells c l.block
  unit_cells (turn m) e {c} l = m.cells c l.block
  unit_cells (sweep m) e l = sweep_cells m l
  unit_cells (write_number b w v m) e l = never e
  unit_cells (write_ref b w t m) e l = never e
  unit_cells (set_root t m) e l = never e
  unit_cells (take_held x b w m) e l = never e
  unit_cells (take_root x m) e l = never e

  pub unit_root : (m : Move M h k) → cost m ≡ 1 → k.root ≡ h.root
  unit_root (begin m) e = m.root
  unit_root (mark b m) e = m.root
  unit_root (turn m) e = m.root
  unit_root (sweep m) e = m.root
  unit_root (write_number b w v m) e = never e
  unit_root (write_ref b w t m) e = never e
  unit_root (set_root t m) e = never e
  unit_root (take_held x b w m) e = never e
  unit_root (take_root x m) e = never e

pub taken_unreached : {M : ℕ} {h k : Abs} {x : ℕ} → Sound M h → (m : Move M h k) → In x (taking m) → Reached h x → ⊥
taken_unreached s (begin m) i r = elim i [ ]
taken_unreached s (mark b m) i r = elim i [ ]
taken_unreached s (turn m) i r = elim i [ ]
taken_unreached s (sweep m) i r = elim i [ ]
taken_unreached s (write_number b w v m) i r = elim i [ ]
taken_unreached s (write_ref b w t m) i r = elim i [ ]
taken_unreached s (set_root t m) i r = elim i [ ]
taken_unreached s (take_held x b w m) i r = (reached_live s r).allocated (rw (Memᴰ.eq_of_singleton i) m.taken.free)
taken_unreached s (take_root x m) i r = (reached_live s r).allocated (rw (Memᴰ.eq_of_singleton i) m.taken.free)

module _ {M : ℕ} {h k : Abs} (s : Sound M h) (m : Move M h k) (e : cost m ≡ 1) where
  agree : (b w : ℕ) → Reached h b → ref k b w ≡ ref h b w
  agree b w r = same_ref (unit_cells m e (reached_live s r)) w

  pub unit_over : {x : ℕ} → Reached h x → Reached k x
  unit_over = reach_over h.root k.root (ref h) (ref k) (unit_root m e) agree

  pub unit_back : {x : ℕ} → Reached k x → Reached h x
  unit_back = reach_back h.root k.root (ref h) (ref k) (unit_root m e) agree

pub nothing_lost : NothingLost
nothing_lost =
    record {
      live = reached_live;
      kept = reached_kept;
      same = reached_cells;
      taken = taken_unreached;
      root = unit_root;
      cells = unit_cells;
      over = unit_over;
      back = unit_back;
    }
