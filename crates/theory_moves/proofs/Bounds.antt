-- A cycle is short.
--     pends                the weight: 1 for white and grey, else 0
--     pending M h          the number of white and grey blocks
--     all_blocks           allocated and free blocks are together M
--     due M h              the blocks that the cycle may still mark: those pending while marking, else none (due_marking, due_off)
--     move_pends           while marking, a block that pends after a move did so before
--     move_due, run_due    every mark lowers it by at least 1, and no move of a cycle raises it
--     begin_pends, begin_due    just after a beginning with A allocated blocks those pend: A are due
--     cycle_units          at every moment of a cycle: units spent, with those ahead, are at most 2, the blocks marked and the span
--     marks_few            it marks at most A blocks, those still due among them
--     cycle_exact          a whole cycle takes 2 units, one for each block marked, and one for each block that the sweep visits
--     cycle_short          the statement CycleShort
-- While marking: a mark turns one grey block black; the barrier turns white to grey; a block taken is black. What lies ahead is the subject of Ahead.
-- Assumes nothing.
use Prim.Native.Nat.{ℕ, zero, suc, ◌+◌, ◌≤◌}
use mathlib.Core.Path.{◌≡◌, refl, sym, ◌∙◌, ap}
use mathlib.Core.Logic.{◌≢◌}
use native.Mathlib.Omega.{arith}
use Rattle.theory_reach.specs.Sums.{Block, total}
use Rattle.theory_reach.proofs.Splits.{by_eq}
use Rattle.theory_reach.proofs.Sums.{total_le, total_same, total_down, total_plus, total_ones}
use Rattle.theory_moves.specs.Tints.{Tint, White, Grey, Black, Free, Turned, turned, stayed}
use Rattle.theory_moves.specs.Heaps.{Abs, idle, marking, Sound, span}
use Rattle.theory_moves.specs.Moves.{Begin, Mark, Fresh, new_marking, new_ahead, new_behind, new_idle}
use Rattle.theory_moves.specs.Moves.{Move, begin, mark, turn, sweep, write_number, write_ref, set_root, take_held, take_root}
use Rattle.theory_moves.specs.Kinds.{cost, marked, begun, ended}
use Rattle.theory_moves.specs.Runs.{Run, rest, step, units, marks, begins}
use Rattle.theory_moves.specs.Demand3.{stands, lies, allocated, unused, CycleShort}
use Rattle.theory_moves.proofs.Tints.{tint_cases}
use Rattle.theory_moves.proofs.ByKind.{marks?, kind_cost, cost_one, ended_idle, idle_ended, turning_off, was_marking}
use Rattle.theory_moves.proofs.Mutating.{Tinted, keeps, greys, takes, number_mutation, ref_mutation, root_mutation, held_mutation, taken_mutation}
use Rattle.theory_moves.proofs.Soundness.{begin_sound}
use Rattle.theory_moves.proofs.Runs.{run_sound}
use Rattle.theory_moves.proofs.Ahead.{ahead, ahead_idle, ahead_marking, move_ahead, run_ahead, run_ahead_most}

-- the weight of what is still to mark
abbrev pub pends : Tint → ℕ
pends White = 1
pends Grey = 1
pends Black = 0
pends Free = 0

abbrev pub pending : ℕ → Abs → ℕ
pending M h = total M (λ c. pends (h.tint c))

pub all_blocks : (M : ℕ) (h : Abs) → allocated M h + unused M h ≡ M
all_blocks M h =
    sym (total_plus M (λ c. stands (h.tint c)) (λ c. lies (h.tint c)))
    ∙ total_ones M (λ c. stands (h.tint c) + lies (h.tint c)) (λ c l. go (h.tint c))
  where
    go : (t : Tint) → stands t + lies t ≡ 1
    go White = refl
    go Grey = refl
    go Black = refl
    go Free = refl

due_in : ℕ → ℕ → ℕ
due_in zero n = 0
due_in (suc zero) n = n
due_in (suc (suc p)) n = 0

unfoldable pub due : ℕ → Abs → ℕ
unfolding due_in
due M h = due_in h.phase (pending M h)

module _ (M : ℕ) (h : Abs) where
  pub due_marking : h.phase ≡ marking → due M h ≡ pending M h
  unfolding due due_in
  due_marking e = rw e refl

  pub due_off : h.phase ≢ marking → due M h ≡ 0
  unfolding due due_in
  due_off n = go h.phase (pending M h) n
    where
      go : (p n : ℕ) → p ≢ marking → due_in p n ≡ 0
      go zero n e = refl
      go (suc zero) n e = absurd (e refl)
      go (suc (suc p)) n e = refl

-- white and grey turn into white and grey
turned_pends : {S : Type 0} {s t : Tint} → Turned S s t → pends t ≡ pends s
turned_pends (turned i p q) = rw (p, q) refl
turned_pends (stayed n e) = rw e refl

tinted_pends : {h k : Abs} {n c : ℕ} → h.phase ≡ marking → Tinted h k n c → pends (k.tint c) ≤ pends (h.tint c)
tinted_pends p (keeps e) = rw e (omega arith)
tinted_pends p (greys q i w e) = rw (w, e) (omega arith)
tinted_pends {h} {k} {n} {c} p (takes i f g) = go g
  where
    go : Fresh h c (k.tint c) → pends (k.tint c) ≤ pends (h.tint c)
    go (new_marking q e) = rw e (omega arith)
    go (new_ahead q l e) = absurd (omega arith)
    go (new_behind q l e) = absurd (omega arith)
    go (new_idle q e) = absurd (omega arith)

module _ {M : ℕ} {h k : Abs} where
  mark_pends : (b : ℕ) → Mark M b h k → (c : ℕ) → Block M c → pends (k.tint c) ≤ pends (h.tint c)
  mark_pends b m c l = by_eq c b (λ i. rw (i, m.grey, m.black) (omega arith)) (λ i. omega (arith, turned_pends (m.tints c l i)))

  pub move_pends : (m : Move M h k) → h.phase ≡ marking → k.phase ≡ marking → (c : ℕ) → Block M c → pends (k.tint c) ≤ pends (h.tint c)
  move_pends (begin m) p q c l = absurd (omega (arith, m.before))
  move_pends (mark b m) p q c l = mark_pends b m c l
  move_pends (turn m) p q c l = absurd (turning_off m.turning q)
  move_pends (sweep m) p q c l = absurd (omega (arith, m.before))
  move_pends (write_number b w v m) p q c l = tinted_pends p ((number_mutation b w v m).tints c l)
  move_pends (write_ref b w t m) p q c l = tinted_pends p ((ref_mutation b w t m).tints c l)
  move_pends (set_root t m) p q c l = tinted_pends p ((root_mutation t m).tints c l)
  move_pends (take_held x b w m) p q c l = tinted_pends p ((held_mutation x b w m).tints c l)
  move_pends (take_root x m) p q c l = tinted_pends p ((taken_mutation x m).tints c l)

  mark_pending : (b : ℕ) → Mark M b h k → pending M k + 1 ≤ pending M h
  mark_pending b m =
      let d = total_down M (λ c. pends (k.tint c)) (λ c. pends (h.tint c)) b m.block (λ c l n. omega (arith, turned_pends (m.tints c l n))) in
      omega (arith, d, ap pends m.grey, ap pends m.black)

  pub move_due : (m : Move M h k) → begun m ≡ 0 → marked m + due M k ≤ due M h
  move_due m e =
      marks? m
      (λ b y. omega (arith, kind_cost m, cost_one m, mark_pending b y, due_marking M h y.before, due_marking M k y.after))
      (λ z. by_eq k.phase marking
      (λ q.
      let p = was_marking m e q in
      omega (arith, due_marking M h p, due_marking M k q, total_le M (λ c. pends (k.tint c)) (λ c. pends (h.tint c)) (move_pends m p q)))
      (λ n. omega (arith, due_off M k n)))

module _ {M : ℕ} where
  pub run_due : {h k : Abs} (r : Run M h k) → begins r ≡ 0 → marks r + due M k ≤ due M h
  run_due rest e = omega arith
  run_due (step m r) e = omega (arith, move_due m (omega arith), run_due r (omega arith))

  -- at a beginning every allocated block is white, and the root turns grey
  pub begin_pends : {h k : Abs} → Sound M h → Begin M h k → (c : ℕ) → Block M c → pends (k.tint c) ≡ stands (h.tint c)
  begin_pends {h} s m c l =
      turned_pends (m.tints c l)
      ∙ tint_cases (h.tint c) (λ e. rw e refl) (λ e. absurd (s.idle_grey m.before c l e)) (λ e. absurd (s.idle_black m.before c l e)) (λ e. rw e refl)

  pub begin_due : {h k : Abs} → Sound M h → Begin M h k → due M k ≡ allocated M h
  begin_due {h} {k} s m = omega (arith, due_marking M k m.after, total_same M (λ c. pends (k.tint c)) (λ c. stands (h.tint c)) (begin_pends s m))

  -- h is the heap at the beginning, i just after it; the beginning is the first unit
  module _ {h i : Abs} (s : Sound M h) (m : Begin M h i) where
    pub cycle_units : {k : Abs} (r : Run M i k) → begins r ≡ 0 → 1 + units r + ahead k ≤ 2 + marks r + span k
    cycle_units r e = omega (arith, run_ahead_most (begin_sound s m) r e, ahead_marking i m.after)

    pub marks_few : {k : Abs} (r : Run M i k) → begins r ≡ 0 → marks r + due M k ≤ allocated M h
    marks_few r e = omega (arith, begin_due s m, run_due r e)

    pub cycle_exact : {j k : Abs} (r : Run M i j) → begins r ≡ 0 → (u : Move M j k) → ended u ≡ 1 → 1 + units r + cost u ≡ 2 + marks r + span k
    cycle_exact {j} {k} r e u z =
        let n : j.phase ≢ idle = λ p. omega (arith, idle_ended p u) in
        omega (
          arith,
          run_ahead (begin_sound s m) r e n,
          move_ahead (run_sound (begin_sound s m) r) n u,
          ahead_marking i m.after,
          kind_cost u,
          cost_one u,
          ahead_idle k (ended_idle u (λ p. omega arith)),
        )

pub cycle_short : CycleShort
cycle_short =
    record {
      counted = all_blocks;
      most = λ s m r e. omega (arith, cycle_units s m r e, marks_few s m r e);
      exact = λ s m r e u z. cycle_exact s m r e u z;
      marked = λ s m r e. omega (arith, marks_few s m r e);
    }
