-- What is out of reach stays so until it is freed, and the next whole cycle frees it.
--     reached_before       what is reachable after a proper move was reachable before it, or was free
--     stays_out            an allocated block out of reach stays out of reach
--     cycle_frees          a block that waits is freed by the end of the running cycle
--     once_around          a block allocated and out of reach on an idle heap is freed by the end of the next cycle
--     twice_around         whatever the phase, it is freed by the second end of a cycle
--     garbage_waits        the statement GarbageWaits
-- In the terms of Garbage: whatever is reachable afterwards is in the set Inside of the heap before. No cycle has to be cut out of the run here:
-- it is enough that the run has the ends of cycles in it.
-- Assumes nothing.
use Prim.Native.Nat.{ℕ, ◌≤◌}
use mathlib.Core.Path.{◌≡◌, refl, sym, ◌∙◌, subst}
use mathlib.Core.Logic.{◌≢◌}
use native.Mathlib.Omega.{arith}
use Rattle.theory_reach.specs.Reaching.{at_root, along}
use Rattle.theory_reach.specs.Sums.{Block}
use Rattle.theory_reach.proofs.Splits.{by_eq}
use Rattle.theory_reach.proofs.Reaching.{reach_closed}
use Rattle.theory_moves.specs.Tints.{Free}
use Rattle.theory_moves.specs.Heaps.{Abs, idle, named, ref, Reached, Live, Sound}
use Rattle.theory_moves.specs.Moves.{Move, begin, mark, turn, sweep, write_number, write_ref, set_root, take_held, take_root}
use Rattle.theory_moves.specs.Kinds.{begun, ended}
use Rattle.theory_moves.specs.Runs.{Run, rest, step, ends, Proper, ProperRun, FreedIn, freed_later}
use Rattle.theory_moves.specs.Demand2.{GarbageWaits}
use Rattle.theory_moves.proofs.Tints.{by_free}
use Rattle.theory_moves.proofs.ByKind.{begins?, cost_one, kind_cost, ended_idle, idle_ended, stays_idle}
use Rattle.theory_moves.proofs.Runs.{frees_now}
use Rattle.theory_moves.proofs.Mutating.{Mutation, number_mutation, ref_mutation, root_mutation, held_mutation, taken_mutation}
use Rattle.theory_moves.proofs.Soundness.{move_sound}
use Rattle.theory_moves.proofs.Safety.{unit_back}
use Rattle.theory_moves.proofs.Garbage.{Waiting, Inside, begin_waits, waits_on, waits_kept, waits_not}

-- a block of Inside names only such blocks
inside_names : {M : ℕ} {h : Abs} → Sound M h → (b w x : ℕ) → Block M b → Inside h b → ref h b w ≡ x → x ≢ 0 → Reached h x
unfolding named
inside_names {M} {h} s b w x l i e n =
    by_free (h.tint b) (λ f. absurd (n (sym e ∙ rw (s.free_names b w l f) refl))) (λ a. along w (i a) e n)

module _ {M : ℕ} {h k : Abs} (s : Sound M h) where
  mutation_before : {n : ℕ} → Mutation M n h k → Sound M k → (n ≢ 0 → Inside h n) → {x : ℕ} → Reached k x → Inside h x
  mutation_before {n} m t i r =
      (reach_closed k.root (ref k) (λ x. Live M k x × Inside h x)
      (λ x e q.
      let q' : k.root ≢ 0 = λ z. q (e ∙ z) in
      (subst (Live M k) (sym e) (t.root_live q'), first x e q))
      (λ b w x l e q. (t.named_live b w x l.0 e q, next b w x l.0.block l.1 e q))
      r).1
    where
      first : (x : ℕ) → x ≡ k.root → x ≢ 0 → Inside h x
      first x e q =
          by_eq x n
          (λ o. subst (Inside h) (sym o) (i (λ z. q (o ∙ z))))
          (λ o a. at_root (e ∙ m.root (λ z. o (e ∙ z))) q)

      next : (b w x : ℕ) → Block M b → Inside h b → ref k b w ≡ x → x ≢ 0 → Inside h x
      next b w x l j e q =
          by_eq x n
          (λ o. subst (Inside h) (sym o) (i (λ z. q (o ∙ z))))
          (λ o a. inside_names s b w x l j (m.refs b w x l e q o) q)

  pub reached_before : (m : Move M h k) → Proper m → {x : ℕ} → Reached k x → Inside h x
  reached_before (begin m) p r = λ a. unit_back s (begin m) refl r
  reached_before (mark b m) p r = λ a. unit_back s (mark b m) refl r
  reached_before (turn m) p r = λ a. unit_back s (turn m) refl r
  reached_before (sweep m) p r = λ a. unit_back s (sweep m) refl r
  reached_before (write_number b w v m) p r = mutation_before (number_mutation b w v m) (move_sound s (write_number b w v m)) (λ n. absurd (n refl)) r
  reached_before (write_ref b w t m) p r = mutation_before (ref_mutation b w t m) (move_sound s (write_ref b w t m)) (λ n a. p n) r
  reached_before (set_root t m) p r = mutation_before (root_mutation t m) (move_sound s (set_root t m)) (λ n a. p n) r
  reached_before (take_held x b w m) p r = mutation_before (held_mutation x b w m) (move_sound s (take_held x b w m)) (λ n a. absurd (a m.taken.free)) r
  reached_before (take_root x m) p r = mutation_before (taken_mutation x m) (move_sound s (take_root x m)) (λ n a. absurd (a m.taken.free)) r

  pub stays_out : (m : Move M h k) → Proper m → {g : ℕ} → h.tint g ≢ Free → (Reached h g → ⊥) → Reached k g → ⊥
  stays_out m p a n r = n (reached_before m p r a)

-- while a block waits no cycle begins
waits_begun : {M : ℕ} {S : ℕ → Type 0} {g : ℕ} {h k : Abs} → Waiting M S g h → (m : Move M h k) → begun m ≡ 0
waits_begun w m = begins? m (λ b. absurd (waits_not b.before w)) (λ e. e)

module _ {M g : ℕ} (l : Block M g) where
  pub cycle_frees : {S : ℕ → Type 0} {h k : Abs} → Sound M h → Waiting M S g h → (r : Run M h k) → ProperRun r → ends r ≢ 0 → FreedIn M g h k r
  cycle_frees s w rest p e = absurd (e refl)
  cycle_frees {S} s w (step {i = j} m r) p e =
      by_free (j.tint g)
      (λ f. frees_now l m (waits_kept l w) f)
      (λ a.
      let w' : Waiting M S g j = waits_on s l m (waits_begun w m) p.0 a w in
      by_eq (ended m) 0
      (λ z. freed_later m (cycle_frees (move_sound s m) w' r p.1 (omega arith)))
      (λ z. absurd (waits_not (ended_idle m z) w')))

  pub once_around : {h k : Abs} → Sound M h → h.phase ≡ idle → h.tint g ≢ Free → (Reached h g → ⊥) → (r : Run M h k) → ProperRun r → ends r ≢ 0 → FreedIn M g h k r
  once_around s i a n rest p e = absurd (e refl)
  once_around {h} s i a n (step {i = j} m r) p e =
      let q : ends r ≢ 0 = λ z. e (omega (arith, idle_ended i m)) in
      by_free (j.tint g)
      (λ f. frees_now l m a f)
      (λ a'. begins? m
      (λ b. freed_later m (cycle_frees {S = Inside h} (move_sound s m) (begin_waits s b a n) r p.1 q))
      (λ z. freed_later m (once_around (move_sound s m) (stays_idle i m z) a' (stays_out s m p.0 a n) r p.1 q)))

  pub twice_around : {h k : Abs} → Sound M h → h.tint g ≢ Free → (Reached h g → ⊥) → (r : Run M h k) → ProperRun r → 2 ≤ ends r → FreedIn M g h k r
  twice_around s a n rest p e = absurd (omega arith)
  twice_around s a n (step {i = j} m r) p e =
      by_free (j.tint g)
      (λ f. frees_now l m a f)
      (λ a'.
      let n' : Reached j g → ⊥ = stays_out s m p.0 a n in
      by_eq (ended m) 0
      (λ z. freed_later m (twice_around (move_sound s m) a' n' r p.1 (omega arith)))
      (λ z. freed_later m (once_around (move_sound s m) (ended_idle m z) a' n' r p.1 (λ y. omega (arith, kind_cost m, cost_one m)))))

pub garbage_waits : GarbageWaits
garbage_waits = record { stays = stays_out; once = once_around; twice = twice_around }
