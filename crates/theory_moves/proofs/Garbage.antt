-- Garbage goes: a block that is allocated and out of reach when a cycle begins is freed before the cycle ends.
--     Trail M S h          the set S is closed in h, and whatever isn't white is in S
--     Waiting M S g h      g is still to be freed by this cycle: out of S while marking, doomed while sweeping
--     Inside h             the set that goes with a beginning at h: a block of it is reachable at h, or free there
--     begin_trail          at a beginning, Inside is such a set
--     reached_in           what is reachable is in the set
--     trail_on             a move from marking to marking leaves it such a set
--     begin_waits          at a beginning, what is allocated and out of reach is Waiting
--     waits_on             a move of the cycle leaves it Waiting, unless it frees it
--     waits_kept, waits_not     a block that waits is allocated; when the collector is idle none waits
--     garbage_goes         the statement GarbageGoes: the cycle over, it was freed
-- Each write of a reference and each root change in between must name 0 or a block reachable at that moment: it is then in S, for S is closed.
-- While marking no block is freed, so a block taken was free at the beginning, and in S from the start.
-- So only blocks of S turn grey; a block out of S is white at the turn, hence doomed, and the sweep frees it when it comes to it.
-- Assumes nothing.
use Prim.Native.Nat.{ℕ}
use mathlib.Core.Path.{◌≡◌, refl, sym, ◌∙◌, subst}
use mathlib.Core.Logic.{◌≢◌}
use native.Mathlib.Omega.{arith}
use Rattle.theory_reach.specs.Reaching.{at_root, along}
use Rattle.theory_reach.specs.Sums.{Block}
use Rattle.theory_reach.proofs.Splits.{never, by_eq}
use Rattle.theory_reach.proofs.Reaching.{reach_closed}
use Rattle.theory_moves.specs.Tints.{White, Free, Turned, turned, stayed}
use Rattle.theory_moves.specs.Heaps.{Abs, idle, marking, named, ref, Reached, Doomed, Live, Sound}
use Rattle.theory_moves.specs.Moves.{Begin, Names, Mark, Turning, entering, skipping, Turn, Swept, freeing, whitening, passing, Onward, going, ending, Sweep, Taken}
use Rattle.theory_moves.specs.Moves.{Move, begin, mark, turn, sweep, write_number, write_ref, set_root, take_held, take_root}
use Rattle.theory_moves.specs.Kinds.{begun}
use Rattle.theory_moves.specs.Runs.{Run, rest, step, begins, Proper, ProperRun, FreedIn, freed_later}
use Rattle.theory_moves.specs.Demand2.{GarbageGoes}
use Rattle.theory_moves.proofs.Tints.{tint_cases, by_free, by_white}
use Rattle.theory_moves.proofs.Heaps.{below_mark, unused_free}
use Rattle.theory_moves.proofs.ByKind.{turning_off}
use Rattle.theory_moves.proofs.Runs.{frees_now}
use Rattle.theory_moves.proofs.Mutating.{Tinted, keeps, greys, takes, Mutation, same_ref, tinted_steady, number_mutation, ref_mutation, root_mutation, held_mutation, taken_mutation}
use Rattle.theory_moves.proofs.Soundness.{move_sound, begin_sound}

pub record Trail (M : ℕ) (S : ℕ → Type 0) (h : Abs) : Type 0 where
  pub root_in : h.root ≢ 0 → S h.root
  pub refs_in : (b w x : ℕ) → Block M b → S b → ref h b w ≡ x → x ≢ 0 → S x
  pub dark_in : (b : ℕ) → Block M b → h.tint b ≢ White → S b

pub data Waiting (M : ℕ) (S : ℕ → Type 0) (g : ℕ) (h : Abs) : Type 0 where
  unmarked : h.phase ≡ marking → Trail M S h → (S g → ⊥) → Waiting M S g h
  doomed : Doomed h g → Waiting M S g h

abbrev pub Inside : Abs → ℕ → Type 0
Inside h b = h.tint b ≢ Free → Reached h b

module _ {M : ℕ} {h k : Abs} (s : Sound M h) (m : Begin M h k) where
  begin_names : (b w x : ℕ) → Block M b → Inside h b → ref k b w ≡ x → x ≢ 0 → Reached h x
  unfolding named
  begin_names b w x l i e n =
      let e' = sym (same_ref (m.cells b l) w) ∙ e in
      by_free (h.tint b)
      (λ f. absurd (n (sym e' ∙ rw (s.free_names b w l f) refl)))
      (λ a. along w (i a) e' n)

  begin_dark : (b : ℕ) → Block M b → k.tint b ≢ White → Inside h b
  begin_dark b l n a = go (m.tints b l)
    where
      go : Turned (b ≡ h.root) (h.tint b) (k.tint b) → Reached h b
      go (turned e p q) = at_root e (λ z. absurd (omega (arith, l.low)))
      go (stayed z e) =
          tint_cases (h.tint b) (λ w. absurd (n (e ∙ w))) (λ w. absurd (s.idle_grey m.before b l w)) (λ w. absurd (s.idle_black m.before b l w)) (λ w. absurd (a w))

  pub begin_trail : Trail M (Inside h) k
  begin_trail =
      record {
        root_in = λ n a. at_root m.root n;
        refs_in = λ b w x l i e n a. begin_names b w x l i e n;
        dark_in = begin_dark;
      }

  pub begin_waits : {g : ℕ} → h.tint g ≢ Free → (Reached h g → ⊥) → Waiting M (Inside h) g k
  begin_waits a n = unmarked m.after begin_trail (λ i. n (i a))

-- what is reachable is in S
pub reached_in : {M : ℕ} {S : ℕ → Type 0} {h : Abs} → Trail M S h → Sound M h → {x : ℕ} → Reached h x → S x
reached_in {M} {S} {h} t s r =
    (reach_closed h.root (ref h) (λ x. Live M h x × S x)
    (λ x e n.
    let n' : h.root ≢ 0 = λ z. n (e ∙ z) in
    (subst (Live M h) (sym e) (s.root_live n'), subst S (sym e) (t.root_in n')))
    (λ b w x l e n. (s.named_live b w x l.0 e n, t.refs_in b w x l.0.block l.1 e n))
    r).1

module _ {M : ℕ} {S : ℕ → Type 0} {h k : Abs} (t : Trail M S h) where
  mark_trail : (b : ℕ) → Mark M b h k → Trail M S k
  mark_trail b m =
      record {
        root_in = λ n. subst S (sym m.root) (t.root_in (rw m.root at n));
        refs_in = λ c w x l i e n. t.refs_in c w x l i (sym (same_ref (m.cells c l) w) ∙ e) n;
        dark_in = λ c l n. by_eq c b (λ i. subst S (sym i) grey) (λ i. go c l n (m.tints c l i));
      }
    where
      grey : S b
      grey = t.dark_in b m.block (λ z. never (cc m.grey))

      go : (c : ℕ) → Block M c → k.tint c ≢ White → Turned (Names h b c) (h.tint c) (k.tint c) → S c
      go c l n (turned i p q) = t.refs_in b i.at c m.block grey i.names (λ z. absurd (omega (arith, l.low)))
      go c l n (stayed z e) = t.dark_in c l (λ w. n (e ∙ w))

  mutation_trail : {n : ℕ} → Mutation M n h k → (n ≢ 0 → S n) → Trail M S k
  mutation_trail {n} m i =
      record {
        root_in = λ q.
            by_eq k.root n
            (λ e. subst S (sym e) (i (λ z. q (e ∙ z))))
            (λ e. subst S (sym (m.root e)) (t.root_in (rw (m.root e) at q)));
        refs_in = λ b w x l j e q.
            by_eq x n
            (λ o. subst S (sym o) (i (λ z. q (o ∙ z))))
            (λ o. t.refs_in b w x l j (m.refs b w x l e q o) q);
        dark_in = λ c l q. go c l q (m.tints c l);
      }
    where
      go : (c : ℕ) → Block M c → k.tint c ≢ White → Tinted h k n c → S c
      go c l q (keeps e) = t.dark_in c l (λ w. q (e ∙ w))
      go c l q (greys p e w f) = subst S (sym e) (i (λ z. absurd (omega (arith, l.low))))
      go c l q (takes e f g) = t.dark_in c l (λ w. never (cc))

  -- a turn that skips the sweep has nothing to free: all blocks are free, and in S
  turn_dooms : {g : ℕ} → Sound M h → Block M g → (S g → ⊥) → Turn M h k → Doomed k g
  turn_dooms {g} s l n m = go m.turning
    where
      go : Turning h k → Doomed k g
      go (entering o p e) =
          record {
            phase = p;
            ahead = omega (arith, l.low);
            white = by_white (h.tint g) (λ w. m.tints g l ∙ w) (λ w. absurd (n (t.dark_in g l w)));
          }
      go (skipping o p) = absurd (n (t.dark_in g l (λ z. never (cc (unused_free s o g l)))))

module _ {M : ℕ} {S : ℕ → Type 0} {h k : Abs} (s : Sound M h) where
  -- a block that is taken was free, and so in S
  taken_in : {x : ℕ} → Taken M x h k → Trail M S h → S x
  taken_in {x} m t = t.dark_in x m.block (λ z. never (cc m.free))

  pub trail_on : (m : Move M h k) → Proper m → h.phase ≡ marking → k.phase ≡ marking → Trail M S h → Trail M S k
  trail_on (begin m) p q z t = absurd (omega (arith, m.before))
  trail_on (mark b m) p q z t = mark_trail t b m
  trail_on (turn m) p q z t = absurd (turning_off m.turning z)
  trail_on (sweep m) p q z t = absurd (omega (arith, m.before))
  trail_on (write_number b w v m) p q z t = mutation_trail t (number_mutation b w v m) (λ n. absurd (n refl))
  trail_on (write_ref b w x m) p q z t = mutation_trail t (ref_mutation b w x m) (λ n. reached_in t s (p n))
  trail_on (set_root x m) p q z t = mutation_trail t (root_mutation x m) (λ n. reached_in t s (p n))
  trail_on (take_held x b w m) p q z t = mutation_trail t (held_mutation x b w m) (λ n. taken_in m.taken t)
  trail_on (take_root x m) p q z t = mutation_trail t (taken_mutation x m) (λ n. taken_in m.taken t)

module _ {M : ℕ} {h k : Abs} {g : ℕ} (s : Sound M h) (l : Block M g) (d : Doomed h g) where
  sweep_dooms : k.tint g ≢ Free → Sweep M h k → Doomed k g
  sweep_dooms a m = by_eq g h.position (go m.here) (away m.onward)
    where
      go : Swept h k h.position → g ≡ h.position → Doomed k g
      go (freeing w f b) i = absurd (a (rw i f))
      go (whitening w f b) i = never (cc d.white)
      go (passing w f b) i = absurd (a (rw i f))

      away : Onward h k h.mark → g ≢ h.position → Doomed k g
      away (going n p e) i = record { phase = p; ahead = omega (arith, d.ahead); white = m.tints g l i ∙ d.white }
      away (ending e p) i = absurd (i (omega (arith, d.ahead, below_mark s g l (λ z. never (cc d.white)))))

  mutation_dooms : {n : ℕ} → Mutation M n h k → Doomed k g
  mutation_dooms m =
      record {
        phase = m.steady.phase ∙ d.phase;
        ahead = omega (arith, m.steady.position, d.ahead);
        white = tinted_steady (m.tints g l) (λ z. absurd (omega (arith, d.phase))) d.white;
      }

module _ {M : ℕ} {S : ℕ → Type 0} {h k : Abs} {g : ℕ} (s : Sound M h) (l : Block M g) where
  mutation_waits : {n : ℕ} → Mutation M n h k → (h.phase ≡ marking → k.phase ≡ marking → Trail M S h → Trail M S k) → Waiting M S g h → Waiting M S g k
  mutation_waits m i (unmarked p t n) = let q = m.steady.phase ∙ p in unmarked q (i p q t) n
  mutation_waits m i (doomed d) = doomed (mutation_dooms s l d m)

  pub waits_on : (m : Move M h k) → begun m ≡ 0 → Proper m → k.tint g ≢ Free → Waiting M S g h → Waiting M S g k
  waits_on (begin m) e p a w = never (sym e)
  waits_on (mark b m) e p a (unmarked q t n) = unmarked m.after (mark_trail t b m) n
  waits_on (mark b m) e p a (doomed d) = absurd (omega (arith, m.before, d.phase))
  waits_on (turn m) e p a (unmarked q t n) = doomed (turn_dooms t s l n m)
  waits_on (turn m) e p a (doomed d) = absurd (omega (arith, m.before, d.phase))
  waits_on (sweep m) e p a (unmarked q t n) = absurd (omega (arith, m.before))
  waits_on (sweep m) e p a (doomed d) = doomed (sweep_dooms s l d a m)
  waits_on (write_number b w v m) e p a x = mutation_waits (number_mutation b w v m) (trail_on s (write_number b w v m) p) x
  waits_on (write_ref b w t m) e p a x = mutation_waits (ref_mutation b w t m) (trail_on s (write_ref b w t m) p) x
  waits_on (set_root t m) e p a x = mutation_waits (root_mutation t m) (trail_on s (set_root t m) p) x
  waits_on (take_held y b w m) e p a x = mutation_waits (held_mutation y b w m) (trail_on s (take_held y b w m) p) x
  waits_on (take_root y m) e p a x = mutation_waits (taken_mutation y m) (trail_on s (take_root y m) p) x

-- a block that waits is allocated
pub waits_kept : {M : ℕ} {S : ℕ → Type 0} {g : ℕ} {h : Abs} → Block M g → Waiting M S g h → h.tint g ≢ Free
waits_kept l (unmarked p t n) f = n (t.dark_in _ l (λ z. never (cc)))
waits_kept l (doomed d) f = never (cc d.white)

-- when the collector is idle none waits
pub waits_not : {M : ℕ} {S : ℕ → Type 0} {g : ℕ} {h : Abs} → h.phase ≡ idle → Waiting M S g h → ⊥
waits_not e (unmarked p t n) = absurd (omega arith)
waits_not e (doomed d) = absurd (omega (arith, d.phase))

module _ {M : ℕ} {S : ℕ → Type 0} {g : ℕ} (l : Block M g) where
  waits_freed : {h k : Abs} → Sound M h → Waiting M S g h → (r : Run M h k) → begins r ≡ 0 → ProperRun r → k.phase ≡ idle → FreedIn M g h k r
  waits_freed s w rest e p i = absurd (waits_not i w)
  waits_freed s w (step {i = j} m r) e p i =
      by_free (j.tint g)
      (λ f. frees_now l m (waits_kept l w) f)
      (λ a. freed_later m (waits_freed (move_sound s m) (waits_on s l m (omega arith) p.0 a w) r (omega arith) p.1 i))

pub garbage_goes : GarbageGoes
garbage_goes M g h i k s m l a n r e p z = waits_freed l (begin_sound s m) (begin_waits s m a n) r e p z
