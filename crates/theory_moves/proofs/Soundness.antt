-- Every move keeps a sound heap sound.
--     begin_sound, mark_sound, turn_sound, sweep_sound, mutation_sound     a law for each kind of move
--     sweep_cells          a sweep leaves the cells of live blocks
--     move_sound           for every move
-- Begin: there is no black block yet. Mark b: b's white children turn grey in the same move. Turn: nothing is grey, so the root and all that
-- black blocks name are black, hence live; a turn that skips the sweep leaves a heap with all blocks free. Sweep: the block at the position was
-- doomed, or is white and passed, or free; a block that is still allocated isn't above the mark, so at the sweep's end none is black.
-- The running program: the block named isn't white while marking, and is live; a new block names nothing.
-- Assumes nothing.
use Prim.Native.Nat.{ℕ, ◌+◌, ◌≤◌, ◌<◌}
use mathlib.Core.Path.{◌≡◌, refl, sym, ◌∙◌, subst}
use mathlib.Core.Logic.{◌≢◌}
use mathlib.Core.Bool.{false}
use native.Mathlib.Omega.{arith}
use Rattle.theory_reach.specs.Sums.{Block}
use Rattle.theory_reach.proofs.Splits.{never, by_eq}
use Rattle.theory_moves.specs.Tints.{Tint, White, Grey, Black, Free}
use Rattle.theory_moves.specs.Heaps.{Abs, idle, marking, sweeping, named, ref, Doomed, Live, Sound}
use Rattle.theory_moves.specs.Moves.{SameCells, Begin, Names, Mark, Turning, entering, skipping, Turn, Swept, freeing, whitening, passing}
use Rattle.theory_moves.specs.Moves.{Onward, going, ending, Sweep, Fresh, new_marking, new_ahead, new_behind, new_idle}
use Rattle.theory_moves.specs.Moves.{Move, begin, mark, turn, sweep, write_number, write_ref, set_root, take_held, take_root}
use Rattle.theory_moves.proofs.Tints.{tint_cases, was_white, white_out, was_black, was_free, stays_free}
use Rattle.theory_moves.proofs.Heaps.{off_sweep, not_white, below_mark, unused_free, fresh_sound}
use Rattle.theory_moves.proofs.ByKind.{no_marking}
use Rattle.theory_moves.proofs.Mutating.{Tinted, keeps, greys, takes, Mutation, same_ref, fresh_grey, tinted_free, tinted_white, tinted_live}
use Rattle.theory_moves.proofs.Mutating.{was_live, number_mutation, ref_mutation, root_mutation, held_mutation, taken_mutation}

module _ {M : ℕ} {h k : Abs} (s : Sound M h) where
  pub begin_sound : Begin M h k → Sound M k
  begin_sound m =
      record {
        idle_grey = λ p. absurd (omega (arith, m.after));
        idle_black = λ p. absurd (omega (arith, m.after));
        root_marked = λ p n z.
            let l = s.root_live (rw m.root at n) in
            white_out (m.tints h.root l.block) (rw (← m.root) z) refl;
        named_marked = λ p b w x l e r n z. s.idle_black m.before b l (was_black (m.tints b l) e);
        swept_grey = λ p. absurd (omega (arith, m.after));
        swept_black = λ p. absurd (omega (arith, m.after));
        mark_low = omega (arith, m.mark, s.mark_low);
        mark_high = omega (arith, m.mark, s.mark_high);
        mark_over = λ b l i. stays_free (m.tints b l) (s.mark_over b l (omega (arith, m.mark)));
        swept_mark = λ p. absurd (omega (arith, m.after));
        root_live = λ n. subst (Live M k) (sym m.root) (over (s.root_live (rw m.root at n)));
        named_live = λ b w x l e n. over (s.named_live b w x (back l) (sym (same_ref (m.cells b l.block) w) ∙ e) n);
        free_names = λ b w l f. (m.cells b l).bits w ∙ s.free_names b w l (was_free (m.tints b l) f);
      }
    where
      over : {b : ℕ} → Live M h b → Live M k b
      over {b} l = off_sweep (λ p. absurd (omega (arith, m.after))) l.block (λ z. l.allocated (was_free (m.tints b l.block) z))

      back : {b : ℕ} → Live M k b → Live M h b
      back {b} l = off_sweep (λ p. absurd (omega (arith, m.before))) l.block (λ z. l.allocated (stays_free (m.tints b l.block) z))

  pub mark_sound : (b : ℕ) → Mark M b h k → Sound M k
  mark_sound b m =
      record {
        idle_grey = λ p. absurd (omega (arith, m.after));
        idle_black = λ p. absurd (omega (arith, m.after));
        root_marked = λ p n z.
            let n' = rw m.root at n in
            s.root_marked m.before n' (white_before h.root (s.root_live n').block (rw (← m.root) z));
        named_marked = λ p c w x l e r n z.
            let r' = sym (same_ref (m.cells c l) w) ∙ r in
            let i = (s.named_live c w x (back (off_sweep off l (λ f. never (cc)))) r' n).block in
            by_eq c b
            (λ j. not_child x i z (record { at = w; names = rw (← j) r' }))
            (λ j. s.named_marked m.before c w x l (was_black (m.tints c l j) e) r' n (white_before x i z));
        swept_grey = λ p. absurd (omega (arith, m.after));
        swept_black = λ p. absurd (omega (arith, m.after));
        mark_low = omega (arith, m.mark, s.mark_low);
        mark_high = omega (arith, m.mark, s.mark_high);
        mark_over = λ c l i. free_after c l (s.mark_over c l (omega (arith, m.mark)));
        swept_mark = λ p. absurd (omega (arith, m.after));
        root_live = λ n. subst (Live M k) (sym m.root) (over (s.root_live (rw m.root at n)));
        named_live = λ c w x l e n. over (s.named_live c w x (back l) (sym (same_ref (m.cells c l.block) w) ∙ e) n);
        free_names = λ c w l f. (m.cells c l).bits w ∙ s.free_names c w l (free_before c l f);
      }
    where
      off : k.phase ≢ sweeping
      off p = absurd (omega (arith, m.after))

      white_before : (c : ℕ) → Block M c → k.tint c ≡ White → h.tint c ≡ White
      white_before c l z = by_eq c b (λ i. never (cc m.black)) (λ i. was_white (m.tints c l i) z)

      not_child : (c : ℕ) → Block M c → k.tint c ≡ White → Names h b c → ⊥
      not_child c l z i = by_eq c b (λ j. never (cc m.black)) (λ j. white_out (m.tints c l j) z i)

      free_before : (c : ℕ) → Block M c → k.tint c ≡ Free → h.tint c ≡ Free
      free_before c l z = by_eq c b (λ i. never (cc m.black)) (λ i. was_free (m.tints c l i) z)

      free_after : (c : ℕ) → Block M c → h.tint c ≡ Free → k.tint c ≡ Free
      free_after c l z = by_eq c b (λ i. never (cc m.grey)) (λ i. stays_free (m.tints c l i) z)

      over : {c : ℕ} → Live M h c → Live M k c
      over {c} l = off_sweep off l.block (λ z. l.allocated (free_before c l.block z))

      back : {c : ℕ} → Live M k c → Live M h c
      back {c} l = off_sweep (λ p. absurd (omega (arith, m.before))) l.block (λ z. l.allocated (free_after c l.block z))

  enter_sound : Turn M h k → h.mark ≢ 1 → k.phase ≡ sweeping → k.position ≡ 2 → Sound M k
  enter_sound m o f q =
      record {
        idle_grey = λ p. absurd (omega arith);
        idle_black = λ p. absurd (omega arith);
        root_marked = λ p. absurd (omega arith);
        named_marked = λ p. absurd (omega arith);
        swept_grey = λ p b l z. m.none b l (sym (m.tints b l) ∙ z);
        swept_black = λ p b l i z. absurd (omega arith);
        mark_low = omega (arith, m.mark, s.mark_low);
        mark_high = omega (arith, m.mark, s.mark_high);
        mark_over = λ b l i. m.tints b l ∙ s.mark_over b l (omega (arith, m.mark));
        swept_mark = λ p. omega (arith, m.mark, s.mark_low);
        root_live = λ n.
            let n' = rw m.root at n in
            subst (Live M k) (sym m.root) (over (s.root_live n') (s.root_marked m.before n'));
        named_live = λ b w x l e n.
            let e' = sym (same_ref (m.cells b l.block) w) ∙ e in
            let a : h.tint b ≢ Free = λ z. l.allocated (m.tints b l.block ∙ z) in
            over
            (s.named_live b w x (off_sweep (λ p. absurd (omega (arith, m.before))) l.block a) e' n)
            (s.named_marked m.before b w x l.block (black b l.block a (λ z. l.spared (doomed b l.block z))) e' n);
        free_names = λ b w l z. (m.cells b l).bits w ∙ s.free_names b w l (sym (m.tints b l) ∙ z);
      }
    where
      over : {b : ℕ} → Live M h b → h.tint b ≢ White → Live M k b
      over {b} l n = not_white l.block (λ z. l.allocated (sym (m.tints b l.block) ∙ z)) (λ z. n (sym (m.tints b l.block) ∙ z))

      doomed : (b : ℕ) → Block M b → h.tint b ≡ White → Doomed k b
      doomed b l z = record { phase = f; ahead = omega arith; white = m.tints b l ∙ z }

      black : (b : ℕ) → Block M b → h.tint b ≢ Free → h.tint b ≢ White → h.tint b ≡ Black
      black b l a w = tint_cases (h.tint b) (λ e. absurd (w e)) (λ e. absurd (m.none b l e)) (λ e. e) (λ e. absurd (a e))

  -- with the mark at 1 all blocks are free, as on a fresh heap
  skip_sound : Turn M h k → h.mark ≡ 1 → k.phase ≡ idle → Sound M k
  skip_sound m o f =
      fresh_sound M k
      (by_eq k.root 0 (λ e. e) (λ n. let l = s.root_live (rw m.root at n) in absurd (l.allocated (unused_free s o h.root l.block))))
      f (m.mark ∙ o) free
      (λ b w l. (m.cells b l).bits w ∙ s.free_names b w l (unused_free s o b l))
    where
      free : (b : ℕ) → Block M b → k.tint b ≡ Free
      free b l = m.tints b l ∙ unused_free s o b l

  pub turn_sound : Turn M h k → Sound M k
  turn_sound m = go m.turning
    where
      go : Turning h k → Sound M k
      go (entering n f q) = enter_sound m n f q
      go (skipping o f) = skip_sound m o f

-- how the sweep goes on
going_on : {h k : Abs} {n : ℕ} → Onward h k n → k.phase ≡ sweeping → k.position ≡ h.position + 1
going_on (going n p e) z = e
going_on (ending e p) z = absurd (omega arith)

not_last : {h k : Abs} {n : ℕ} → Onward h k n → k.phase ≡ sweeping → h.position ≢ n
not_last (going n p e) z = n
not_last (ending e p) z = absurd (omega arith)

at_end : {h k : Abs} {n : ℕ} → Onward h k n → k.phase ≡ idle → h.position ≡ n
at_end (going n p e) z = absurd (omega arith)
at_end (ending e p) z = e

module _ {M : ℕ} {h k : Abs} (m : Sweep M h k) where
  -- a sweep leaves the cells of live blocks
  pub sweep_cells : {c : ℕ} → Live M h c → SameCells h k c
  sweep_cells {c} l = by_eq c h.position (λ i. go m.here i) (λ i. m.cells c l.block i)
    where
      go : Swept h k h.position → c ≡ h.position → SameCells h k c
      go (freeing w f b) i = absurd (l.spared (record { phase = m.before; ahead = omega arith; white = rw i w }))
      go (whitening w f b) i = rw i b
      go (passing w f b) i = rw i b

  sweep_over : {c : ℕ} → Live M h c → Live M k c
  sweep_over {c} l = by_eq c h.position (λ i. go m.here i) away
    where
      go : Swept h k h.position → c ≡ h.position → Live M k c
      go (freeing w f b) i = absurd (l.spared (record { phase = m.before; ahead = omega arith; white = rw i w }))
      go (whitening w f b) i =
          record { block = l.block; allocated = λ z. never (cc); spared = λ d. omega (arith, going_on m.onward d.phase, d.ahead) }
      go (passing w f b) i = absurd (l.allocated (rw i w))

      away : c ≢ h.position → Live M k c
      away i =
          record {
            block = l.block;
            allocated = λ z. l.allocated (sym (m.tints c l.block i) ∙ z);
            spared = λ d. l.spared (record { phase = m.before; ahead = omega (arith, going_on m.onward d.phase, d.ahead); white = sym (m.tints c l.block i) ∙ d.white });
          }

  sweep_back : Sound M h → {c : ℕ} → Live M k c → Live M h c
  sweep_back s {c} l = by_eq c h.position (λ i. go m.here i) (λ i. away m.onward i)
    where
      go : Swept h k h.position → c ≡ h.position → Live M h c
      go (freeing w f b) i = absurd (l.allocated (rw i f))
      go (whitening w f b) i = not_white l.block (λ z. never (cc)) (λ z. never (cc))
      go (passing w f b) i = absurd (l.allocated (rw i f))

      kept : c ≢ h.position → h.tint c ≢ Free
      kept i z = l.allocated (m.tints c l.block i ∙ z)

      away : Onward h k h.mark → c ≢ h.position → Live M h c
      away (going n p e) i =
          record {
            block = l.block;
            allocated = kept i;
            spared = λ d. l.spared (record { phase = p; ahead = omega (arith, d.ahead); white = m.tints c l.block i ∙ d.white });
          }
      away (ending e p) i =
          record { block = l.block; allocated = kept i; spared = λ d. i (omega (arith, d.ahead, below_mark s c l.block (kept i))) }

  sweep_grey : Sound M h → (c : ℕ) → Block M c → k.tint c ≢ Grey
  sweep_grey s c l z = by_eq c h.position (λ i. go m.here i) (λ i. s.swept_grey m.before c l (sym (m.tints c l i) ∙ z))
    where
      go : Swept h k h.position → c ≡ h.position → ⊥
      go (freeing w f b) i = never (cc)
      go (whitening w f b) i = never (cc)
      go (passing w f b) i = never (cc)

  sweep_black : Sound M h → (c : ℕ) → Block M c → (h.tint c ≢ Free → c ≤ h.position) → k.tint c ≢ Black
  sweep_black s c l o z = by_eq c h.position (λ i. go m.here i) (λ i. away i (sym (m.tints c l i) ∙ z))
    where
      away : c ≢ h.position → h.tint c ≡ Black → ⊥
      away i e = s.swept_black m.before c l (omega (arith, o (λ f. never (cc)))) e

      go : Swept h k h.position → c ≡ h.position → ⊥
      go (freeing w f b) i = never (cc)
      go (whitening w f b) i = never (cc)
      go (passing w f b) i = never (cc)

  sweep_free : Sound M h → (c w : ℕ) → Block M c → k.tint c ≡ Free → k.is_ref c w ≡ false
  sweep_free s c w l z =
      by_eq c h.position
      (λ i. go m.here i)
      (λ i. (m.cells c l i).bits w ∙ s.free_names c w l (sym (m.tints c l i) ∙ z))
    where
      go : Swept h k h.position → c ≡ h.position → k.is_ref c w ≡ false
      go (freeing x f b) i = rw i (b w)
      go (whitening x f b) i = never (cc)
      go (passing x f b) i = rw i (b.bits w ∙ s.free_names _ w m.block x)

  pub sweep_sound : Sound M h → Sound M k
  sweep_sound s =
      record {
        idle_grey = λ p. sweep_grey s;
        idle_black = λ p c l. sweep_black s c l (λ a. omega (arith, at_end m.onward p, below_mark s c l a));
        root_marked = λ p. absurd (no_marking m.onward p);
        named_marked = λ p. absurd (no_marking m.onward p);
        swept_grey = λ p. sweep_grey s;
        swept_black = λ p c l o. sweep_black s c l (λ a. omega (arith, going_on m.onward p));
        mark_low = omega (arith, m.mark, s.mark_low);
        mark_high = omega (arith, m.mark, s.mark_high);
        mark_over = λ c l i. m.tints c l (λ e. omega (arith, m.mark, m.short)) ∙ s.mark_over c l (omega (arith, m.mark));
        swept_mark = λ p. omega (arith, m.mark, m.short, going_on m.onward p, not_last m.onward p);
        root_live = λ n. subst (Live M k) (sym m.root) (sweep_over (s.root_live (rw m.root at n)));
        named_live = λ c w x l e n.
            let l' = sweep_back s l in
            sweep_over (s.named_live c w x l' (sym (same_ref (sweep_cells l') w) ∙ e) n);
        free_names = λ c w l f. sweep_free s c w l f;
      }

fresh_idle : {h : Abs} {x : ℕ} {t : Tint} → Fresh h x t → h.phase ≡ idle → t ≢ Black
fresh_idle (new_marking p e) q z = absurd (omega arith)
fresh_idle (new_ahead p l e) q z = absurd (omega arith)
fresh_idle (new_behind p l e) q z = never (cc)
fresh_idle (new_idle p e) q z = never (cc)

fresh_behind : {h : Abs} {x : ℕ} {t : Tint} → Fresh h x t → h.phase ≡ sweeping → x < h.position → t ≢ Black
fresh_behind (new_marking p e) q o z = absurd (omega arith)
fresh_behind (new_ahead p l e) q o z = absurd (omega arith)
fresh_behind (new_behind p l e) q o z = never (cc)
fresh_behind (new_idle p e) q o z = never (cc)

module _ {M n : ℕ} {h k : Abs} (s : Sound M h) (m : Mutation M n h k) where
  phase_before : {p : ℕ} → k.phase ≡ p → h.phase ≡ p
  phase_before e = sym m.steady.phase ∙ e

  -- what was allocated and not white isn't white
  mutation_dark : (x : ℕ) → Block M x → h.tint x ≢ Free → h.tint x ≢ White → k.tint x ≢ White
  mutation_dark x l a d z = d (tinted_white (m.tints x l) a z)

  mutation_grey : (b : ℕ) → Block M b → h.phase ≢ marking → h.tint b ≢ Grey → k.tint b ≢ Grey
  mutation_grey b l p d z = go (m.tints b l)
    where
      go : Tinted h k n b → ⊥
      go (keeps e) = d (cc)
      go (greys q i w e) = p q
      go (takes i f g) = fresh_grey g z

  -- a black block was black, or is new: it names nothing
  mutation_black : {A : Type 0} (b : ℕ) → Block M b → k.tint b ≡ Black → (h.tint b ≡ Black → A) → (h.tint b ≡ Free → Fresh h b (k.tint b) → A) → A
  mutation_black {A} b l z old new = go (m.tints b l)
    where
      go : Tinted h k n b → A
      go (keeps e) = old (cc)
      go (greys q i w e) = never (cc)
      go (takes i f g) = new f g

  -- what was free and lies above the mark is free
  mutation_over : (b : ℕ) → Block M b → k.mark < b → h.tint b ≡ Free → k.tint b ≡ Free
  mutation_over b l i f = go (m.tints b l)
    where
      go : Tinted h k n b → k.tint b ≡ Free
      go (keeps e) = e ∙ f
      go (greys q j w e) = never (cc)
      go (takes j w g) = absurd (omega (arith, l.low, m.covers (λ z. omega (arith, l.low)) (rw (← j) f)))

  new_names : (b w x : ℕ) → Block M b → h.tint b ≡ Free → ref h b w ≡ x → x ≢ 0 → ⊥
  unfolding named
  new_names b w x l f e z = z (cc (s.free_names b w l f))

  pub mutation_sound : Sound M k
  mutation_sound =
      record {
        idle_grey = λ p b l. mutation_grey b l (λ q. absurd (omega (arith, phase_before p))) (s.idle_grey (phase_before p) b l);
        idle_black = λ p b l z.
            mutation_black b l z (s.idle_black (phase_before p) b l) (λ f g. fresh_idle g (phase_before p) z);
        root_marked = λ p q.
            by_eq k.root n
            (λ i z. m.dark (λ o. q (i ∙ o)) (phase_before p) (rw (← i) z))
            (λ i.
            let e = m.root i in
            let q' = rw e at q in
            let l = s.root_live q' in
            λ z. mutation_dark h.root l.block l.allocated (s.root_marked (phase_before p) q') (rw (← e) z));
        named_marked = λ p b w x l e r q z.
            by_eq x n
            (λ i. m.dark (λ o. q (i ∙ o)) (phase_before p) (rw (← i) z))
            (λ i.
            let r' = m.refs b w x l r q i in
            mutation_black b l e
            (λ k'.
            let j = s.named_live b w x (not_white l (λ f. never (cc)) (λ f. never (cc))) r' q in
            mutation_dark x j.block j.allocated (s.named_marked (phase_before p) b w x l k' r' q) z)
            (λ f g. new_names b w x l f r' q));
        swept_grey = λ p b l. mutation_grey b l (λ q. absurd (omega (arith, phase_before p))) (s.swept_grey (phase_before p) b l);
        swept_black = λ p b l o z.
            let o' : b < h.position = omega (arith, m.steady.position) in
            mutation_black b l z (s.swept_black (phase_before p) b l o') (λ f g. fresh_behind g (phase_before p) o' z);
        mark_low = omega (arith, m.rises, s.mark_low);
        mark_high = m.within s.mark_high;
        mark_over = λ b l i. mutation_over b l i (s.mark_over b l (omega (arith, m.rises)));
        swept_mark = λ p. omega (arith, m.rises, m.steady.position, s.swept_mark (phase_before p));
        root_live = λ q.
            by_eq k.root n
            (λ i. subst (Live M k) (sym i) (m.target (λ o. q (i ∙ o))))
            (λ i. subst (Live M k) (sym (m.root i)) (over (s.root_live (rw (m.root i) at q))));
        named_live = λ b w x l e q.
            by_eq x n
            (λ i. subst (Live M k) (sym i) (m.target (λ o. q (i ∙ o))))
            (λ i.
            let r' = m.refs b w x l.block e q i in
            over (s.named_live b w x (was_live m.steady (m.tints b l.block) (λ f. new_names b w x l.block f r' q) l) r' q));
        free_names = λ b w l f.
            let f' = tinted_free (m.tints b l) f in
            m.frees b w l f' ∙ s.free_names b w l f';
      }
    where
      over : {b : ℕ} → Live M h b → Live M k b
      over {b} l = tinted_live m.steady (m.tints b l.block) l

pub move_sound : {M : ℕ} {h k : Abs} → Sound M h → Move M h k → Sound M k
move_sound s (begin m) = begin_sound s m
move_sound s (mark b m) = mark_sound s b m
move_sound s (turn m) = turn_sound s m
move_sound s (sweep m) = sweep_sound m s
move_sound s (write_number b w v m) = mutation_sound s (number_mutation b w v m)
move_sound s (write_ref b w t m) = mutation_sound s (ref_mutation b w t m)
move_sound s (set_root t m) = mutation_sound s (root_mutation t m)
move_sound s (take_held x b w m) = mutation_sound s (held_mutation x b w m)
move_sound s (take_root x m) = mutation_sound s (taken_mutation x m)
