-- Every allowed act on a well-formed heap is a run of moves with no unit among them, and every allowed deed is a run of moves, of which it is
-- known what they cost, name, take and write.
--     Linking m h k            where the free list of h is orderly, so is that of k, and the mark rose only where it had to
--     ActRun m h a             the run that the act a is, and what is known of it
--     act_run                  every allowed act is one
--     FreedAt g r, freed_at, freed_split     where in a run a block is freed, by the run's shape
--     DeedRun m h d            the run that the deed d is, and what is known of it
--     deed_run                 every allowed deed is one
--     deed_formed              an allowed deed leaves a well-formed heap well-formed
-- Assumes nothing.
use Prim.Native.Nat.{ℕ, ◌+◌, ◌≤◌}
use mathlib.Core.Path.{◌≡◌, refl, sym, ◌∙◌, ap, subst}
use mathlib.Core.Logic.{◌≢◌, ◌⊎◌, inl, inr, ⊎_elim}
use mathlib.Core.List.{List, ◌∷◌}
use native.Mathlib.Omega.{arith}
use lib.Dec.{eqb}
use lib.ListN.{length}
use Rattle.machine.specs.declared.Regs.{Regs}
use Rattle.machine.specs.Registers.{idle, with_grey, with_root}
use Rattle.machine.specs.Heap.{Heap}
use Rattle.machine.specs.OneUnit.{unit}
use Rattle.machine.specs.Store.{barrier, put_number, put_reference}
use Rattle.machine.specs.Allocate.{taken, held}
use Rattle.machine.specs.WellFormed.{Block, WellFormed}
use Rattle.machine.proofs.Tests.{by_eq, if_ind}
use Rattle.machine.proofs.Allocating.{holder_zero}
use Rattle.machine.proofs.Storing.{barrier_grey}
use Rattle.theory_moves.specs.Heaps.{Abs, Reached, Live, Sound}
use Rattle.theory_moves.specs.Moves.{Move}
use Rattle.theory_moves.specs.Kinds.{begun}
use Rattle.theory_moves.specs.Runs.{Run, rest, step, joined, units, marks, begins, ProperRun, FreedIn, freed_now, freed_later, WritesIn}
use Rattle.theory_moves.proofs.ByKind.{begins?, unit_none}
use Rattle.theory_moves.proofs.Runs.{run_sound}
use Rattle.theory_moves.proofs.Acting.{act_kept, acts_begin, acts_mark}
use Rattle.theory_reach.specs.Sums as sums
use Rattle.theory_moves.specs.Tints as tints
use Rattle.theory_moves.specs.Moves.Move.{write_number, write_ref, set_root, take_held, take_root}
use Rattle.theory_moves.specs.Kinds as kinds
use Rattle.theory_moves.specs.Runs as runs
use Rattle.theory_promises.specs.View.{view, Shape}
use Rattle.theory_promises.specs.Deeds.{Act, a_number, a_reference, a_root, a_take, acted, Allows, target, takes, Writes, SetsRoot, Deed, a_unit, an_act, deed, Allowed, costs, names, takings}
use Rattle.theory_promises.specs.Sessions.{Begins, marking?, FreedBy, now}
use Rattle.theory_promises.proofs.Viewing.{here, wf_shape, wf_sound, shape_wf}
use Rattle.theory_promises.proofs.Reaching.{free_view, view_free}
use Rattle.theory_promises.proofs.UnitMoves.{unit_goes}
use Rattle.theory_promises.proofs.StoringMoves.{number_move, number_shape, reference_move, reference_shape, root_move, root_shape}
use Rattle.theory_promises.proofs.TakingMoves.{take_root_lem, take_held_lem, take_shape, take_next}
use Rattle.theory_promises.proofs.Links.{HeadTaken, Heads, Orderly, Linked, move_linked}

abbrev pub Linking : ℕ → Heap → Heap → Type 0
Linking m h k = Sound m (view h) → Orderly m h.regs.free (view h) → Linked m k.regs.free (view h) (view k)

pub record ActRun (m : ℕ) (h : Heap) (a : Act) : Type 0 where
  pub blocks : (acted a h).regs.blocks ≡ m
  pub pace : (acted a h).regs.pace ≡ h.regs.pace
  pub run : Run m (view h) (view (acted a h))
  pub still : units run ≡ 0
  pub shape : Shape (acted a h)
  pub proper : (target a ≢ 0 → Reached (view h) (target a)) → ProperRun run
  pub taken : length (runs.taken run) ≡ takes a
  pub writes : (b w : ℕ) → Live m (view h) b → WritesIn run b w → Writes a b w
  pub root : (SetsRoot a → ⊥) → (acted a h).regs.root ≡ h.regs.root
  pub linked : Linking m h (acted a h)

-- the barrier keeps M, the pace and the root
barrier_keeps : (f : Regs → ℕ) → ((g : ℕ) (r : Regs) → f (with_grey g r) ≡ f r) → (t : ℕ) (h : Heap) → f (barrier t h).regs ≡ f h.regs
barrier_keeps f same t h = ap f (sym (barrier_grey t h)) ∙ same _ h.regs

-- taking and holding keep M and the pace
held_keeps : (f : Regs → ℕ) → ((x : ℕ) (r : Regs) → f (with_root x r) ≡ f r) → (b w x : ℕ) (h : Heap) → f (held b w x h).regs ≡ f h.regs
unfolding held put_reference
held_keeps f same b w x h = if_ind (λ (k : Heap). f k.regs ≡ f h.regs) (eqb b 0) (λ e. same x h.regs) (λ e. refl)

-- what keeps the registers M and the pace, and the shape
record Kept (h k : Heap) : Type 0 where
  blocks : k.regs.blocks ≡ h.regs.blocks
  pace : k.regs.pace ≡ h.regs.pace
  shape : Shape k

-- an act that is one move
one_move : (h : Heap) (a : Act) → Kept h (acted a h) → ((SetsRoot a → ⊥) → (acted a h).regs.root ≡ h.regs.root)
    → (v : Move h.regs.blocks (view h) (view (acted a h))) → kinds.cost v ≡ 0 → kinds.target v ≡ target a → length (kinds.taking v) ≡ takes a
    → ((b w : ℕ) → kinds.Writes v b w → Writes a b w) → Heads v h.regs.free (acted a h).regs.free → ActRun h.regs.blocks h a
one_move h a k r v c t n w f =
    record {
      blocks = k.blocks;
      pace = k.pace;
      run = step v rest;
      still = omega arith;
      shape = k.shape;
      proper = λ p. (λ z. subst (Reached (view h)) (sym t) (p (λ y. z (t ∙ y))), tt);
      taken = n;
      writes = λ b u g x. ⊎_elim (λ y. w b u y) (λ y. absurd y) x;
      root = r;
      linked = λ s o. move_linked s o v f;
    }

pub act_run : (h : Heap) → Shape h → (a : Act) → Allows a h → ActRun h.regs.blocks h a
unfolding acted put_number put_reference taken
act_run h p (a_number b w v) a =
    one_move h (a_number b w v) (record { blocks = refl; pace = refl; shape = number_shape h p b w v a }) (λ n. refl)
    (write_number b w v (number_move h p b w v a)) refl refl refl (λ c u x. (x.block, x.word)) refl
act_run h p (a_reference b w t) a =
    let kept : Kept h (acted (a_reference b w t) h) =
    record { blocks = barrier_keeps (λ r. r.blocks) (λ g r. refl) t h; pace = barrier_keeps (λ r. r.pace) (λ g r. refl) t h; shape = reference_shape h p t b w a } in
    one_move h (a_reference b w t) kept (λ n. barrier_keeps (λ r. r.root) (λ g r. refl) t h)
    (write_ref b w t (reference_move h p t b w a)) refl refl refl (λ c u x. (x.block, x.word)) (barrier_keeps (λ r. r.free) (λ g r. refl) t h)
act_run h p (a_root t) a =
    let kept : Kept h (acted (a_root t) h) =
    record { blocks = barrier_keeps (λ r. r.blocks) (λ g r. refl) t h; pace = barrier_keeps (λ r. r.pace) (λ g r. refl) t h; shape = root_shape h p t a } in
    one_move h (a_root t) kept (λ n. absurd (n tt)) (set_root t (root_move h p t a)) refl refl refl (λ c u x. x)
    (barrier_keeps (λ r. r.free) (λ g r. refl) t h)
act_run h p (a_take b w) a =
    let x = h.regs.free in
    let l : b ≢ 0 → Block h.regs.blocks b × (w ≤ 7) = holder_zero b w refl a.0 in
    let kept : Kept h (acted (a_take b w) h) =
    record { blocks = held_keeps (λ r. r.blocks) (λ y r. refl) b w x (taken h); pace = held_keeps (λ r. r.pace) (λ y r. refl) b w x (taken h); shape = take_shape h p b w a.1 l } in
    let first : HeadTaken x (view h) x (acted (a_take b w) h).regs.free = record { first = refl; next = take_next h p b w a.1 } in
    by_eq b 0
    (λ z. one_move h (a_take b w) kept (λ n. absurd (n z)) (take_root x (take_root_lem h p b w a.1 z)) refl refl refl (λ c u y. absurd y) first)
    (λ z. one_move h (a_take b w) kept (λ n. (take_held_lem h p b w a.1 z (l z).0 (l z).1).root)
    (take_held x b w (take_held_lem h p b w a.1 z (l z).0 (l z).1)) refl refl refl (λ c u y. (y.block, y.word)) first)

-- where in a run a block is freed, by the run's shape
abbrev pub FreedAt : {M : ℕ} {h k : Abs} → ℕ → Run M h k → Type 0
FreedAt g rest = ⊥
FreedAt g (step {h} {i} m r) = ((h.tint g ≢ tints.Free) × (i.tint g ≡ tints.Free)) ⊎ FreedAt g r

pub freed_at : {M g : ℕ} {h k : Abs} {r : Run M h k} → FreedIn M g h k r → FreedAt g r
freed_at (freed_now m s a f) = inl (a, f)
freed_at (freed_later m d) = inr (freed_at d)

pub freed_split : {M : ℕ} {h i k : Abs} (g : ℕ) (r : Run M h i) (s : Run M i k) → FreedAt g (joined r s) → FreedAt g r ⊎ FreedAt g s
freed_split g rest s x = inr x
freed_split g (step m r) s x = ⊎_elim (λ y. inl (inl y)) (λ y. ⊎_elim (λ z. inl (inr z)) (λ z. inr z) (freed_split g r s y)) x

-- acts free nothing
acts_freed : {M g : ℕ} {h k : Abs} (r : Run M h k) → units r ≡ 0 → sums.Block M g → FreedAt g r → ⊥
acts_freed rest z l x = x
acts_freed (step m r) z l x =
    ⊎_elim (λ y. act_kept m (omega arith) l y.0 y.1) (λ y. acts_freed r (omega arith) l y) x

-- a unit on a heap that isn't idle begins nothing
idle_begins : {M : ℕ} {h k : Abs} (m : Move M h k) → (h.phase ≡ idle → ⊥) → begun m ≡ 0
idle_begins m n = begins? m (λ b. absurd (n b.before)) (λ z. z)

pub record DeedRun (m : ℕ) (h : Heap) (d : Deed) : Type 0 where
  pub blocks : (deed d h).regs.blocks ≡ m
  pub pace : (deed d h).regs.pace ≡ h.regs.pace
  pub run : Run m (view h) (view (deed d h))
  pub shape : Shape (deed d h)
  pub units : units run ≡ costs d
  pub proper : (names d ≢ 0 → Reached (view h) (names d)) → ProperRun run
  pub taken : length (runs.taken run) ≡ takings d
  pub begins : (Begins d h → ⊥) → begins run ≡ 0
  pub marks : marks run ≡ marking? d h
  pub linked : Linking m h (deed d h)
  -- what frees a block is a unit
  pub freed : (g : ℕ) → sums.Block m g → FreedAt g run → (ds : List Deed) → FreedBy g (d ∷ ds) h

pub deed_run : (h : Heap) → Shape h → Sound h.regs.blocks (view h) → (d : Deed) → Allowed d h → DeedRun h.regs.blocks h d
unfolding deed
deed_run h p s a_unit a =
    let g = unit_goes h p s in
    let q = unit_none g.move g.unit in
    record {
      blocks = g.blocks;
      pace = g.pace;
      run = step g.move rest;
      shape = g.shape;
      units = omega (arith, g.unit);
      proper = λ n. (λ z. absurd (z q.0), tt);
      taken = q.1;
      begins = λ n. omega (arith, idle_begins g.move n);
      marks = ap (λ (x : ℕ). x + 0) g.marks ∙ omega arith;
      linked = λ d o. move_linked d o g.move g.heads;
      freed = λ c l x ds.
          ⊎_elim (λ y. now (λ z. y.0 (free_view z)) (view_free g.shape (subst (λ (m : ℕ). Block m c) (sym g.blocks) (here l)) y.1)) (λ y. absurd y) x;
    }
deed_run h p s (an_act x) a =
    let v = act_run h p x a in
    record {
      blocks = v.blocks;
      pace = v.pace;
      run = v.run;
      shape = v.shape;
      units = v.still;
      proper = v.proper;
      taken = v.taken;
      begins = λ n. acts_begin v.run v.still;
      marks = acts_mark v.run v.still;
      linked = v.linked;
      freed = λ c l y ds. absurd (acts_freed v.run v.still l y);
    }

pub deed_formed : (h : Heap) → WellFormed h → (d : Deed) → Allowed d h → WellFormed (deed d h)
deed_formed h f d a =
    let g = deed_run h (wf_shape h f) (wf_sound h f) d a in
    shape_wf (deed d h) g.shape (subst (λ (m : ℕ). Sound m (view (deed d h))) (sym g.blocks) (run_sound (wf_sound h f) g.run))
