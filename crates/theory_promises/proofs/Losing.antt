-- Nothing reachable is lost: no call frees a block reachable before it, and only a word that it writes changes.
--     reachable_live           on a well-formed heap a reachable block is live
--     unit_reachable, unit_reached     a unit leaves what is reachable reachable, and makes nothing else so
--     acts_stay, acts_same     acts free no block that is live before them, and leave its unwritten words
--     course_kept, course_same     so do units and then acts, of a block reachable before them
--     nothing_lost             the promise
-- Assumes nothing.
use Prim.Native.Nat.{ℕ, zero, suc, ◌≤◌}
use mathlib.Core.Path.{◌≡◌, refl, sym, ◌∙◌, subst}
use mathlib.Core.Logic.{inl, inr}
use mathlib.Core.List.{List, [], ◌∷◌, ◌++◌, map}
use lib.ListN.{take, replicate}
use Rattle.machine.specs.Heap.{Heap}
use Rattle.machine.specs.OneUnit.{unit}
use Rattle.machine.specs.WellFormed.{WellFormed}
use Rattle.machine.specs.WellFormed as formed
use Rattle.machine.specs.Session.{Call, session}
use Rattle.theory_moves.specs.Heaps.{Live}
use Rattle.theory_moves.proofs.Heaps.{reached_live}
use Rattle.theory_moves.proofs.Safety.{unit_cells, unit_over, unit_back}
use Rattle.theory_moves.proofs.Acting.{acts_live, acts_cells}
use Rattle.theory_promises.specs.View.{view}
use Rattle.theory_promises.specs.Reachable.{Reachable, IsFree, SameWord}
use Rattle.theory_promises.specs.Deeds.{Act, Written, a_unit, an_act, deed, AllAllowed, after}
use Rattle.theory_promises.specs.Plans.{plan, Resets}
use Rattle.theory_promises.specs.Demand2.{Safe, NothingLost}
use Rattle.theory_promises.proofs.Viewing.{wf_shape, wf_sound, view_live}
use Rattle.theory_promises.proofs.Reaching.{reachable_view, view_reachable, free_view, same_word}
use Rattle.theory_promises.proofs.UnitMoves.{unit_goes}
use Rattle.theory_promises.proofs.DeedMoves.{ActRun, act_run, deed_formed}
use Rattle.theory_promises.proofs.Calls.{known}
use Rattle.theory_promises.proofs.Keeping.{session_formed}

pub reachable_live : (h : Heap) → WellFormed h → (b : ℕ) → Reachable h b → formed.Live h b
reachable_live h f b r = view_live h (reached_live (wf_sound h f) (reachable_view r))

module _ (h : Heap) (f : WellFormed h) (b : ℕ) where
  pub unit_reachable : Reachable h b → Reachable (deed a_unit h) b
  unfolding deed
  unit_reachable r = let g = unit_goes h (wf_shape h f) (wf_sound h f) in view_reachable (unit_over (wf_sound h f) g.move g.unit (reachable_view r))

  pub unit_reached : Reachable (deed a_unit h) b → Reachable h b
  unfolding deed
  unit_reached r = let g = unit_goes h (wf_shape h f) (wf_sound h f) in view_reachable (unit_back (wf_sound h f) g.move g.unit (reachable_view r))

  -- a unit leaves its words
  unit_same : (w : ℕ) → Reachable h b → w ≤ 7 → SameWord h (deed a_unit h) b w
  unfolding deed
  unit_same w r l =
      let g = unit_goes h (wf_shape h f) (wf_sound h f) in
      let s = unit_cells g.move g.unit (reached_live (wf_sound h f) (reachable_view r)) in
      same_word l (record { word = s.words w; bit = s.bits w })

pub word_join : {h k j : Heap} {b w : ℕ} → SameWord h k b w → SameWord k j b w → SameWord h j b w
word_join p q = record { word = q.word ∙ p.word; bit = q.bit ∙ p.bit }

-- acts, one after another, on a block that is live
module _ (b : ℕ) where
  -- the first of them
  ran : (m : ℕ) (a : Act) (h : Heap) → h.regs.blocks ≡ m → WellFormed h → AllAllowed (an_act a ∷ []) h → ActRun m h a
  ran m a h e f x = subst (λ (n : ℕ). ActRun n h a) e (act_run h (wf_shape h f) a x.0)

  pub acts_stay : (m : ℕ) (ys : List Act) (h : Heap) → h.regs.blocks ≡ m → WellFormed h → AllAllowed (map an_act ys) h
      → Live m (view h) b → (j : ℕ) → IsFree (after (take j (map an_act ys)) h) b → ⊥
  unfolding after deed
  acts_stay m [] h e f x l zero z = l.allocated (free_view z)
  acts_stay m [] h e f x l (suc j) z = l.allocated (free_view z)
  acts_stay m (a ∷ ys) h e f x l zero z = l.allocated (free_view z)
  acts_stay m (a ∷ ys) h e f x l (suc j) z =
      let v = ran m a h e f (x.0, tt) in
      acts_stay m ys (deed (an_act a) h) v.blocks (deed_formed h f (an_act a) x.0) x.1 (acts_live v.run v.still l) j z

  pub acts_same : (m : ℕ) (ys : List Act) (h : Heap) → h.regs.blocks ≡ m → WellFormed h → AllAllowed (map an_act ys) h
      → Live m (view h) b → (w : ℕ) → w ≤ 7 → (Written ys b w → ⊥) → SameWord h (after (map an_act ys) h) b w
  unfolding after deed
  acts_same m [] h e f x l w i n = record { word = refl; bit = refl }
  acts_same m (a ∷ ys) h e f x l w i n =
      let v = ran m a h e f (x.0, tt) in
      word_join
      (same_word i (acts_cells v.run v.still l w (λ y. n (inl (v.writes b w l y)))))
      (acts_same m ys (deed (an_act a) h) v.blocks (deed_formed h f (an_act a) x.0) x.1 (acts_live v.run v.still l) w i (λ y. n (inr y)))

  -- units, and then acts
  pub course_kept : (n : ℕ) (ys : List Act) (h : Heap) → WellFormed h → AllAllowed (map an_act ys) (after (replicate n a_unit) h)
      → Reachable h b → (j : ℕ) → IsFree (after (take j (replicate n a_unit ++ map an_act ys)) h) b → ⊥
  unfolding after
  course_kept zero ys h f x r j z = acts_stay h.regs.blocks ys h refl f x (reached_live (wf_sound h f) (reachable_view r)) j z
  course_kept (suc n) ys h f x r zero z = (reached_live (wf_sound h f) (reachable_view r)).allocated (free_view z)
  course_kept (suc n) ys h f x r (suc j) z = course_kept n ys (deed a_unit h) (deed_formed h f a_unit tt) x (unit_reachable h f b r) j z

  pub course_same : (n : ℕ) (ys : List Act) (h : Heap) → WellFormed h → AllAllowed (map an_act ys) (after (replicate n a_unit) h)
      → Reachable h b → (w : ℕ) → w ≤ 7 → (Written ys b w → ⊥) → SameWord h (after (replicate n a_unit ++ map an_act ys) h) b w
  unfolding after
  course_same zero ys h f x r w i y = acts_same h.regs.blocks ys h refl f x (reached_live (wf_sound h f) (reachable_view r)) w i y
  course_same (suc n) ys h f x r w i y =
      word_join (unit_same h f b w r i) (course_same n ys (deed a_unit h) (deed_formed h f a_unit tt) x (unit_reachable h f b r) w i y)

pub call_safe : (h : Heap) → WellFormed h → (c : Call) → (Resets c h → ⊥) → Safe c h
call_safe h f c n =
    let p = plan c h in
    let q = known c h f in
    record {
      live = reachable_live h f;
      kept = λ b r j. course_kept b p.units p.acts h f q.allowed r j;
      whole = q.whole n;
      same = λ b w r l x.
          subst (λ (k : Heap). SameWord h k b w) (sym (q.whole n))
          (course_same b p.units p.acts h f q.allowed r w l
          (λ y. x (inr (λ z. (reached_live (wf_sound h f) (reachable_view r)).allocated (free_view z), y))));
    }

pub nothing_lost : NothingLost
nothing_lost =
    record {
      call = λ h f c n. call_safe h f c n;
      everywhere = λ h f cs c n. call_safe (session cs h) (session_formed cs h f) c n;
    }
