-- Garbage goes: demand 2's last sentence.
--     cycle_collects           a cycle from an idle well-formed heap frees what was allocated and out of reach
--     garbage_goes             the promise, over sessions
-- Assumes nothing.
use Prim.Native.Nat.{ℕ}
use mathlib.Core.Path.{◌≡◌, refl, sym, subst}
use mathlib.Core.List.{List, ◌∷◌, ◌++◌}
use Rattle.machine.specs.Registers.{idle}
use Rattle.machine.specs.Heap.{Heap}
use Rattle.machine.specs.WellFormed.{Block, WellFormed}
use Rattle.theory_moves.proofs.Garbage as garbage
use Rattle.theory_promises.specs.Reachable.{Reachable, IsFree}
use Rattle.theory_promises.specs.View.{view}
use Rattle.theory_promises.specs.Deeds.{Deed, a_unit, deed, AllAllowed, after}
use Rattle.theory_promises.specs.Sessions.{Proper, NoBegin, FreedBy, later}
use Rattle.theory_promises.specs.Demand2.{GarbageGoes}
use Rattle.theory_promises.proofs.Viewing.{there, wf_shape, wf_sound}
use Rattle.theory_promises.proofs.Reaching.{view_reachable, view_free}
use Rattle.theory_promises.proofs.UnitMoves.{unit_begins}
use Rattle.theory_promises.proofs.DeedMoves.{freed_at, deed_run, deed_formed}
use Rattle.theory_promises.proofs.Courses.{deeds_run, allowed_left, allowed_right, session_is}

pub cycle_collects : (h : Heap) → WellFormed h → (ys : List Deed) → AllAllowed ys (deed a_unit h)
    → h.regs.phase ≡ idle → NoBegin ys (deed a_unit h) → (after ys (deed a_unit h)).regs.phase ≡ idle → Proper ys (deed a_unit h)
    → (g : ℕ) → Block h.regs.blocks g → (IsFree h g → ⊥) → (Reachable h g → ⊥) → FreedBy g (a_unit ∷ ys) h
unfolding deed
cycle_collects h f ys a i n z p g l k r =
    let s = wf_sound h f in
    let v = deed_run h (wf_shape h f) s a_unit tt in
    let q = deeds_run h.regs.blocks ys (deed a_unit h) v.blocks (deed_formed h f a_unit tt) a in
    let c = garbage.garbage_goes h.regs.blocks g (view h) (view (deed a_unit h)) (view (after ys (deed a_unit h))) in
    let d = c s (unit_begins h (wf_shape h f) s i) (there l) (λ e. k (view_free (wf_shape h f) l e)) (λ e. r (view_reachable e)) in
    later a_unit (q.freed g (there l) (freed_at (d q.run (q.begins n) (q.proper p) z)))

pub garbage_goes : GarbageGoes
garbage_goes h f cs n xs ys zs e i b z p g l k r =
    let s = session_is cs h f n in
    let a = subst (λ (ds : List Deed). AllAllowed ds h) e s.1 in
    let before = allowed_left xs (a_unit ∷ (ys ++ zs)) h a in
    let rest = allowed_right xs (a_unit ∷ (ys ++ zs)) h a in
    let q = deeds_run h.regs.blocks xs h refl f before in
    cycle_collects (after xs h) q.formed ys (allowed_left ys zs (deed a_unit (after xs h)) rest.1) i b z p g
    (subst (λ (m : ℕ). Block m g) (sym q.blocks) l) k r
