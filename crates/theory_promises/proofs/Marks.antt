-- The mark is the highest block that was handed out.
--     deed_mark            a deed raises the mark to the block that it takes, and leaves it where it takes none
--     deeds_mark           so do deeds in a row
--     mark_is_highest      the promise
-- Assumes nothing.
use Prim.Native.Nat.{ℕ, max, ◌≤◌}
use mathlib.Core.Path.{◌≡◌, refl, ap}
use mathlib.Core.List.{List, [], ◌∷◌}
use native.Mathlib.Omega.{arith}
use lib.Dec.{eqb}
use Rattle.machine.specs.Registers.{marking}
use Rattle.machine.specs.Heap.{Heap}
use Rattle.machine.specs.WellFormed.{WellFormed}
use Rattle.machine.specs.OneUnit.{unit}
use Rattle.machine.specs.Format.{formatted}
use Rattle.machine.specs.Store.{barrier, put_number, put_reference}
use Rattle.machine.specs.Allocate.{taken, held}
use Rattle.machine.proofs.Tests.{if_ind}
use Rattle.theory_moves.proofs.ByKind.{unit_mark}
use Rattle.theory_promises.specs.Deeds.{Act, a_number, a_reference, a_root, a_take, acted, Deed, a_unit, an_act, deed, after, AllAllowed}
use Rattle.theory_promises.specs.Sessions.{session_deeds}
use Rattle.theory_promises.specs.Marks.{handed_out, highest, MarkIsHighest}
use Rattle.theory_promises.proofs.Viewing.{wf_shape, wf_sound}
use Rattle.theory_promises.proofs.UnitMoves.{unit_goes}
use Rattle.theory_promises.proofs.DeedMoves.{deed_formed}
use Rattle.theory_promises.proofs.FreshHeap.{fresh_formed}
use Rattle.theory_promises.proofs.Courses.{session_is}

unit_keeps : (h : Heap) → WellFormed h → (unit h).heap.regs.mark ≡ h.regs.mark
unit_keeps h f = let g = unit_goes h (wf_shape h f) (wf_sound h f) in unit_mark g.move g.unit

barrier_keeps : (t : ℕ) (h : Heap) → (barrier t h).regs.mark ≡ h.regs.mark
unfolding barrier
barrier_keeps t h = if_ind (λ (k : Heap). k.regs.mark ≡ h.regs.mark) (eqb h.regs.phase marking) (λ e. refl) (λ e. refl)

held_keeps : (b w x : ℕ) (h : Heap) → (held b w x h).regs.mark ≡ h.regs.mark
unfolding held put_reference
held_keeps b w x h = if_ind (λ (k : Heap). k.regs.mark ≡ h.regs.mark) (eqb b 0) (λ e. refl) (λ e. refl)

act_mark : (a : Act) (h : Heap) → 1 ≤ h.regs.mark → (acted a h).regs.mark ≡ max h.regs.mark (handed_out (an_act a) h)
unfolding acted put_number put_reference taken
act_mark (a_number b w v) h l = omega arith
act_mark (a_reference b w t) h l = omega (arith, barrier_keeps t h)
act_mark (a_root t) h l = omega (arith, barrier_keeps t h)
act_mark (a_take b w) h l = held_keeps b w h.regs.free (taken h)

pub deed_mark : (d : Deed) (h : Heap) → WellFormed h → (deed d h).regs.mark ≡ max h.regs.mark (handed_out d h)
unfolding deed
deed_mark a_unit h f = omega (arith, unit_keeps h f, (wf_sound h f).mark_low)
deed_mark (an_act a) h f = act_mark a h (wf_sound h f).mark_low

pub deeds_mark : (ds : List Deed) (h : Heap) → WellFormed h → AllAllowed ds h → (after ds h).regs.mark ≡ max h.regs.mark (highest ds h)
unfolding after
deeds_mark [] h f a = omega (arith, (wf_sound h f).mark_low)
deeds_mark (d ∷ ds) h f a =
    omega (arith, deed_mark d h f, deeds_mark ds (deed d h) (deed_formed h f d a.0) a.1)

highest_some : (ds : List Deed) (h : Heap) → 1 ≤ highest ds h
highest_some [] h = omega arith
highest_some (d ∷ ds) h = omega (arith, highest_some ds (deed d h))

pub mark_is_highest : MarkIsHighest
unfolding formatted
mark_is_highest m u some most pace cs n =
    let h = formatted m u in
    let f = fresh_formed m u some most pace in
    let s = session_is cs h f n in
    let t = deeds_mark (session_deeds cs h) h f s.1 in
    omega (arith, t, ap (λ (k : Heap). k.regs.mark) s.0, highest_some (session_deeds cs h) h)
