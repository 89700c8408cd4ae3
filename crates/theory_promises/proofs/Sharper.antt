-- How large a heap has to be: the sharper demand 3.
--     short_enough             N' cycles' worth of allocations pay for a cycle: K + P + 2 ≤ U · N'
--     cycle_shorter            a cycle marks only blocks that were reachable at its beginning
--     sharper_room_for, sharper_margin_for     the promises with N' for N
--     rest_untouched           where P blocks are enough, the blocks above P + 1 are never taken
-- What the abstract collector keeps is cited (theory_moves); the mark is the peak by proofs/Peaks.antt.
-- Assumes nothing.
use Prim.Native.Nat.{ℕ, ◌+◌, ◌*◌, ◌≤◌}
use mathlib.Core.Path.{◌≡◌, subst}
use mathlib.Core.Logic.{◌≢◌}
use mathlib.Core.List.{List, ◌∷◌}
use native.Mathlib.Omega.{arith}
use Rattle.machine.specs.Registers.{marking}
use Rattle.machine.specs.Colouring.{first_grey}
use Rattle.machine.specs.Heap.{Heap, colouring}
use Rattle.machine.specs.WellFormed.{WellFormed}
use Rattle.machine.specs.Format.{formatted}
use Rattle.machine.specs.OneUnit.{marked}
use Rattle.machine.specs.Session.{Call, does, session}
use Rattle.machine.proofs.Rounding.{round_enough}
use Rattle.theory_moves.specs.Heaps.{Sound, span}
use Rattle.theory_moves.specs.Moves.{Begin, Mark}
use Rattle.theory_moves.specs.Demand3.{Session, Settled}
use Rattle.theory_moves.specs.Sharper.{Frugal}
use Rattle.theory_moves.proofs.Marking.{marks_reachable}
use Rattle.theory_moves.proofs.Room.{sharper_room, sharper_margin}
use Rattle.theory_moves.proofs.Room as abstract
use Rattle.theory_promises.specs.View.{view}
use Rattle.theory_promises.specs.Reachable.{Reachable}
use Rattle.theory_promises.specs.Deeds.{Deed, a_unit, deed, after}
use Rattle.theory_promises.specs.Plans.{asks}
use Rattle.theory_promises.specs.Sessions.{units_in, marks_in}
use Rattle.theory_promises.specs.Demand3.{blocks_up_to_mark, Few, Premises, Asking}
use Rattle.theory_promises.specs.Sharper.{short_cycles, ProperCycle, CycleShorter, SharperRoomFor, SharperMarginFor, RestUntouched}
use Rattle.theory_promises.proofs.Viewing.{wf_shape, wf_sound}
use Rattle.theory_promises.proofs.Reaching.{view_reachable}
use Rattle.theory_promises.proofs.Counts.{mark_count}
use Rattle.theory_promises.proofs.MarkingMoves.{mark_move}
use Rattle.theory_promises.proofs.FreshHeap.{fresh_orderly}
use Rattle.theory_promises.proofs.Courses.{Ran}
use Rattle.theory_promises.proofs.Bounding.{begins, run_of, Cut, cut}
use Rattle.theory_promises.proofs.Rooming.{few_view, held, settled, sound, left_count, not_wanting, no_want}

pub short_enough : (k p u : ℕ) → 1 ≤ u → k + p + 2 ≤ u * short_cycles k p u
unfolding short_cycles
short_enough k p u l = round_enough (k + p + 2) u l

module _ (h : Heap) (cs : List Call) (xs ys zs : List Deed) (c : ProperCycle h cs xs ys zs) where
  -- where it begins, and the heap after its deeds
  abbrev start : Heap
  start = after xs h

  abbrev later : Heap
  later = after ys (deed a_unit start)

  place : Cut h xs ys
  place = cut h c.formed cs c.unreset xs ys zs c.deeds

  formed : WellFormed start
  formed = place.formed

  first : Begin start.regs.blocks (view start) (view (deed a_unit start))
  first = begins start formed ys place.allowed c.starts c.begun

  ran : Ran start.regs.blocks (deed a_unit start) ys
  ran = run_of start formed ys place.allowed c.starts c.begun

  marks_only : later.regs.phase ≡ marking → later.regs.grey ≢ 1 → Reachable start (first_grey (colouring later))
  marks_only q g =
      let m = mark_move later (wf_shape later ran.formed) q g in
      let n = subst (λ (b : ℕ). Mark b (first_grey (colouring later)) (view later) (view (marked later))) ran.blocks m in
      view_reachable (marks_reachable.only (wf_sound start formed) first ran.run (ran.begins c.begun) (ran.proper c.proper) _ n)

  module _ (k : ℕ) (f : Few k start) where
    marks_few : marks_in ys (deed a_unit start) ≤ k
    marks_few =
        let w = few_view k start f in
        omega (arith, ran.marks, marks_reachable.few (wf_sound start formed) first w ran.run (ran.begins c.begun) (ran.proper c.proper))

    units_few : units_in (a_unit ∷ ys) ≤ k + blocks_up_to_mark later + 2
    units_few =
        let w = few_view k start f in
        omega (
          arith,
          mark_count later (wf_shape later ran.formed),
          ran.units,
          marks_reachable.most (wf_sound start formed) first w ran.run (ran.begins c.begun) (ran.proper c.proper),
        )

pub cycle_shorter : CycleShorter
cycle_shorter =
    record {
      only = marks_only;
      few = λ k h cs xs ys zs c f. marks_few h cs xs ys zs c k f;
      short = λ k h cs xs ys zs c f. units_few h cs xs ys zs c k f;
    }

-- a session from a fresh heap
module _ (m u k n : ℕ) (cs : List Call) (q : Premises m u k cs) (a : Asking n cs (formatted m u)) where
  abbrev j : Heap
  j = session cs (formatted m u)

  events : Session m u n k (view (formatted m u)) (view j)
  events = (held m u k n cs q a).events

  frugal : Frugal events
  unfolding formatted events
  frugal = (held m u k n cs q a).frugal (fresh_orderly m u q.some q.most q.pace)

  fresh : Sound m (view (formatted m u))
  fresh = sound m u k n cs q a

  idly : Settled m k (view (formatted m u))
  idly = settled m u k n cs q a

  -- its mark is 1
  low : (p : ℕ) → span (view (formatted m u)) ≤ p
  unfolding formatted
  low p = omega arith

  room_left : k + 2 * short_cycles k m u + n ≤ m + 1 → (c : Call) → asks c j ≤ n → (does c j).answer.refusal ≢ 7
  room_left l c b =
      not_wanting m u k n cs q a c (λ r o w.
      sharper_room m u n k (short_cycles k m u) _ _ _ (short_enough k m u q.paced) fresh idly events r o _ b w l)

  count_left : m + 1 ≤ j.regs.count + k + 2 * short_cycles k m u + n
  count_left =
      let s = sharper_margin m u n k (short_cycles k m u) _ _ (short_enough k m u q.paced) fresh idly events in
      omega (arith, s, left_count m u k n cs q a)

  -- P blocks are enough
  module _ (p : ℕ) (l : k + 2 * short_cycles k p u + n ≤ p + 1) where
    mark_low_lem : j.regs.mark ≤ p + 1
    mark_low_lem =
        let s = (abstract.rest_untouched).stays m u n k (short_cycles k p u) p _ _ (short_enough k p u q.paced) l fresh idly (low p) events frugal in
        omega (arith, s)

    room_below : p ≤ m → (c : Call) → asks c j ≤ n → (does c j).answer.refusal ≢ 7
    room_below i c b =
        not_wanting m u k n cs q a c (λ r o w.
        (abstract.rest_untouched).room m u n k (short_cycles k p u) p _ _ _ (short_enough k p u q.paced) l i fresh idly (low p) events frugal r o _ b w)

pub sharper_room_for : SharperRoomFor
sharper_room_for = no_want (λ m u k n. k + 2 * short_cycles k m u + n ≤ m + 1) room_left

pub sharper_margin_for : SharperMarginFor
sharper_margin_for = count_left

pub rest_untouched : RestUntouched
rest_untouched =
    record {
      stays = λ m u k n p cs q a l. mark_low_lem m u k n cs q a p l;
      room = λ p.
          no_want (λ m u k n. (p ≤ m) × (k + 2 * short_cycles k p u + n ≤ p + 1))
          (λ m u k n cs q a l c b. room_below m u k n cs q a p l.1 l.0 c b);
    }
