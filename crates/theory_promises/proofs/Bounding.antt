-- A cycle is short: demand 3's first sentence.
--     allocated_count          the number of allocated blocks, in the machine and in its view
--     begins, run_of           a unit of an idle heap is a beginning, and the deeds after it are a run
--     Cut h xs ys, cut         the place of a cycle in a session: the heap that it begins on is well-formed, and its deeds are allowed
--     cycle_short              the promise
-- Assumes nothing.
use Prim.Native.Nat.{ℕ, ◌+◌, ◌≤◌}
use mathlib.Core.Path.{◌≡◌, refl, sym, ◌∙◌, ap, subst}
use mathlib.Core.Logic.{◌≢◌}
use mathlib.Core.List.{List, [], ◌∷◌, ◌++◌}
use native.Mathlib.Omega.{arith}
use Rattle.machine.specs.declared.Colour.{Colour}
use Rattle.machine.specs.declared.Colour.TheVariants.{White, Grey, Black, Free, Outside}
use Rattle.machine.specs.Registers.{idle}
use Rattle.machine.specs.Colouring.{allocated_colour, is_allocated}
use Rattle.machine.specs.Heap.{Heap, colouring, colour_of}
use Rattle.machine.specs.WellFormed.{WellFormed}
use Rattle.machine.specs.Session.{Call}
use Rattle.theory_reach.specs.Sums.{total}
use Rattle.theory_moves.specs.Moves.{Begin, Move}
use Rattle.theory_moves.specs.Kinds.{cost, marked}
use Rattle.theory_moves.specs.Demand3.{stands, allocated}
use Rattle.theory_moves.proofs.ByKind.{kind_cost, ended_here}
use Rattle.theory_moves.proofs.Bounds as bounds
use Rattle.theory_promises.specs.View.{tint_of, view, Shape}
use Rattle.theory_promises.specs.Deeds.{Deed, a_unit, deed, AllAllowed, after}
use Rattle.theory_promises.specs.Sessions.{NoReset, session_deeds, NoBegin, units_in, marking?, marks_in}
use Rattle.theory_promises.specs.Demand3.{allocated_blocks, blocks_up_to_mark, then_unit, CycleShort}
use Rattle.theory_promises.proofs.Viewing.{wf_shape, wf_sound}
use Rattle.theory_promises.proofs.Counts.{one, count_sum, free_count, mark_count}
use Rattle.theory_promises.proofs.UnitMoves.{unit_goes, unit_begins}
use Rattle.theory_promises.proofs.DeedMoves.{deed_run, deed_formed}
use Rattle.theory_promises.proofs.Planning.{after_append}
use Rattle.theory_promises.proofs.Courses.{Ran, deeds_run, allowed_left, allowed_right, session_is}

colour_stands : (c : Colour) → stands (tint_of c) ≡ one (allocated_colour c)
colour_stands White = refl
colour_stands Grey = refl
colour_stands Black = refl
colour_stands Free = refl
colour_stands Outside = refl

pub allocated_count : (h : Heap) → allocated h.regs.blocks (view h) ≡ allocated_blocks h
unfolding total
allocated_count h =
    count_sum (is_allocated (colouring h)) (λ b. stands (tint_of (colour_of h b))) h.regs.blocks 2
    (λ c l. colour_stands (colour_of h c))

counted : (h : Heap) → WellFormed h → allocated_blocks h + h.regs.count ≡ h.regs.blocks
counted h f = omega (arith, allocated_count h, free_count h (wf_shape h f), (bounds.cycle_short).counted h.regs.blocks (view h))

-- deeds, and a unit after them
units_then : (ys : List Deed) → units_in (then_unit ys) ≡ units_in ys + 1
units_then [] = refl
units_then (d ∷ ys) = omega (arith, units_then ys)

marks_then : (ys : List Deed) (h : Heap) → marks_in (then_unit ys) h ≡ marks_in ys h + marking? a_unit (after ys h)
unfolding after
marks_then [] h = omega arith
marks_then (d ∷ ys) h = omega (arith, marks_then ys (deed d h))

after_then : (ys : List Deed) (h : Heap) → after (then_unit ys) h ≡ deed a_unit (after ys h)
unfolding after
after_then ys h = after_append ys (a_unit ∷ []) h

begin_then : (ys : List Deed) (h : Heap) → NoBegin (then_unit ys) h → NoBegin ys h × ((after ys h).regs.phase ≢ idle)
unfolding after
begin_then [] h n = (tt, n.0)
begin_then (d ∷ ys) h n = let r = begin_then ys (deed d h) n.1 in ((n.0, r.0), r.1)

-- a unit as a move, whatever M is called
record UnitMove (m : ℕ) (h : Heap) : Type 0 where
  move : Move m (view h) (view (deed a_unit h))
  unit : cost move ≡ 1
  marks : marked move ≡ marking? a_unit h
  shape : Shape (deed a_unit h)

unit_move : (h : Heap) → WellFormed h → UnitMove h.regs.blocks h
unfolding deed
unit_move h f = let g = unit_goes h (wf_shape h f) (wf_sound h f) in record { move = g.move; unit = g.unit; marks = g.marks; shape = g.shape }

module _ (h : Heap) (f : WellFormed h) (ys : List Deed) (a : AllAllowed ys (deed a_unit h)) (i : h.regs.phase ≡ idle) (n : NoBegin ys (deed a_unit h)) where
  pub begins : Begin h.regs.blocks (view h) (view (deed a_unit h))
  unfolding deed
  begins = unit_begins h (wf_shape h f) (wf_sound h f) i

  pub run_of : Ran h.regs.blocks (deed a_unit h) ys
  run_of = let v = deed_run h (wf_shape h f) (wf_sound h f) a_unit tt in deeds_run h.regs.blocks ys (deed a_unit h) v.blocks (deed_formed h f a_unit tt) a

  -- the heap after the deeds
  abbrev later : Heap
  later = after ys (deed a_unit h)

  units_most : units_in (a_unit ∷ ys) ≤ allocated_blocks h + blocks_up_to_mark later + 2
  units_most =
      omega (
        arith,
        allocated_count h,
        mark_count later (wf_shape later run_of.formed),
        run_of.units,
        (bounds.cycle_short).most (wf_sound h f) begins run_of.run (run_of.begins n),
      )

  -- the unit that follows is the cycle's last
  units_exact : later.regs.phase ≢ idle → (deed a_unit later).regs.phase ≡ idle
      → units_in (a_unit ∷ ys) + 1 ≡ 2 + (marks_in ys (deed a_unit h) + marking? a_unit later) + blocks_up_to_mark (deed a_unit later)
  units_exact o z =
      let u = subst (λ (m : ℕ). UnitMove m later) run_of.blocks (unit_move later run_of.formed) in
      let e = ended_here o z u.move in
      omega (
        arith,
        mark_count (deed a_unit later) u.shape,
        run_of.units,
        run_of.marks,
        u.marks,
        u.unit,
        kind_cost u.move,
        (bounds.cycle_short).exact (wf_sound h f) begins run_of.run (run_of.begins n) u.move e,
      )

-- the place of a cycle in a session
pub record Cut (h : Heap) (xs ys : List Deed) : Type 0 where
  pub formed : WellFormed (after xs h)
  pub allowed : AllAllowed ys (deed a_unit (after xs h))

pub cut : (h : Heap) → WellFormed h → (cs : List Call) → NoReset cs h → (xs ys zs : List Deed) → session_deeds cs h ≡ xs ++ (a_unit ∷ (ys ++ zs)) → Cut h xs ys
cut h f cs n xs ys zs e =
    let s = session_is cs h f n in
    let a = subst (λ (ds : List Deed). AllAllowed ds h) e s.1 in
    let q = deeds_run h.regs.blocks xs h refl f (allowed_left xs (a_unit ∷ (ys ++ zs)) h a) in
    record { formed = q.formed; allowed = allowed_left ys zs (deed a_unit (after xs h)) (allowed_right xs (a_unit ∷ (ys ++ zs)) h a).1 }

pub cycle_short : CycleShort
cycle_short =
    record {
      counted = counted;
      up_to = λ h f. mark_count h (wf_shape h f);
      short = λ h f cs n xs ys zs e i b. let c = cut h f cs n xs ys zs e in units_most (after xs h) c.formed ys c.allowed i b;
      exact = λ h f cs n xs ys zs e i b z.
          let k = deed a_unit (after xs h) in
          let c = cut h f cs n xs (then_unit ys) zs e in
          let o = begin_then ys k b in
          let w = after_then ys k in
          let a = allowed_left ys (a_unit ∷ []) k c.allowed in
          let x = units_exact (after xs h) c.formed ys a i o.0 o.1 (ap (λ (j : Heap). j.regs.phase) (sym w) ∙ z) in
          omega (arith, x, units_then ys, marks_then ys k, ap blocks_up_to_mark w);
    }
