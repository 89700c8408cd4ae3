-- The mark less 1 is the most blocks that were allocated at once.
--     Tidy h                   the free list of h is orderly
--     allocated_low            no more blocks are allocated than lie at or below the mark
--     deeds_tidy               allowed deeds leave it so
--     peak_mark                after deeds the mark is where it was, or that of the most blocks allocated on the way, whichever is higher
--     acts_peak                acts free nothing, so the most are allocated after the last of them
--     Thrifty m h k            what a call leaves: a tidy heap, and a mark that only rose where all blocks up to it are allocated
--     call_thrifty             every call does that makes nothing anew
--     mark_is_peak             the promise
-- Assumes nothing.
use Prim.Native.Nat.{ℕ, ◌+◌, max, ◌≤◌}
use mathlib.Core.Path.{◌≡◌, refl, sym, ◌∙◌, ap, subst}
use mathlib.Core.Logic.{⊎_elim}
use mathlib.Core.List.{List, [], ◌∷◌, map}
use native.Mathlib.Omega.{arith}
use lib.Dec.{leb}
use lib.ListN.{replicate}
use borrow.Author.Tests.{le-leb}
use Rattle.machine.specs.Heap.{Heap}
use Rattle.machine.specs.WellFormed.{WellFormed}
use Rattle.machine.specs.Format.{formatted}
use Rattle.machine.specs.Session.{Call, does}
use Rattle.theory_reach.specs.Sums.{total}
use Rattle.theory_reach.proofs.Sums.{total_le}
use Rattle.theory_reach.proofs.Splits.{by_le}
use Rattle.theory_moves.specs.Heaps.{span}
use Rattle.theory_moves.specs.Demand3.{stands, allocated}
use Rattle.theory_moves.proofs.Runs.{run_mark}
use Rattle.theory_moves.proofs.Working.{work_mark}
use Rattle.theory_moves.proofs.Taking.{stands_one, acts_stand}
use Rattle.theory_promises.specs.View.{view}
use Rattle.theory_promises.specs.Deeds.{Act, Deed, a_unit, an_act, deed, Allowed, after, AllAllowed}
use Rattle.theory_promises.specs.Plans.{plan, worked, Resets}
use Rattle.theory_promises.specs.Sessions.{session_deeds}
use Rattle.theory_promises.specs.Demand3.{allocated_blocks}
use Rattle.theory_promises.specs.Sharper.{peak, MarkIsPeak}
use Rattle.theory_promises.proofs.Viewing.{wf_shape, wf_sound}
use Rattle.theory_promises.proofs.Counts.{one, count_sum}
use Rattle.theory_promises.proofs.Links.{Orderly, Rest, rest_long}
use Rattle.theory_promises.proofs.DeedMoves.{deed_run, deed_formed}
use Rattle.theory_promises.proofs.RunMoves.{units_worked}
use Rattle.theory_promises.proofs.FreshHeap.{fresh_orderly, fresh_formed}
use Rattle.theory_promises.proofs.Planning.{after_append}
use Rattle.theory_promises.proofs.Calls.{known, deeds_allowed}
use Rattle.theory_promises.proofs.Courses.{deeds_run, acts_free, allowed_left, session_is}
use Rattle.theory_promises.proofs.Bounding.{allocated_count, cycle_short}

abbrev pub Tidy : Heap → Type 0
Tidy h = Orderly h.regs.blocks h.regs.free (view h)

-- blocks above the mark are free
low_weight : (h : Heap) → WellFormed h → allocated h.regs.blocks (view h) ≤ total h.regs.blocks (λ b. one (leb b h.regs.mark))
low_weight h f =
    total_le h.regs.blocks (λ b. stands ((view h).tint b)) (λ b. one (leb b h.regs.mark))
    (λ c l. by_le c h.regs.mark
    (λ i. rw (le-leb c h.regs.mark i) (stands_one ((view h).tint c)))
    (λ i. rw ((wf_sound h f).mark_over c l i) (omega arith)))

pub allocated_low : (h : Heap) → WellFormed h → allocated_blocks h + 1 ≤ h.regs.mark
unfolding total
allocated_low h f =
    let e = count_sum (λ b. leb b h.regs.mark) (λ b. one (leb b h.regs.mark)) h.regs.blocks 2 (λ c l. refl) in
    omega (arith, allocated_count h, low_weight h f, cycle_short.up_to h f)

record Climbs (h k : Heap) : Type 0 where
  tidy : Tidy k
  rises : h.regs.mark ≤ k.regs.mark
  most : k.regs.mark ≤ max h.regs.mark (allocated_blocks k + 1)

deed_climbs : (h : Heap) → WellFormed h → Tidy h → (d : Deed) → Allowed d h → Climbs h (deed d h)
deed_climbs h f o d a =
    let k = deed d h in
    let m = h.regs.blocks in
    let g = deed_run h (wf_shape h f) (wf_sound h f) d a in
    let v = g.linked (wf_sound h f) o in
    let e = deed_formed h f d a in
    let w = subst (λ (n : ℕ). Orderly n k.regs.free (view k)) (sym g.blocks) v.orderly in
    record {
      tidy = w;
      rises = run_mark g.run;
      most =
          ⊎_elim (λ q. omega arith)
          (λ q.
          let s = subst (λ (n : ℕ). Rest n k.regs.free (view k)) (sym g.blocks) q in
          omega (arith, rest_long w (wf_sound k e) s (wf_shape k e).frees.listed, (wf_shape k e).counted, cycle_short.counted k e))
          v.climbed;
    }

pub deeds_tidy : (ds : List Deed) (h : Heap) → WellFormed h → Tidy h → AllAllowed ds h → Tidy (after ds h)
unfolding after
deeds_tidy [] h f o a = o
deeds_tidy (d ∷ ds) h f o a = deeds_tidy ds (deed d h) (deed_formed h f d a.0) (deed_climbs h f o d a.0).tidy a.1

-- the first of the moments
first_peak : (ds : List Deed) (h : Heap) → allocated_blocks h ≤ peak ds h
first_peak [] h = omega arith
first_peak (d ∷ ds) h = omega arith

pub peak_mark : (ds : List Deed) (h : Heap) → WellFormed h → Tidy h → AllAllowed ds h → (after ds h).regs.mark ≡ max h.regs.mark (peak ds h + 1)
unfolding after
peak_mark [] h f o a = omega (arith, allocated_low h f)
peak_mark (d ∷ ds) h f o a =
    let c = deed_climbs h f o d a.0 in
    omega (
      arith,
      allocated_low h f,
      c.rises,
      c.most,
      first_peak ds (deed d h),
      peak_mark ds (deed d h) (deed_formed h f d a.0) c.tidy a.1,
    )

acts_more : (ys : List Act) (h : Heap) → WellFormed h → AllAllowed (map an_act ys) h → allocated_blocks h ≤ allocated_blocks (after (map an_act ys) h)
acts_more ys h f a =
    let v = deeds_run h.regs.blocks (map an_act ys) h refl f a in
    let k = after (map an_act ys) h in
    let e = subst (λ (n : ℕ). allocated n (view k) ≡ allocated_blocks k) v.blocks (allocated_count k) in
    omega (arith, allocated_count h, e, acts_stand v.run (v.units ∙ acts_free ys))

pub acts_peak : (ys : List Act) (h : Heap) → WellFormed h → AllAllowed (map an_act ys) h → peak (map an_act ys) h ≤ allocated_blocks (after (map an_act ys) h)
unfolding after
acts_peak [] h f a = omega arith
acts_peak (y ∷ ys) h f a =
    let g = deed_formed h f (an_act y) a.0 in
    omega (arith, acts_more (y ∷ ys) h f a, acts_peak ys (deed (an_act y) h) g a.1)

pub record Thrifty (m : ℕ) (h k : Heap) : Type 0 where
  pub tidy : Tidy k
  pub most : span (view k) ≤ max (span (view h)) (allocated m (view k))

pub call_thrifty : (m : ℕ) (c : Call) (h : Heap) → h.regs.blocks ≡ m → WellFormed h → (Resets c h → ⊥) → Tidy h → Thrifty m h (does c h).heap
call_thrifty m c h e f r o =
    let a = plan c h in
    let p = known c h f in
    let units = replicate a.units a_unit in
    let acts = map an_act a.acts in
    let w = units_worked m a.units h e f in
    let j = worked c h in
    let k = after acts j in
    let t = deeds_tidy units h f o (allowed_left units acts h (deeds_allowed h f c)) in
    let v = deeds_run m acts j w.blocks w.formed p.allowed in
    let n = subst (λ (i : ℕ). allocated i (view k) ≡ allocated_blocks k) v.blocks (allocated_count k) in
    subst (Thrifty m h) (sym (p.whole r ∙ after_append units acts h))
    (record {
      tidy = deeds_tidy acts j w.formed t p.allowed;
      most = omega (arith, n, work_mark w.run w.only, peak_mark acts j w.formed t p.allowed, acts_peak a.acts j w.formed p.allowed);
    })

pub mark_is_peak : MarkIsPeak
unfolding formatted
mark_is_peak m u some most pace cs n =
    let h = formatted m u in
    let f = fresh_formed m u some most pace in
    let s = session_is cs h f n in
    let t = peak_mark (session_deeds cs h) h f (fresh_orderly m u some most pace) s.1 in
    omega (arith, t, ap (λ (k : Heap). k.regs.mark) s.0)
