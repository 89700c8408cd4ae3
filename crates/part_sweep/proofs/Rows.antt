-- A row of units that sweep, as the loop does it: the units done are as many as the position has gone on.
--     Swept n last h r s ws cs bs     of n units from h, whose registers are r, the row has come to s; it stops at last
--     swept_first              before the first unit
--     here_ready               before its stop the row is at a block, and tests 1 and 2 pass
--     swept_on, swept_off      a unit more, done or damaged
--     swept_end                behind the last unit
--     units_within             the units done are at most n
--     stop_nearer              a unit done brings the stop nearer
-- The run is what is left of it, from the registers with the sweep's end settled; before the stop there is nothing to settle.
-- Assumes nothing.
use Prim.Native.Nat.{ℕ, suc, ◌+◌, ◌-◌, ◌≤◌, ◌<◌}
use mathlib.Core.Path.{◌≡◌, refl, sym, ◌∙◌, ap, subst}
use mathlib.Core.Logic.{◌≢◌}
use mathlib.Core.List.{List}
use native.Mathlib.Omega.{arith}
use Rattle.machine.specs.declared.Regs.{Regs}
use Rattle.std.specs.Prelude.{Result, Ok, Err}
use Rattle.machine.specs.declared.Damaged.{Damaged}
use Rattle.machine.specs.Registers.{sweeping, sweep_end}
use Rattle.machine.specs.Heap.{Heap, heap}
use Rattle.machine.specs.Ready.{Ready}
use Rattle.machine.specs.OneUnit.{unit, ended}
use Rattle.machine.specs.Units.{run}
use Rattle.machine.proofs.Kept.{done_kept}
use Rattle.part_step.specs.Going.{Went}
use Rattle.part_step.proofs.Going.{went, went_on, loop_on, loop_off}
use Rattle.part_sweep.specs.Ending.{settled, settling, Onward}
use Rattle.part_sweep.proofs.Ending.{Within, settled_not, goes_on}

pub record Swept (n last : ℕ) (h : Heap) (r s : Regs) (ws cs bs : List ℕ) : Type 0 where
  pub from : r.position ≤ s.position
  pub to : s.position ≤ last
  pub stops : Within r.position (sweep_end r) n last
  pub mark : s.mark ≡ r.mark
  pub phase : s.phase ≡ sweeping
  pub ready : Ready (heap (settled s) ws cs bs)
  pub whole : (i : ℕ) → run n i h ≡ run (n - (s.position - r.position)) (i + (s.position - r.position)) (heap (settled s) ws cs bs)

-- the numbers of a row: nothing done, and one more unit done
none_less : (x a : ℕ) → x ≡ x - (a - a)
none_less x a = omega arith

none_more : (x a : ℕ) → x ≡ x + (a - a)
none_more x a = omega arith

one_less : (x a b c : ℕ) → b ≤ a → c ≡ a + 1 → x - (a - b) ≢ 0 → x - (a - b) ≡ suc (x - (c - b))
one_less x a b c l e n = omega arith

one_more : (a b c : ℕ) → b ≤ a → c ≡ a + 1 → c - b ≡ a - b + 1
one_more a b c l e = omega arith

pub swept_first : (n last : ℕ) (r : Regs) (ws cs bs : List ℕ) → Ready (heap r ws cs bs) → r.phase ≡ sweeping → Within r.position (sweep_end r) n last
    → Swept n last (heap r ws cs bs) r r ws cs bs
swept_first n last r ws cs bs d s w =
    let p = d.placed s in
    let e : r ≡ settled r = settled_not r (λ z. absurd (omega arith)) in
    let a = w.ahead in
    record {
      from = omega arith;
      to = omega arith;
      stops = w;
      mark = refl;
      phase = s;
      ready = subst (λ (x : Regs). Ready (heap x ws cs bs)) e d;
      whole = λ i.
          ap (λ (x : Regs). run n i (heap x ws cs bs)) e
          ∙ ap (λ (x : ℕ). run x i (heap (settled r) ws cs bs)) (none_less n r.position)
          ∙ ap (λ (x : ℕ). run (n - (r.position - r.position)) x (heap (settled r) ws cs bs)) (none_more i r.position);
    }

module _ (n last : ℕ) (h : Heap) (r s : Regs) (ws cs bs : List ℕ) (d : Swept n last h r s ws cs bs) where
  pub units_within : s.position - r.position ≤ n
  units_within =
      let w = d.stops in
      let f = w.few in
      let t = d.to in
      omega arith

  -- behind the last unit
  pub swept_end : s.position ≡ last → {x : Regs} → x ≡ settled s → Went n h (went x (s.position - r.position) (Ok tt)) ws cs bs
  swept_end e q =
      let w = d.stops in
      let a = w.ahead in
      rw q (went_on h n ws cs bs (settled s) _ (s.position - r.position) (omega arith) units_within refl d.ready d.whole)

  module _ (o : s.position ≢ last) where
    -- before the stop there is nothing to settle
    pub same : s ≡ settled s
    same =
        let w = d.stops in
        let t = d.to in
        let e = w.inside in
        let b = d.mark in
        settled_not s (λ z. o (omega arith))

    pub here_ready : Ready (heap s ws cs bs)
    here_ready = subst (λ (x : Regs). Ready (heap x ws cs bs)) (sym same) d.ready

    here_whole : (i : ℕ) → run n i h ≡ run (n - (s.position - r.position)) (i + (s.position - r.position)) (heap s ws cs bs)
    here_whole i =
        d.whole i ∙ ap (λ (x : Regs). run (n - (s.position - r.position)) (i + (s.position - r.position)) (heap x ws cs bs)) (sym same)

    -- units are left: the stop is within them
    more : n - (s.position - r.position) ≢ 0
    more z =
        let w = d.stops in
        let a = w.ahead in
        let f = w.few in
        let t = d.to in
        let g = d.from in
        o (omega arith)

    module _ (ws' cs' bs' : List ℕ) {p : Result Regs Damaged} (u : ended s (settling p) ws' cs' bs' ≡ unit (heap s ws cs bs)) where
      pub swept_off : {e : Damaged} → p ≡ Err e → Went n h (went s (s.position - r.position) (Err e)) ws' cs' bs'
      swept_off q =
          let m = more in
          loop_off h n s ws cs bs _ _ here_whole ws' cs' bs' u (ap settling q) (n - (s.position - r.position) - 1) (omega arith) units_within

      pub swept_on : Onward s p → (t : Regs) → p ≡ Ok t → Swept n last h r t ws' cs' bs'
      swept_on g t q =
          let k = goes_on s t g q in
          let a = k.0 in
          let m = more in
          let f = d.from in
          let x = d.to in
          record {
            from = omega arith;
            to = omega (arith, o);
            stops = d.stops;
            mark = k.1 ∙ d.mark;
            phase = k.2 ∙ d.phase;
            ready = done_kept (heap s ws cs bs) here_ready s (settled t) ws' cs' bs' (settling p) u (ap settling q);
            whole = loop_on h n s ws cs bs _ _ here_whole ws' cs' bs' u (settled t) (ap settling q) _ _
                (one_less n s.position r.position t.position f a m) (one_more s.position r.position t.position f a);
          }

    pub stop_nearer : {p : Result Regs Damaged} → Onward s p → (t : Regs) → p ≡ Ok t → last - t.position < last - s.position
    stop_nearer g t q =
        let a = (goes_on s t g q).0 in
        let x = d.to in
        let y : s.position ≢ last = o in
        omega arith
