-- Laws of the sweep's steps, and of the steps that begin and end marking.
--     begin_empty, begin_root       the two ways of a cycle's beginning
--     turn_skips, turn_sweeps       the two ways of marking's end
--     advance_end, advance_on       the two ways of the position
--     reclaim_full, reclaim_done    the two ways of freeing
-- Assumes nothing.
use Prim.Native.Nat.{ℕ, ◌+◌}
use mathlib.Core.Path.{◌≡◌, refl, sym, ◌∙◌}
use mathlib.Core.Logic.{◌≢◌}
use mathlib.Core.List.{List}
use borrow.Author.Tests.{eq-eqb, ne_eqb}
use Rattle.machine.specs.declared.Regs.{Regs}
use Rattle.machine.specs.declared.Colour.TheVariants.{White, Free}
use Rattle.machine.specs.declared.Step.TheVariants.{Reclaim}
use Rattle.std.specs.Prelude.{Ok, Err}
use Rattle.machine.specs.declared.Damaged.{Damaged}
use Rattle.machine.specs.Registers.{idle, marking, sweeping, with_phase, with_grey, with_free, with_count, with_position, with_cycle, next_cycle, sweep_end}
use Rattle.machine.specs.Block.{with_eight, free_words, clear_byte}
use Rattle.machine.specs.Colouring.{Colouring, coloured, painted, to_grey}
use Rattle.machine.specs.Heap.{heap}
use Rattle.machine.specs.OneUnit.{begun, turned_regs, turned, advance, reclaimed, whitened, act, ended}

module _ (r : Regs) (ws cs bs : List ℕ) where
  pub begin_empty : {n : ℕ} → n ≡ next_cycle r.cycle → r.root ≡ 0 → heap (with_phase marking (with_cycle n r)) ws cs bs ≡ begun (heap r ws cs bs)
  unfolding begun
  begin_empty e z = rw e (simp (eq-eqb r.root 0 z))

  pub begin_root : {n : ℕ} {k : Colouring} → n ≡ next_cycle r.cycle → r.root ≢ 0 → k ≡ to_grey r.root (coloured r.blocks r.grey cs)
      → heap (with_grey k.head (with_phase marking (with_cycle n r))) ws k.cells bs ≡ begun (heap r ws cs bs)
  unfolding begun
  begin_root e z g = rw (e, g) (simp (ne_eqb r.root 0 z))

  pub turn_skips : {n : ℕ} → n ≡ sweep_end r → n ≡ 1 → heap (with_position 0 (with_phase idle r)) ws cs bs ≡ turned (heap r ws cs bs)
  unfolding turned turned_regs
  turn_skips e z = simp (eq-eqb (sweep_end r) 1 (sym e ∙ z))

  pub turn_sweeps : {n : ℕ} → n ≡ sweep_end r → n ≢ 1 → heap (with_position 2 (with_phase sweeping r)) ws cs bs ≡ turned (heap r ws cs bs)
  unfolding turned turned_regs
  turn_sweeps e z = simp (ne_eqb (sweep_end r) 1 (λ q. z (e ∙ q)))

  pub reclaim_full : (d : Damaged) → r.count ≡ r.blocks → ended r (Err d) ws cs bs ≡ act Reclaim (heap r ws cs bs)
  unfolding act ended
  reclaim_full d e = simp (eq-eqb r.count r.blocks e)

  pub reclaim_done : {s : Regs} {ws' cs' bs' : List ℕ} → r.count ≢ r.blocks → ws' ≡ with_eight ws r.position (free_words r.free)
      → cs' ≡ (painted r.position Free (coloured r.blocks r.grey cs)).cells → bs' ≡ clear_byte bs r.position
      → s ≡ advance (with_count (r.count + 1) (with_free r.position r)) → ended r (Ok s) ws' cs' bs' ≡ act Reclaim (heap r ws cs bs)
  unfolding act ended reclaimed
  reclaim_done n a b d e = rw (a, b, d, e) (simp (ne_eqb r.count r.blocks n))

  pub whiten_done : {s : Regs} {cs' : List ℕ} → cs' ≡ (painted r.position White (coloured r.blocks r.grey cs)).cells → s ≡ advance r → heap s ws cs' bs ≡ whitened (heap r ws cs bs)
  unfolding whitened
  whiten_done a e = rw (a, e) refl

module _ (r : Regs) where
  pub advance_end : {n : ℕ} → n ≡ sweep_end r → r.position ≡ n → with_position 0 (with_phase idle r) ≡ advance r
  unfolding advance
  advance_end e p = simp (eq-eqb r.position (sweep_end r) (p ∙ e))

  pub advance_on : {n : ℕ} → n ≡ sweep_end r → r.position ≢ n → with_position (r.position + 1) r ≡ advance r
  unfolding advance
  advance_on e p = simp (ne_eqb r.position (sweep_end r) (λ q. p (q ∙ sym e)))
