-- Laws of the end of a sweep in a row of units.
--     advance_settles          the machine's advance is one position on, and then the end
--     settled_ends, settled_not     at the end, and before it
--     stepped, goes_on         a position that has gone on by one, and what is known of it where a unit is done
--     stop_short, stop_past    where a row of k units stops: after them, or past the sweep's end
--     stop_within              that is ahead, within the sweep and within the k units
-- Assumes nothing.
use Prim.Native.Nat.{ℕ, ◌+◌, ◌-◌, ◌≤◌, ◌<◌}
use mathlib.Core.Path.{◌≡◌, sym, ap, subst}
use mathlib.Core.Logic.{◌≢◌}
use native.Mathlib.Omega.{arith}
use lib.Dec.{ltb}
use borrow.Author.Tests.{eq-eqb, ne_eqb, ltb-true, ltb-false, lt-ltb, le-ltb}
use Rattle.machine.specs.declared.Regs.{Regs}
use Rattle.machine.specs.declared.Damaged.{Damaged}
use Rattle.std.specs.Prelude.{Result, Ok, if◌then◌else◌}
use Rattle.machine.specs.Registers.{idle, with_phase, with_position, sweep_end}
use Rattle.machine.specs.OneUnit.{advance}
use Rattle.machine.proofs.Tests.{by_eq, if_ind}
use Rattle.part_sweep.specs.Ending.{settled, Onward}

module _ (r : Regs) where
  pub advance_settles : settled (with_position (r.position + 1) r) ≡ advance r
  unfolding advance settled
  advance_settles =
      by_eq r.position (sweep_end r)
      (λ e. simp (eq-eqb r.position (sweep_end r) e, eq-eqb (r.position + 1) (sweep_end r + 1) (omega arith)))
      (λ n. simp (ne_eqb r.position (sweep_end r) n, ne_eqb (r.position + 1) (sweep_end r + 1) (λ e. n (omega arith))))

  pub settled_ends : {x : ℕ} → x ≡ sweep_end r → r.position ≡ x + 1 → with_position 0 (with_phase idle r) ≡ settled r
  unfolding settled
  settled_ends e p = simp (eq-eqb r.position (sweep_end r + 1) (omega arith))

  pub settled_not : r.position ≢ sweep_end r + 1 → r ≡ settled r
  unfolding settled
  settled_not n = simp (ne_eqb r.position (sweep_end r + 1) n)

pub stepped : (r q : Regs) {s : Regs} → s ≡ with_position (q.position + 1) q → q.position ≡ r.position → q.mark ≡ r.mark → q.phase ≡ r.phase
    → Onward r (Ok s)
stepped r q e a b d = rw e (ap (λ (x : ℕ). x + 1) a, b, d)

pub goes_on : (r s : Regs) {p : Result Regs Damaged} → Onward r p → p ≡ Ok s → (s.position ≡ r.position + 1) × (s.mark ≡ r.mark) × (s.phase ≡ r.phase)
goes_on r s o q = subst (Onward r) q o

-- a the position, e the sweep's end, k units
module _ (a e k : ℕ) {x : ℕ} (q : x ≡ e) where
  pub stop_short : k < x + 1 - a → a + k ≡ (if ltb k (e + 1 - a) then a + k else e + 1)
  stop_short l = let h : k < e + 1 - a = omega arith in simp (lt-ltb k (e + 1 - a) h)

  pub stop_past : x + 1 - a ≤ k → x + 1 ≡ (if ltb k (e + 1 - a) then a + k else e + 1)
  stop_past l = let h : e + 1 - a ≤ k = omega arith in simp (le-ltb k (e + 1 - a) h) (ap (λ (y : ℕ). y + 1) q)

pub record Within (a e k p : ℕ) : Type 0 where
  pub ahead : a < p
  pub inside : p ≤ e + 1
  pub few : p ≤ a + k

-- p where they stop
pub stop_within : (a e k : ℕ) {p : ℕ} → a ≤ e → 1 ≤ k → p ≡ (if ltb k (e + 1 - a) then a + k else e + 1) → Within a e k p
stop_within a e k l b q =
    subst (Within a e k) (sym q)
    (if_ind (Within a e k) (ltb k (e + 1 - a))
    (λ t. let h : k < e + 1 - a = ltb-true _ _ t in record { ahead = omega arith; inside = omega arith; few = omega arith })
    (λ t. let h : e + 1 - a ≤ k = ltb-false _ _ t in record { ahead = omega arith; inside = omega arith; few = omega arith }))
