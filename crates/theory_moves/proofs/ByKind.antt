-- Splits on the kind of a move, and what follows from it.
--     begins?, marks?      case splits: a move is a beginning or is none, is a mark or is none
--     unit_none            a unit takes nothing and names nothing
--     kind_cost, cost_one       a beginning, a mark and an end are units, and no unit is two of them; a move is one unit at most
--     ended_idle           after the move that ends a cycle the collector is idle
--     idle_ended, ended_here    no cycle ends when idle; a move from another phase to idle ends one
--     stays_idle, idle_cost     a move that is no beginning leaves an idle collector idle, and is no unit then
--     turning_off, no_marking   after a turn, after a sweep move, the collector doesn't mark
--     was_marking          a move that is no beginning leads to marking only from marking
--     mark_rises, unit_mark     no move lowers the mark, and no unit raises it
-- Assumes nothing.
use Prim.Native.Nat.{ℕ, ◌+◌, ◌≤◌}
use mathlib.Core.Path.{◌≡◌, refl, sym, ◌∙◌}
use mathlib.Core.Logic.{◌≢◌}
use native.Mathlib.Omega.{arith}
use lib.ListN.{length}
use Rattle.theory_reach.proofs.Splits.{never}
use Rattle.theory_moves.specs.Heaps.{Abs, idle, marking}
use Rattle.theory_moves.specs.Moves.{Turning, entering, skipping, Onward, going, ending, Begin, Mark}
use Rattle.theory_moves.specs.Moves.{Move, begin, mark, turn, sweep, write_number, write_ref, set_root, take_held, take_root}
use Rattle.theory_moves.specs.Kinds.{cost, marked, begun, skipping?, ending?, ended, taking, target}

-- a move is a beginning or is none
pub begins? : {A : Type 0} {M : ℕ} {h k : Abs} (m : Move M h k) → (Begin M h k → A) → (begun m ≡ 0 → A) → A
begins? (begin m) y n = y m
begins? (mark b m) y n = n refl
begins? (turn m) y n = n refl
begins? (sweep m) y n = n refl
begins? (write_number b w v m) y n = n refl
begins? (write_ref b w t m) y n = n refl
begins? (set_root t m) y n = n refl
begins? (take_held x b w m) y n = n refl
begins? (take_root x m) y n = n refl

-- a move is a mark or is none
pub marks? : {A : Type 0} {M : ℕ} {h k : Abs} (m : Move M h k) → ((b : ℕ) → Mark M b h k → A) → (marked m ≡ 0 → A) → A
marks? (begin m) y n = n refl
marks? (mark b m) y n = y b m
marks? (turn m) y n = n refl
marks? (sweep m) y n = n refl
marks? (write_number b w v m) y n = n refl
marks? (write_ref b w t m) y n = n refl
marks? (set_root t m) y n = n refl
marks? (take_held x b w m) y n = n refl
marks? (take_root x m) y n = n refl

pub unit_none : {M : ℕ} {h k : Abs} (m : Move M h k) → cost m ≡ 1 → (target m ≡ 0) × (length (taking m) ≡ 0)
unit_none (begin m) e = (refl, refl)
unit_none (mark b m) e = (refl, refl)
unit_none (turn m) e = (refl, refl)
unit_none (sweep m) e = (refl, refl)
unit_none (write_number b w v m) e = never e
unit_none (write_ref b w t m) e = never e
unit_none (set_root t m) e = never e
unit_none (take_held x b w m) e = never e
unit_none (take_root x m) e = never e

skipping_idle : {h k : Abs} (t : Turning h k) → skipping? t ≢ 0 → k.phase ≡ idle
skipping_idle (entering n p e) z = absurd (z refl)
skipping_idle (skipping e p) z = p

ending_idle : {h k : Abs} {n : ℕ} (o : Onward h k n) → ending? o ≢ 0 → k.phase ≡ idle
ending_idle (going n p e) z = absurd (z refl)
ending_idle (ending e p) z = p

pub ended_idle : {M : ℕ} {h k : Abs} (m : Move M h k) → ended m ≢ 0 → k.phase ≡ idle
ended_idle (begin m) z = absurd (z refl)
ended_idle (mark b m) z = absurd (z refl)
ended_idle (turn m) z = skipping_idle m.turning z
ended_idle (sweep m) z = ending_idle m.onward z
ended_idle (write_number b w v m) z = absurd (z refl)
ended_idle (write_ref b w t m) z = absurd (z refl)
ended_idle (set_root t m) z = absurd (z refl)
ended_idle (take_held x b w m) z = absurd (z refl)
ended_idle (take_root x m) z = absurd (z refl)

skipping_one : {h k : Abs} (t : Turning h k) → skipping? t ≤ 1
skipping_one (entering n p e) = omega arith
skipping_one (skipping e p) = omega arith

ending_one : {h k : Abs} {n : ℕ} (o : Onward h k n) → ending? o ≤ 1
ending_one (going n p e) = omega arith
ending_one (ending e p) = omega arith

pub kind_cost : {M : ℕ} {h k : Abs} (m : Move M h k) → begun m + marked m + ended m ≤ cost m
kind_cost (begin m) = omega arith
kind_cost (mark b m) = omega arith
kind_cost (turn m) = omega (arith, skipping_one m.turning)
kind_cost (sweep m) = omega (arith, ending_one m.onward)
kind_cost (write_number b w v m) = omega arith
kind_cost (write_ref b w t m) = omega arith
kind_cost (set_root t m) = omega arith
kind_cost (take_held x b w m) = omega arith
kind_cost (take_root x m) = omega arith

pub cost_one : {M : ℕ} {h k : Abs} (m : Move M h k) → cost m ≤ 1
cost_one (begin m) = omega arith
cost_one (mark b m) = omega arith
cost_one (turn m) = omega arith
cost_one (sweep m) = omega arith
cost_one (write_number b w v m) = omega arith
cost_one (write_ref b w t m) = omega arith
cost_one (set_root t m) = omega arith
cost_one (take_held x b w m) = omega arith
cost_one (take_root x m) = omega arith

-- no cycle ends when idle
pub idle_ended : {M : ℕ} {h k : Abs} → h.phase ≡ idle → (m : Move M h k) → ended m ≡ 0
idle_ended i (begin m) = refl
idle_ended i (mark b m) = refl
idle_ended i (turn m) = absurd (omega (arith, m.before))
idle_ended i (sweep m) = absurd (omega (arith, m.before))
idle_ended i (write_number b w v m) = refl
idle_ended i (write_ref b w t m) = refl
idle_ended i (set_root t m) = refl
idle_ended i (take_held x b w m) = refl
idle_ended i (take_root x m) = refl

skipping_here : {h k : Abs} (t : Turning h k) → k.phase ≡ idle → skipping? t ≡ 1
skipping_here (entering n p e) z = absurd (omega arith)
skipping_here (skipping e p) z = refl

ending_here : {h k : Abs} {n : ℕ} (o : Onward h k n) → k.phase ≡ idle → ending? o ≡ 1
ending_here (going n p e) z = absurd (omega arith)
ending_here (ending e p) z = refl

pub ended_here : {M : ℕ} {h k : Abs} → h.phase ≢ idle → k.phase ≡ idle → (m : Move M h k) → ended m ≡ 1
ended_here n i (begin m) = absurd (n m.before)
ended_here n i (mark b m) = absurd (omega (arith, m.after))
ended_here n i (turn m) = skipping_here m.turning i
ended_here n i (sweep m) = ending_here m.onward i
ended_here n i (write_number b w v m) = absurd (n (sym m.steady.phase ∙ i))
ended_here n i (write_ref b w t m) = absurd (n (sym m.steady.phase ∙ i))
ended_here n i (set_root t m) = absurd (n (sym m.steady.phase ∙ i))
ended_here n i (take_held x b w m) = absurd (n (sym m.steady.phase ∙ i))
ended_here n i (take_root x m) = absurd (n (sym m.steady.phase ∙ i))

-- a move that is no beginning leaves an idle collector idle
pub stays_idle : {M : ℕ} {h k : Abs} → h.phase ≡ idle → (m : Move M h k) → begun m ≡ 0 → k.phase ≡ idle
stays_idle i (begin m) e = never (sym e)
stays_idle i (mark b m) e = absurd (omega (arith, m.before))
stays_idle i (turn m) e = absurd (omega (arith, m.before))
stays_idle i (sweep m) e = absurd (omega (arith, m.before))
stays_idle i (write_number b w v m) e = m.steady.phase ∙ i
stays_idle i (write_ref b w t m) e = m.steady.phase ∙ i
stays_idle i (set_root t m) e = m.steady.phase ∙ i
stays_idle i (take_held x b w m) e = m.steady.phase ∙ i
stays_idle i (take_root x m) e = m.steady.phase ∙ i

pub idle_cost : {M : ℕ} {h k : Abs} → h.phase ≡ idle → (m : Move M h k) → begun m ≡ 0 → cost m ≡ 0
idle_cost i (begin m) e = never (sym e)
idle_cost i (mark b m) e = absurd (omega (arith, m.before))
idle_cost i (turn m) e = absurd (omega (arith, m.before))
idle_cost i (sweep m) e = absurd (omega (arith, m.before))
idle_cost i (write_number b w v m) e = refl
idle_cost i (write_ref b w t m) e = refl
idle_cost i (set_root t m) e = refl
idle_cost i (take_held x b w m) e = refl
idle_cost i (take_root x m) e = refl

pub turning_off : {h k : Abs} → Turning h k → k.phase ≢ marking
turning_off (entering n p e) z = absurd (omega arith)
turning_off (skipping e p) z = absurd (omega arith)

pub no_marking : {h k : Abs} {n : ℕ} → Onward h k n → k.phase ≢ marking
no_marking (going n p e) z = absurd (omega arith)
no_marking (ending e p) z = absurd (omega arith)

pub was_marking : {M : ℕ} {h k : Abs} (m : Move M h k) → begun m ≡ 0 → k.phase ≡ marking → h.phase ≡ marking
was_marking (begin m) e p = never (sym e)
was_marking (mark b m) e p = m.before
was_marking (turn m) e p = m.before
was_marking (sweep m) e p = absurd (no_marking m.onward p)
was_marking (write_number b w v m) e p = sym m.steady.phase ∙ p
was_marking (write_ref b w t m) e p = sym m.steady.phase ∙ p
was_marking (set_root t m) e p = sym m.steady.phase ∙ p
was_marking (take_held x b w m) e p = sym m.steady.phase ∙ p
was_marking (take_root x m) e p = sym m.steady.phase ∙ p

pub mark_rises : {M : ℕ} {h k : Abs} → Move M h k → h.mark ≤ k.mark
mark_rises (begin m) = omega (arith, m.mark)
mark_rises (mark b m) = omega (arith, m.mark)
mark_rises (turn m) = omega (arith, m.mark)
mark_rises (sweep m) = omega (arith, m.mark)
mark_rises (write_number b w v m) = omega (arith, m.mark)
mark_rises (write_ref b w t m) = omega (arith, m.mark)
mark_rises (set_root t m) = omega (arith, m.mark)
mark_rises (take_held x b w m) = omega (arith, m.taken.mark)
mark_rises (take_root x m) = omega (arith, m.taken.mark)

pub unit_mark : {M : ℕ} {h k : Abs} (m : Move M h k) → cost m ≡ 1 → k.mark ≡ h.mark
unit_mark (begin m) e = m.mark
unit_mark (mark b m) e = m.mark
unit_mark (turn m) e = m.mark
unit_mark (sweep m) e = m.mark
unit_mark (write_number b w v m) e = never e
unit_mark (write_ref b w t m) e = never e
unit_mark (set_root t m) e = never e
unit_mark (take_held x b w m) e = never e
unit_mark (take_root x m) e = never e
