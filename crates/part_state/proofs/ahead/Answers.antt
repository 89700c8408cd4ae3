-- `part_state::ahead` meets its contract. Assumes nothing.
use borrow.Author.Tests.{eq-eqb, ne_eqb}
use Rattle.machine.specs.State.{ahead}
use Rattle.part_state.proofs.ahead.Goals as goal

pub returns-then-phase-eq-SWEEPING : goal.returns-then-phase-eq-SWEEPING
unfolding ahead
returns-then-phase-eq-SWEEPING c = λ r p q. rw (p, q) (simp (eq-eqb _ _ c.if-phase-eq-SWEEPING.true))

pub returns-else-phase-eq-SWEEPING : goal.returns-else-phase-eq-SWEEPING
unfolding ahead
returns-else-phase-eq-SWEEPING c = λ r p q. rw (p, q) (simp (ne_eqb _ _ c.if-phase-eq-SWEEPING.false))
