-- `part_state::state_from` meets its contract: the colour decides, and for a white block whether the sweep has reached it. Assumes nothing.
use mathlib.Core.Path.{refl}
use Rattle.machine.proofs.Tests.{so}
use Rattle.machine.specs.State.{state_from}
use Rattle.machine.proofs.Refusals.{white_doomed, white_stays}
use Rattle.part_state.proofs.state_from.Goals as goal

pub returns-then-ahead : goal.returns-then-ahead
returns-then-ahead c = λ r p q. rw c.in-White.is (white_doomed r _ (so (c.ahead.ensures r p q) c.if-ahead.true))

pub returns-else-ahead : goal.returns-else-ahead
returns-else-ahead c = λ r p q. rw c.in-White.is (white_stays r _ (so (c.ahead.ensures r p q) c.if-ahead.false))

pub returns-in-Grey : goal.returns-in-Grey
unfolding state_from
returns-in-Grey c = λ r p q. rw c.in-Grey.is refl

pub returns-in-Black : goal.returns-in-Black
unfolding state_from
returns-in-Black c = λ r p q. rw c.in-Black.is refl

pub returns-in-Free : goal.returns-in-Free
unfolding state_from
returns-in-Free c = λ r p q. rw c.in-Free.is refl

pub returns-in-Outside : goal.returns-in-Outside
unfolding state_from
returns-in-Outside c = λ r p q. rw c.in-Outside.is refl
