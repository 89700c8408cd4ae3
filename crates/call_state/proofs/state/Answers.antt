-- `call_state::state` meets its contract: refused by 1 or 2, or told. Assumes nothing.
use mathlib.Core.Path.{refl, ap}
use Rattle.machine.specs.Refusal.{refused_by}
use Rattle.machine.proofs.Refusals.{told_refuses, told_so, unrefused}
use Rattle.machine.proofs.Entering.{entry_ready}
use Rattle.machine.proofs.Telling.{tell_refused, tell_told}
use Rattle.call_state.proofs.state.Goals as goal

pub returns-in-Err : goal.returns-in-Err
returns-in-Err c =
    tell_refused _ _ (told_so c.entry.ensures c.into.ensures c.in-Err.is) (told_refuses _ c.into.ensures)
    (rw (c.default.ensures.1.0, c.default.ensures.1.1) refl)

pub state_of-s-requires : goal.state_of-s-requires
state_of-s-requires c =
    let d = entry_ready _ (unrefused c.entry.ensures c.in_default.is) in (d.most, d.colours)

pub returns : goal.returns
returns c =
    tell_told _ _ c.entry.ensures _ _ (ap refused_by c.in_default.is) (c.state_of-s.ensures _ refl refl refl) c.number.ensures
    (rw (c.default-2.ensures.0, c.default-2.ensures.1.1) refl)
