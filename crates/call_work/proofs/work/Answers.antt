-- `call_work::work` meets its contract: a law for each way out. Assumes nothing.
use mathlib.Core.Path.{ap}
use native.Mathlib.Omega.{arith}
use Rattle.machine.specs.Refusal.{refused_by}
use Rattle.machine.proofs.Refusals.{told_refuses, told_so, unrefused}
use Rattle.machine.proofs.Entering.{entry_ready}
use Rattle.machine.proofs.Working.{work_refused, work_over, work_none, work_done}
use Rattle.call_work.proofs.work.Goals as goal

pub returns-in-Err : goal.returns-in-Err
returns-in-Err c =
    work_refused _ _ (told_so c.entry.ensures c.into.ensures c.in-Err.is) (told_refuses _ c.into.ensures) (c.refused.ensures _ _ _)

pub returns-then-n-gt-MOST_UNITS : goal.returns-then-n-gt-MOST_UNITS
returns-then-n-gt-MOST_UNITS c =
    work_over _ _ c.entry.ensures (ap refused_by c.in_default.is) c.if-n-gt-MOST_UNITS.true
    (rw c.into-then-n-gt-MOST_UNITS.ensures at (c.refused-then-n-gt-MOST_UNITS.ensures c.args.words.now c.args.colours.now c.args.bytes.now))

pub returns-then-n-eq0 : goal.returns-then-n-eq0
returns-then-n-eq0 c = work_none _ _ c.entry.ensures (ap refused_by c.in_default.is) (omega arith) (c.done.ensures _ _ _)

pub run-ran-requires : goal.run-ran-requires
run-ran-requires c = entry_ready _ (unrefused c.entry.ensures c.in_default.is)

pub returns : goal.returns
returns c =
    work_done _ _ c.entry.ensures (ap refused_by c.in_default.is) c.if-n-gt-MOST_UNITS.false c.run-ran.ensures
    (rw c.number_of.ensures at (c.answered.ensures c.run-ran.new.words c.run-ran.new.colours c.run-ran.new.bytes))
