-- `call_read::look` meets its contract: a law of the definition for each way out. Assumes nothing.
use mathlib.Core.Path.{ap}
use native.Mathlib.Omega.{arith}
use Rattle.machine.specs.Refusal.{refused_by}
use Rattle.machine.proofs.Refusals.{refuses, refused_so, unrefused, readable}
use Rattle.machine.proofs.Reading.{part_within, look_refused, look_seen}
use Rattle.call_read.proofs.look.Goals as goal

pub returns-in_default : goal.returns-in_default
returns-in_default c = look_refused _ _ _ _ (refused_so c.read_refusal.ensures c.in_default.is) (refuses _)

pub overflow_sub-at : goal.overflow_sub-at
overflow_sub-at c = (readable _ _ _ (unrefused c.read_refusal.ensures c.in-Ok.is)).block.low

pub slice_bounds-result-end-2 : goal.slice_bounds-result-end-2
slice_bounds-result-end-2 c = omega (arith, part_within (readable _ _ _ (unrefused c.read_refusal.ensures c.in-Ok.is)))

pub returns : goal.returns
returns c = look_seen _ _ _ _ c.read_refusal.ensures (ap refused_by c.in-Ok.is)
