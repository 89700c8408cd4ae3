-- `part_audit::lists::count` meets its contract: the blocks passed are counted, and the count of the others is still to come. Assumes nothing.
use native.Mathlib.Omega.{arith}
use Rattle.machine.proofs.Audits.{count_on, count_end, one_most}
use Rattle.part_audit.proofs.Hues.{byte_as}
use Rattle.part_audit.proofs.lists.count.Goals as goal

pub loop-b-preserved : goal.loop-b-preserved
loop-b-preserved g c =
    let x = byte_as c.has_colour.result c.from-n.ensures in
    let k = one_most _ c.has_colour.result x in
    (omega arith, c.loop-b.invariant.1, count_on _ _ _ _ _ c.loop-b.invariant.2 _ _ c.has_colour.result (omega arith) c.has_colour.ensures x)

pub returns : goal.returns
returns g c = count_end _ _ _ _ _ c.loop-b.invariant.2 (omega arith)
