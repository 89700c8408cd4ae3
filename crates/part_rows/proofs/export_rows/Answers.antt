-- `part_rows::export_rows` meets its contract: the whole export is what remains of it. Assumes nothing.
use Rattle.std.proofs.Common.{Err, rules}
use mathlib.Core.Path.{◌≡◌}
use native.Mathlib.Omega.{arith}
use Rattle.part_rows.specs.Rows.{after}
use Rattle.part_rows.proofs.Going.{going_starts, going_ends, going_circle, going_full, going_halts, going_on, Turned, turned_ok, turned_err}
use Rattle.part_rows.proofs.export_rows.Goals as goal

pub loop-b-init : goal.loop-b-init
loop-b-init g c = going_starts

pub returns-then-n-most : goal.returns-then-n-most
returns-then-n-most g c = rw c.after.ensures (going_circle c.loop-b.invariant c.most-most.ensures c.loop-b-test.true c.if-n-most.true)

pub returns-then-out-at : goal.returns-then-out-at
returns-then-out-at g c =
    rw c.after-then-out-at.ensures (going_full c.loop-b.invariant c.most-most.ensures c.loop-b-test.true c.if-n-most.false c.width-width.ensures c.if-out-at.true)

pub returns-in_err-next : goal.returns-in_err-next
returns-in_err-next g c =
    let t : Turned (after c.loop-b.n) c.follow.result c.map_err.result = search rules in
    let e : c.from_residual.result ≡ Err c.in_err-next.field-0.0 = search rules in
    let d = turned_err (after c.loop-b.n) _ _ t c.in_err-next.was in
    rw (e, d.is)
    (going_halts c.loop-b.invariant c.most-most.ensures c.loop-b-test.true c.if-n-most.false c.width-width.ensures c.if-out-at.false c.follow.ensures {r = d.error} d.was)

pub loop-b-preserved : goal.loop-b-preserved
loop-b-preserved g c =
    let t : Turned (after c.loop-b.n) c.follow.result c.map_err.result = search rules in
    let on = turned_ok (after c.loop-b.n) _ _ t c.in_ok-next.was in
    going_on c.loop-b.invariant c.most-most.ensures c.loop-b-test.true c.if-n-most.false c.width-width.ensures c.if-out-at.false c.follow.ensures on c.write.ensures (omega arith)

pub returns : goal.returns
returns g c = going_ends c.loop-b.invariant c.loop-b-test.false
