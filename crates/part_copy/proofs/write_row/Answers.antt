-- `part_copy::write_row` meets its contract: the whole row is what is copied and the words of the rest of the chain. Assumes nothing.
use Prim.Native.Nat.{◌+◌, ◌-◌, ◌*◌, ◌/◌}
use mathlib.Core.Path.{◌≡◌, refl}
use native.Mathlib.Omega.{arith}
use lib.ListN.{length}
use Rattle.part_copy.proofs.Copies.{block_back, chained_first, chained_next, fields_on, fields_end, fields_start}
use Rattle.part_copy.proofs.write_row.Goals as goal

pub loop-i-init : goal.loop-i-init
loop-i-init c = fields_start c.args.row.now _ c.requires.1

pub loop-i-preserved : goal.loop-i-preserved
loop-i-preserved c =
    let links = (length c.args.row.now - 1) / 7 in
    let i = c.loop-i.i in
    let d = chained_first c.loop-i.invariant.0 in
    let e : links - i ≡ links - (i + 1) + 1 = omega arith in
    let w = block_back _ c.loop-i.row c.loop-i.at (7 * i) 7 d (omega arith) (7 * i + 7) refl c.copy_from_slice.ensures.after in
    (chained_next _ _ _ _ e c.loop-i.invariant.0, fields_on _ _ _ _ e _ (7 * i) (7 * (i + 1)) (omega arith) c.loop-i.row _ _ w d (omega arith) c.loop-i.invariant.1)

pub returns : goal.returns
returns c =
    let d = chained_first c.loop-i.invariant.0 in
    let links = (length c.args.row.now - 1) / 7 in
    let w = block_back _ c.loop-i.row c.loop-i.at (7 * links) (length c.loop-i.row - 7 * links) d (omega arith) (length c.loop-i.row) (omega arith) c.copy.ensures in
    let e : c.loop-i.i ≡ links = omega arith in
    let z : links - links ≡ 0 = omega arith in
    fields_end _ _ _ _ (7 * links) c.loop-i.row _ _ z d c.loop-i.auto.row (omega arith) (omega arith) w (rw e at c.loop-i.invariant.1)
