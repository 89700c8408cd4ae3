-- `part_path::put_path` meets its contract: the path, and zeros behind it. Assumes nothing.
use native.Mathlib.Omega.{arith}
use Rattle.part_path.proofs.Walks.{path_most, put_back}
use Rattle.part_path.proofs.put_path.Goals as goal

pub write-requires : goal.write-requires
write-requires c =
    let most = path_most c.args.came.now _ _ c.pairs-n.ensures in (c.requires.0, c.pairs-n.ensures, omega (arith, c.requires.1))

pub returns : goal.returns
returns c =
    (c.pairs-n.ensures, put_back c.args.came.now _ _ c.args.path.now _ c.pairs-n.ensures c.write.ensures c.write.auto.path (c.fill.ensures.after (λ y e. e)))
