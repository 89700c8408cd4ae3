-- `call_allocate::allocate_after` meets its contract: a law for each way out. Assumes nothing.
use Rattle.machine.proofs.Allocating.{list_zero, take_zero, after_refused, after_done}
use mathlib.Core.Path.{sym, ◌∙◌, ap}
use native.Mathlib.Omega.{arith}
use Rattle.machine.specs.Refusal.{refused_by}
use Rattle.machine.proofs.Refusals.{told_refuses, told_so, unrefused}
use Rattle.machine.proofs.Blocks.{block_as}
use Rattle.machine.specs.Allocate.{held}
use Rattle.call_allocate.proofs.allocate_after.Goals as goal

pub take_refusal-requires : goal.take_refusal-requires
take_refusal-requires c = (c.requires.0.most, c.requires.0.words, c.requires.0.colours, c.requires.0.free, λ n. (c.requires.1 n).0)

pub returns-in-Err : goal.returns-in-Err
returns-in-Err c =
    after_refused _ _ _ _ (told_so (c.take_refusal.ensures _) c.into.ensures c.in-Err.is) (told_refuses _ c.into.ensures) (c.answered.ensures _ _ _)

pub take-s-requires : goal.take-s-requires
take-s-requires c =
    let z = list_zero _ (take_zero _ _ (unrefused (c.take_refusal.ensures c.args.bytes.now) c.in_default.is)) in (c.requires.0.words, c.requires.0.colours, c.requires.0.free z.0, let n = z.1 in omega arith)

pub hold-t-requires : goal.hold-t-requires
hold-t-requires c =
    (let k = c.take-s.auto.words in let a = c.requires.0.words in let d = c.requires.0.bytes in omega arith, λ n. (block_as c.requires.0.bytes (c.requires.1 n).0, (c.requires.1 n).1))

pub returns : goal.returns
returns c =
    after_done _ _ _ _ (c.take_refusal.ensures _) (ap refused_by c.in_default.is) (c.hold-t.ensures _ ∙ ap (held _ _ _) (c.take-s.ensures _)) (c.answered-2.ensures _ _ _)
