-- `call_why::long_enough` meets its contract: the tests one after another. Assumes nothing.
use Prim.Native.Nat.{◌*◌}
use native.Mathlib.Omega.{arith}
use borrow.Author.Tests.{le-leb, lt-leb}
use Rattle.call_why.proofs.long_enough.Goals as goal

pub returns-then-n-queue : goal.returns-then-n-queue
returns-then-n-queue c = simp (le-leb _ _ c.if-n-path.true, le-leb _ _ c.if-n-queue.true)

pub returns-else-n-queue : goal.returns-else-n-queue
returns-else-n-queue c = simp (le-leb _ _ c.if-n-path.true, lt-leb c.args.m c.args.queue (omega arith))

pub returns-else-n-path : goal.returns-else-n-path
returns-else-n-path c = simp (lt-leb (2 * c.args.m) c.args.path (omega arith))
