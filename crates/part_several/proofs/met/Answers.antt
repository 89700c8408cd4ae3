-- `part_several::met` meets its contract: the blocks passed are not x, and the search among the others is still to come.
-- Assumes nothing.
use borrow.Author.Rules.{rules}
use native.Mathlib.Omega.{arith}
use Prim.Native.Nat.{◌+◌, ◌-◌}
use mathlib.Core.Path.{◌≡◌, refl}
use Rattle.part_several.proofs.Walks.{within_step, met_on, met_found, met_end}
use Rattle.part_several.proofs.met.Goals as goal

pub loop-init : goal.loop-init
loop-init c =
    let all : c.args.n - 0 ≡ c.args.n = omega arith in (omega arith, rw all c.requires, λ r cs bs. rw all refl)

pub returns-then-a-x : goal.returns-then-a-x
returns-then-a-x c =
    λ r cs bs. met_found _ _ _ _ _ (c.loop.invariant.2 r cs bs) (c.args.n - (c.loop.counter + 1)) (omega arith) c.if-a-x.true

pub overflow_cast-a : goal.overflow_cast-a
overflow_cast-a c =
    let k = within_step _ _ _ (c.args.n - (c.loop.counter + 1)) (omega arith) c.loop.invariant.1 in search rules

pub overflow_sub-a : goal.overflow_sub-a
overflow_sub-a c =
    let k = within_step _ _ _ (c.args.n - (c.loop.counter + 1)) (omega arith) c.loop.invariant.1 in search rules

pub overflow_mul-a : goal.overflow_mul-a
overflow_mul-a c =
    let k = within_step _ _ _ (c.args.n - (c.loop.counter + 1)) (omega arith) c.loop.invariant.1 in search rules

pub offset_bounds-words-a : goal.offset_bounds-words-a
offset_bounds-words-a c =
    let k = within_step _ _ _ (c.args.n - (c.loop.counter + 1)) (omega arith) c.loop.invariant.1 in search rules

pub bounds-words-a : goal.bounds-words-a
bounds-words-a c =
    let k = within_step _ _ _ (c.args.n - (c.loop.counter + 1)) (omega arith) c.loop.invariant.1 in search rules

pub loop-preserved : goal.loop-preserved
loop-preserved c =
    (omega arith, (within_step _ _ _ (c.args.n - (c.loop.counter + 1)) (omega arith) c.loop.invariant.1).2, λ r cs bs. met_on _ _ _ _ _ (c.loop.invariant.2 r cs bs) (c.args.n - (c.loop.counter + 1)) (omega arith) c.if-a-x.false)

pub returns : goal.returns
returns c = λ r cs bs. met_end _ _ _ _ _ (c.loop.invariant.2 r cs bs) (omega arith)
