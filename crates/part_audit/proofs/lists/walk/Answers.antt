-- `part_audit::lists::walk` meets its contract: the walk so far met blocks of the colour, and the rest of it is still to come. Assumes nothing.
use native.Mathlib.Omega.{arith}
use Prim.Native.Nat.{◌+◌, ◌-◌}
use Rattle.machine.specs.Heap.{colouring}
use Rattle.machine.proofs.Tests.{so}
use Rattle.machine.proofs.Audits.{walk_on, walk_off, walk_end}
use Rattle.part_audit.proofs.Hues.{coloured_block}
use Rattle.part_audit.proofs.lists.walk.Goals as goal

pub next-a-requires : goal.next-a-requires
next-a-requires g c =
    let k = colouring (g.B.Blocks.held c.args.blocks.now) in
    c.requires.1 _ (coloured_block k c.args.c _ c.requires.0 (so c.has_colour.ensures c.if-not-has_colour.false))

pub loop-preserved : goal.loop-preserved
loop-preserved g c =
    let k = colouring (g.B.Blocks.held c.args.blocks.now) in
    let e = so c.has_colour.ensures c.if-not-has_colour.false in
    (omega arith, λ link told. walk_on _ _ _ _ _ _ (c.loop.invariant.1 link told) _ _ (omega arith) e (told _ _ (coloured_block k c.args.c _ c.requires.0 e) c.next-a.ensures))

pub returns-then-not-has_colour : goal.returns-then-not-has_colour
returns-then-not-has_colour g c =
    λ link told. walk_off _ _ _ _ _ _ (c.loop.invariant.1 link told) (c.args.n - (c.loop.counter + 1)) (omega arith) (so c.has_colour.ensures c.if-not-has_colour.true)

pub returns : goal.returns
returns g c = λ link told. walk_end _ _ _ _ _ _ (c.loop.invariant.1 link told) (omega arith)
