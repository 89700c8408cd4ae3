-- `call_format::link_all` meets its contract: the blocks passed are laid out, and the list of the others is still to come. Assumes nothing.
use Prim.Native.Nat.{◌+◌, ◌-◌}
use mathlib.Core.Path.{◌≡◌, refl, sym}
use native.Mathlib.Omega.{arith}
use borrow.Author.Tests.{ne_eqb}
use Rattle.machine.proofs.Tests.{if_false}
use Rattle.machine.proofs.Formats.{link_start, link_step, link_end}
use Rattle.call_format.proofs.link_all.Goals as goal

pub loop-b-init : goal.loop-b-init
loop-b-init c =
    let all : c.args.m + 2 - 2 ≡ c.args.m = omega arith in rw all (link_start _ c.args.words.now)

pub loop-b-preserved : goal.loop-b-preserved
loop-b-preserved c =
    let b = c.loop-b.b in
    let k = c.args.m + 2 - (b + 1) in
    let more = sym (if_false _ _ (ne_eqb k 0 (λ z. absurd (omega arith)))) in
    link_step _ _ _ _ _ b k _ (omega arith) (omega arith) (omega arith) more c.clear.ensures c.loop-b.invariant

pub returns : goal.returns
returns c =
    let m = c.args.m in
    let e : c.loop-b.b ≡ m + 1 = omega arith in
    let one : m + 2 - c.loop-b.b ≡ 1 = omega arith in
    link_end _ _ 0 (m + 1 + 1) m refl (omega arith) (omega arith)
    (link_step _ _ _ _ _ (m + 1) 0 _ refl (omega arith) (omega arith) refl c.clear-2.ensures (rw e at (rw one at c.loop-b.invariant)))
