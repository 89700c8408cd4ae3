-- `call_why::reason` meets its contract: the reason by the block's state. Assumes nothing.
use mathlib.Core.Path.{refl}
use Rattle.machine.specs.declared.State.TheVariants as states
use Rattle.machine.specs.Heap.{heap}
use Rattle.machine.specs.Why.{reason_from}
use Rattle.machine.proofs.Tests.{so}
use Rattle.call_why.proofs.Ways.{told_gone}
use Rattle.call_why.proofs.reason.Goals as goal

pub returns-in-Doomed : goal.returns-in-Doomed
unfolding reason_from
returns-in-Doomed c =
    let h = heap c.args.r c.args.words.now c.args.colours.now c.args.bytes.now in
    let s = so (c.state_of-s.ensures _ refl refl refl) c.in-Doomed.is in
    told_gone h _ states.Doomed s _ refl refl (c.fill.ensures.after (λ y e. e))

pub returns-in-Free : goal.returns-in-Free
unfolding reason_from
returns-in-Free c =
    let h = heap c.args.r c.args.words.now c.args.colours.now c.args.bytes.now in
    let s = so (c.state_of-s.ensures _ refl refl refl) c.in-Free.is in
    told_gone h _ states.Free s _ refl refl (c.fill-in-Free.ensures.after (λ y e. e))
