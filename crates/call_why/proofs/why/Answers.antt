-- `call_why::why` meets its contract: one law for each way out. Assumes nothing.
use Rattle.machine.specs.Heap.{heap}
use Rattle.machine.proofs.Tests.{so}
use Rattle.machine.proofs.Blocks.{is_block_block}
use Rattle.machine.proofs.Images.{sizes}
use Rattle.machine.proofs.Reasoning.{state_inside, why_unfit, why_bad, why_nowhere, why_short, why_told}
use Rattle.call_why.proofs.Ways.{long, part_length, cleared}
use Rattle.call_why.proofs.why.Goals as goal

pub returns-then-not-fits : goal.returns-then-not-fits
returns-then-not-fits c = rw c.into.ensures (why_unfit _ _ _ _ _ (so c.fits.ensures c.if-not-fits.true))

pub returns-then-not-passes : goal.returns-then-not-passes
returns-then-not-passes c =
    rw c.into-then-not-passes.ensures (why_bad _ _ _ _ _ (so c.fits.ensures c.if-not-fits.false) (so c.passes.ensures c.if-not-passes.true))

pub is_block-requires : goal.is_block-requires
is_block-requires c =
    let h = heap c.args.r c.args.words.now c.args.colours.now c.args.bytes.now in
    (sizes h (so c.fits.ensures c.if-not-fits.false)).most

pub returns-then-not-is_block : goal.returns-then-not-is_block
returns-then-not-is_block c =
    rw c.into-then-not-is_block.ensures
    (why_nowhere _ _ _ _ _ (so c.fits.ensures c.if-not-fits.false)
    (so c.passes.ensures c.if-not-passes.false)
    (so c.is_block.ensures c.if-not-is_block.true))

pub long_enough-requires : goal.long_enough-requires
long_enough-requires c =
    let h = heap c.args.r c.args.words.now c.args.colours.now c.args.bytes.now in
    (sizes h (so c.fits.ensures c.if-not-fits.false)).most

pub returns-then-not-long_enough : goal.returns-then-not-long_enough
returns-then-not-long_enough c =
    rw c.into-then-not-long_enough.ensures
    (why_short _ _ _ _ _ (so c.fits.ensures c.if-not-fits.false)
    (so c.passes.ensures c.if-not-passes.false)
    (so c.is_block.ensures c.if-not-is_block.false)
    (so c.long_enough.ensures c.if-not-long_enough.true))

pub reason-reason-requires : goal.reason-reason-requires
reason-reason-requires c =
    let fit = so c.fits.ensures c.if-not-fits.false in
    let block = so c.is_block.ensures c.if-not-is_block.false in
    let (p, q, t) = long c.args.r.blocks _ _ _ (so c.long_enough.ensures c.if-not-long_enough.false) in (
      sizes _ fit,
      p,
      part_length _ c.args.queue.now q,
      part_length _ c.args.came.now t,
      is_block_block _ _ block,
      state_inside _ _ (so c.passes.ensures c.if-not-passes.false) block,
    )

pub returns : goal.returns
returns c =
    let m = c.args.r.blocks in
    why_told _ _ _ _ _ (so c.fits.ensures c.if-not-fits.false)
    (so c.passes.ensures c.if-not-passes.false)
    (so c.is_block.ensures c.if-not-is_block.false)
    (so c.long_enough.ensures c.if-not-long_enough.false)
    c.reason-reason.ensures.0
    c.reason-reason.ensures.1
    (cleared m c.args.queue.now c.reason-reason.new.queue c.reason-reason.auto.queue (c.fill.ensures.after (λ y e. e)))
    (cleared m c.args.came.now c.reason-reason.new.came c.reason-reason.auto.came (c.fill-2.ensures.after (λ y e. e)))
