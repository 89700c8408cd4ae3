-- `part_search::begin` meets its contract: one law for each way out. Assumes nothing.
use native.Mathlib.Omega.{arith}
use Rattle.machine.proofs.Tests.{so}
use Rattle.machine.proofs.Blocks.{is_block_block}
use Rattle.part_search.proofs.Steps.{zeros_as, zeros_length, begins, begins_nowhere}
use Rattle.part_search.proofs.begin.Goals as goal

pub overflow_sub-came : goal.overflow_sub-came
overflow_sub-came c = (is_block_block _ _ (so c.is_block.ensures c.if-is_block.true)).low

pub bounds-came-root : goal.bounds-came-root
bounds-came-root c =
    let b = is_block_block _ _ (so c.is_block.ensures c.if-is_block.true) in
    let n = zeros_length (c.fill.ensures.after (λ y e. e)) c.requires.2 in omega (arith, b.low, b.high)

pub bounds-queue-0 : goal.bounds-queue-0
bounds-queue-0 c =
    let b = is_block_block _ _ (so c.is_block.ensures c.if-is_block.true) in omega (arith, b.low, b.high, c.requires.1)

pub returns-then-is_block : goal.returns-then-is_block
returns-then-is_block c =
    begins _ _ c.args.queue.now c.requires.1 (so c.is_block.ensures c.if-is_block.true) (zeros_as (c.fill.ensures.after (λ y e. e)) c.requires.2)

pub returns : goal.returns
returns c =
    begins_nowhere _ _ c.args.queue.now c.requires.1 (so c.is_block.ensures c.if-is_block.false) (zeros_as (c.fill.ensures.after (λ y e. e)) c.requires.2)
