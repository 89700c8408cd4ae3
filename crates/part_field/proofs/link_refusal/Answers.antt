-- `part_field::link_refusal` meets its contract: a law of the definition for each way out. Assumes nothing.
use native.Mathlib.Omega.{arith}
use Rattle.machine.proofs.Tests.{so}
use Rattle.machine.proofs.Blocks.{is_block_block}
use Rattle.machine.proofs.Fields.{link_number, link_null, link_off, link_on}
use Rattle.part_field.proofs.link_refusal.Goals as goal

pub returns-then-is_block : goal.returns-then-is_block
returns-then-is_block c =
    let i = so c.is_block.ensures c.if-is_block.true in
    let block = is_block_block _ _ i in
    link_on _ _ (so c.bit.ensures c.if-bit.true) (λ z. absurd (let l = block.low in omega arith)) i

pub returns-then-to-eq0 : goal.returns-then-to-eq0
returns-then-to-eq0 c = link_null _ _ (so c.bit.ensures c.if-bit.true) c.if-to-eq0.true

pub returns-then-bit : goal.returns-then-bit
returns-then-bit c = link_off _ _ (so c.bit.ensures c.if-bit.true) c.if-to-eq0.false (so c.is_block.ensures c.if-is_block.false)

pub returns : goal.returns
returns c = link_number _ _ (so c.bit.ensures c.if-bit.false)
