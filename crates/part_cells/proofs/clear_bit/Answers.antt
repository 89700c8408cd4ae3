-- `part_cells::clear_bit` meets its contract. Assumes nothing.
use Rattle.machine.proofs.Bytes.{clear_fits, bit_cleared, bit_was_clear}
use Rattle.machine.proofs.Tests.{so}
use Rattle.machine.proofs.Bytes.{clear_fits, bit_cleared, bit_was_clear}
use Rattle.part_cells.proofs.clear_bit.Goals as goal

pub overflow_sub-bytes : goal.overflow_sub-bytes
overflow_sub-bytes c = clear_fits _ _ c.requires.1 (so c.bit.ensures c.if-bit.true)

pub returns-then-bit : goal.returns-then-bit
returns-then-bit c = bit_cleared c.args.bytes.now c.args.b _ c.requires.1 (so c.bit.ensures c.if-bit.true)

pub returns-else-bit : goal.returns-else-bit
returns-else-bit c = bit_was_clear _ _ _ c.requires.1 (so c.bit.ensures c.if-bit.false)
