-- `part_cells::set_bit` meets its contract. Assumes nothing.
use Rattle.machine.proofs.Tests.{so}
use Rattle.machine.proofs.Bytes.{set_fits, bit_set, bit_was_set}
use Prim.Native.Nat.{◌-◌}
use Rattle.part_cells.proofs.set_bit.Goals as goal

pub returns-then-bit : goal.returns-then-bit
returns-then-bit c = bit_was_set _ _ _ c.requires.1 (so c.bit.ensures c.if-bit.true)

pub overflow_add-bytes : goal.overflow_add-bytes
overflow_add-bytes c =
    record { fits = set_fits _ _ (c.slice_known-2-1.given (c.args.b - 2)).fits c.requires.1 (so c.bit.ensures c.if-bit.false) }

pub returns : goal.returns
returns c = bit_set c.args.bytes.now c.args.b _ c.requires.1 (so c.bit.ensures c.if-bit.false)
