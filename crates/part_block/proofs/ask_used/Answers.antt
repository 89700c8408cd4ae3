-- `part_block::ask_used` meets its contract. Assumes nothing.
use native.Mathlib.Omega.{arith}
use Rattle.machine.proofs.Passing.{mark_low_lem, mark_off}
use Rattle.part_block.specs.Asked.{answered}
use Rattle.part_block.proofs.ask_used.Goals as goal

pub returns-then-mark-b : goal.returns-then-mark-b
unfolding answered
returns-then-mark-b c = λ r k names m f. let l = c.if-mark-b.true in mark_off r k c.args.b _ f (omega arith)

pub returns : goal.returns
returns c = λ r k names m f. let l = c.if-mark-b.false in mark_low_lem r k c.args.b _ (omega arith)
