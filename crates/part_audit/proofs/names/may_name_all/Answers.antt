-- `part_audit::names::may_name_all` meets its contract: the words asked for are the block's. Assumes nothing.
use mathlib.Core.Path.{refl, ◌∙◌}
use native.Mathlib.Omega.{arith}
use Rattle.machine.specs.Block.{eight_words}
use Rattle.part_block.proofs.Asking.{word_read}
use Rattle.part_audit.proofs.names.may_name_all.Goals as goal

pub returns : goal.returns
returns g c =
    let h = g.B.Blocks.held c.args.blocks.now in
    c.may_name_each.ensures (eight_words h.words c.args.b) (λ w x l e. word_read h.words c.args.b w (omega arith) e) ∙ rw c.reference_byte.ensures refl
