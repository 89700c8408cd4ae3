-- `call_export::BlocksRows::follow` meets its contract: refused, or what the link word is. Assumes nothing.
use mathlib.Core.Path.{◌∙◌, ap}
use Rattle.machine.proofs.Tests.{handed_on}
use Rattle.machine.proofs.Refusals.{refuses, refused_so, unrefused, readable}
use Rattle.machine.proofs.Storing.{word_writable}
use Rattle.part_rows.specs.Rows.{followed}
use Rattle.call_export.proofs.Steps.{follow_refused, follow_read}
use Rattle.call_export.proofs.BlocksRows.follow.Goals as goal

pub returns-in_err-readable : goal.returns-in_err-readable
returns-in_err-readable c =
    rw (handed_on c.from_residual.ensures)
    (follow_refused _ _ _ _ (refused_so c.read_refusal_after-readable.ensures c.in_err-readable.was) (refuses _))

pub read_word-requires : goal.read_word-requires
read_word-requires c = word_writable (readable _ _ _ (unrefused c.read_refusal_after-readable.ensures c.in_ok-readable.was))

pub returns : goal.returns
returns c =
    c.followed.ensures ∙ ap followed (c.read_word.ensures _ _)
    ∙ follow_read _ _ _ (unrefused c.read_refusal_after-readable.ensures c.in_ok-readable.was)
