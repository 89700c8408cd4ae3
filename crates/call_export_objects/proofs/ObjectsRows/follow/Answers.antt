-- `call_export_objects::ObjectsRows::follow` meets its contract: refused, or what the link is. Assumes nothing.
use mathlib.Core.Path.{◌∙◌, ap}
use Rattle.machine.proofs.Tests.{handed_on}
use Rattle.machine.proofs.Refusals.{refuses, refused_so, unrefused}
use Rattle.machine.proofs.Storing.{word_writable}
use Rattle.part_rows.specs.Rows.{followed}
use Rattle.call_export_objects.proofs.Steps.{link_readable, follow_refused, follow_read}
use Rattle.call_export_objects.proofs.ObjectsRows.follow.Goals as goal

pub returns-in_err-at : goal.returns-in_err-at
returns-in_err-at c =
    rw (handed_on c.from_residual.ensures)
    (follow_refused _ _ _ _ c.args.self.now.in_range (refused_so c.find.ensures.refused c.in_err-at.was) (refuses _))

pub read_word-requires : goal.read_word-requires
read_word-requires c =
    let d = c.find.ensures in
    word_writable (link_readable _ _ _ _ c.args.self.now.in_range (unrefused d.refused c.in_ok-at.was) _ (d.found _ c.in_ok-at.was))

pub returns : goal.returns
returns c =
    let d = c.find.ensures in
    c.followed.ensures ∙ ap followed (c.read_word.ensures _ _)
    ∙ follow_read _ _ _ _ c.args.self.now.in_range (unrefused d.refused c.in_ok-at.was) _ (d.found _ c.in_ok-at.was)
