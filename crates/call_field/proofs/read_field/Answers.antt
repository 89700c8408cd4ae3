-- `call_field::read_field` meets its contract: refused, or the word read in the block that the walk came to. Assumes nothing.
use mathlib.Core.Path.{ap}
use Rattle.machine.specs.Refusal.{refused_by}
use Rattle.machine.proofs.Refusals.{refuses, refused_so, unrefused}
use Rattle.machine.proofs.Storing.{word_writable}
use Rattle.machine.proofs.Fields.{field_readable, field_refused, field_read}
use Rattle.call_field.proofs.read_field.Goals as goal

pub read_word-requires : goal.read_word-requires
read_word-requires c =
    let d = c.find_field.ensures in
    word_writable (field_readable _ _ _ _ (d.found _ c.in-Ok.is) (unrefused d.refused c.in-Ok.is))

pub returns-in-Ok : goal.returns-in-Ok
returns-in-Ok c =
    let d = c.find_field.ensures in
    field_read _ _ _ d.refused _ _ (ap refused_by c.in-Ok.is) (d.found _ c.in-Ok.is) (c.read_word.ensures _ _)

pub returns-in-Err : goal.returns-in-Err
returns-in-Err c =
    rw (c.unread.ensures, c.into.ensures) (field_refused _ _ _ (refused_so c.find_field.ensures.refused c.in-Err.is) (refuses _))
