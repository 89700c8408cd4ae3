-- `call_read::read` meets its contract: refused, or what the word is. Assumes nothing.
use mathlib.Core.Path.{◌∙◌, sym, ap}
use Rattle.machine.specs.Refusal.{refused_by}
use Rattle.machine.proofs.Refusals.{refuses, refused_so, unrefused, readable}
use Rattle.machine.proofs.Reading.{read_refused_lem}
use Rattle.machine.proofs.Storing.{word_writable}
use Rattle.call_read.proofs.Found.{read_found}
use Rattle.call_read.proofs.read.Goals as goal

pub read_word-requires : goal.read_word-requires
read_word-requires c = word_writable (readable _ _ _ (unrefused c.read_refusal.ensures c.in-Ok.is))

pub returns-in-Ok : goal.returns-in-Ok
returns-in-Ok c = read_found _ _ _ c.read_refusal.ensures (ap refused_by c.in-Ok.is) (c.read_word.ensures _ _)

pub returns-in-Err : goal.returns-in-Err
returns-in-Err c =
    rw (c.unread.ensures, c.into.ensures) (read_refused_lem _ _ _ _ (refused_so c.read_refusal.ensures c.in-Err.is) (refuses _))
