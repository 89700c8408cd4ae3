-- `text_streams::input::after_read` meets its contract: a read that failed. Assumes nothing.
use Rattle.std.proofs.Common.{None}
use Rattle.text_streams.specs.Input.{read_gives}
use Rattle.text_streams.proofs.input.after_read.Goals as goal

pub returns-in-Err-clause-once : goal.returns-in-Err-clause-once
unfolding read_gives
returns-in-Err-clause-once g c = record { got = None; fits = tt; gives = c.no_more.ensures }
