-- `text_commands::command_of` meets its contract: a law for each way out. Assumes nothing.
use Rattle.std.proofs.Common.{rules, ◌∙◌}
use Rattle.text_commands.proofs.Naming.{too_long, no_letter, after_letter, named_off, named_on}
use Rattle.text_commands.proofs.command_of.Goals as goal

pub returns-then-text-gt-MOST_BYTES : goal.returns-then-text-gt-MOST_BYTES
returns-then-text-gt-MOST_BYTES c = too_long c.args.text.now (search rules)

pub returns-in_default : goal.returns-in_default
returns-in_default c = no_letter c.args.text.now (search rules) (search rules)

pub returns-in_default-2 : goal.returns-in_default-2
returns-in_default-2 c = no_letter c.args.text.now (search rules) (search rules)

pub numbers_after-requires : goal.numbers_after-requires
numbers_after-requires c = after_letter c.args.text.now (search rules) (search rules)

pub returns-in_err-count : goal.returns-in_err-count
returns-in_err-count c = c.from_residual.ensures ∙ named_off c.args.text.now (search rules) (rw (← c.piece.ensures) (search rules)) c.in_err-count.ensures

pub returns : goal.returns
returns c =
    named_on c.args.text.now (search rules) (rw (← c.piece.ensures) (search rules)) c.in_ok-count.count c.numbers_after.new.numbers _ (let h = c.in_ok-count.ensures in (h.1, h.2)) (rw (← c.piece.ensures) c.asked.ensures)
