-- `text_commands::numbers_after` meets its contract: the numbers read so far, and those still to come. Assumes nothing.
use Rattle.std.proofs.Common.{rules, refl}
use Rattle.text_commands.proofs.Gathering.{gather_start, gather_on, gather_off, gather_more, gather_end, gather_stays}
use Rattle.text_commands.proofs.numbers_after.Goals as goal

pub loop-count-init : goal.loop-count-init
loop-count-init c = gather_start _ _ _ (search rules) c.requires

pub returns-then-text-at : goal.returns-then-text-at
returns-then-text-at c = gather_end _ _ _ _ _ (gather_stays c.loop-count.invariant) _ refl (search rules) (search rules)

pub returns-in_err-found : goal.returns-in_err-found
returns-in_err-found c = rw (c.from_residual.ensures) (gather_off _ _ _ _ _ c.loop-count.invariant (search rules) (search rules))

pub loop-count-preserved : goal.loop-count-preserved
loop-count-preserved c = gather_on _ _ _ _ _ c.loop-count.invariant (search rules) (search rules) (search rules)

pub returns-then-at-text : goal.returns-then-at-text
returns-then-at-text c = gather_more _ _ _ _ _ c.loop-count.invariant (search rules) (search rules)

pub returns : goal.returns
returns c = gather_end _ _ _ _ _ c.loop-count.invariant 3 (search rules) (search rules) (search rules)
