-- `part_checks::fits` meets its contract. Assumes nothing.
use mathlib.Core.Path.{◌∙◌}
use Rattle.machine.proofs.Tests.{so}
use Rattle.machine.proofs.Entering.{fits_lengths, unfit_lengths}
use Rattle.part_checks.proofs.fits.Goals as goal

pub returns-then-lengths_fit : goal.returns-then-lengths_fit
returns-then-lengths_fit c = fits_lengths _ _ _ _ _ (so c.lengths_fit.ensures c.if-lengths_fit.true) c.numbers_fit.ensures

pub returns-else-lengths_fit : goal.returns-else-lengths_fit
returns-else-lengths_fit c = c.if-lengths_fit.false ∙ unfit_lengths _ c.args.u _ _ _ (so c.lengths_fit.ensures c.if-lengths_fit.false)
