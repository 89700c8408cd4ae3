-- `part_checks::entry` meets its contract: a law of the refusals for each way out. Assumes nothing.
use Rattle.machine.proofs.Tests.{so}
use Rattle.machine.proofs.Refusals.{fits_most, unfit, illegal, entered}
use Rattle.part_checks.proofs.entry.Goals as goal

pub legal-requires : goal.legal-requires
legal-requires c = fits_most _ _ _ _ _ (so c.fits.ensures c.if-not-fits.false)

pub returns-then-not-fits : goal.returns-then-not-fits
returns-then-not-fits c = unfit _ (so c.fits.ensures c.if-not-fits.true)

pub returns-then-not-legal : goal.returns-then-not-legal
returns-then-not-legal c = illegal _ (so c.fits.ensures c.if-not-fits.false) (so c.legal.ensures c.if-not-legal.true)

pub returns : goal.returns
returns c = entered _ (so c.fits.ensures c.if-not-fits.false) (so c.legal.ensures c.if-not-legal.false)
