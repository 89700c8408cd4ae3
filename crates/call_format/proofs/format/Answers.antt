-- `call_format::format` meets its contract: a law for each way out. Assumes nothing.
use mathlib.Core.Path.{◌∙◌}
use Rattle.machine.proofs.Tests.{so}
use Rattle.machine.proofs.Formats.{fits_parts, format_done, format_not}
use Rattle.call_format.proofs.format.Goals as goal

pub link_all-requires : goal.link_all-requires
link_all-requires c =
    let p = fits_parts _ _ _ _ _ (so c.fits.ensures c.if-fits.true) in (p.0, p.1, p.2)

pub returns-then-fits : goal.returns-then-fits
returns-then-fits c =
    c.done.ensures _ _ _ ∙ format_done _ _ _ _ _ _ _ (so c.fits.ensures c.if-fits.true) c.fresh_regs.ensures c.link_all.ensures c.fresh.ensures c.fresh-then-fits.ensures

pub returns : goal.returns
returns c =
    rw c.into.ensures at (c.refused.ensures c.args.words.now c.args.colours.now c.args.bytes.now)
    ∙ format_not _ _ _ (so c.fits.ensures c.if-fits.false)
