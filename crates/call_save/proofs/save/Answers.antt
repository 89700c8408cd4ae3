-- `call_save::save` meets its contract: one law for each way out. Assumes nothing.
use native.Mathlib.Omega.{arith}
use Rattle.machine.proofs.Tests.{so}
use Rattle.machine.proofs.Images.{sizes}
use Rattle.machine.proofs.Saving.{save_unfit, save_bad, save_short, save_done}
use Rattle.call_save.proofs.Writing.{answers}
use Rattle.call_save.proofs.save.Goals as goal

pub returns-then-out-image_length : goal.returns-then-out-image_length
returns-then-out-image_length c =
    answers c.answer.ensures
    (save_short _ _ (so c.fits.ensures c.if-fits.true) (so c.passes.ensures c.if-passes.true) (omega arith))

pub write-requires : goal.write-requires
write-requires c = (sizes _ (so c.fits.ensures c.if-fits.true), omega arith)

pub returns-then-passes : goal.returns-then-passes
returns-then-passes c =
    answers c.answer-then-passes.ensures
    (save_done _ _ (so c.fits.ensures c.if-fits.true) (so c.passes.ensures c.if-passes.true) (omega arith)
    c.write.ensures)

pub returns-then-fits : goal.returns-then-fits
returns-then-fits c =
    answers c.answer-then-fits.ensures
    (save_bad _ _ (so c.fits.ensures c.if-fits.true) (so c.passes.ensures c.if-passes.false))

pub returns : goal.returns
returns c = answers c.answer-2.ensures (save_unfit _ _ (so c.fits.ensures c.if-fits.false))
