-- `part_mark::mark` meets its contract: a law of marking for each way out. Assumes nothing.
use mathlib.Core.Path.{◌∙◌}
use native.Mathlib.Omega.{arith}
use Rattle.machine.specs.Colouring.{coloured}
use Rattle.machine.proofs.Tests.{handed_on}
use Rattle.machine.proofs.Parts.{part_is}
use Rattle.machine.proofs.Marking.{mark_done, mark_damaged}
use Rattle.part_mark.proofs.Whites.{whites_ask, greyed_as, looked_whites, looked_damaged}
use Rattle.part_mark.proofs.mark.Goals as goal

pub returns-in_err-white : goal.returns-in_err-white
returns-in_err-white c =
    rw (handed_on c.from_residual.ensures) (mark_damaged c.args.r c.args.words.now c.args.colours.now c.args.bytes.now _ (part_is _ _) _ (looked_damaged _ _ (c.seen_all.ensures _) c.in_err-white.was))

pub grey_all-head-requires : goal.grey_all-head-requires
grey_all-head-requires c =
    let (f, n) = whites_ask (coloured c.args.r.blocks c.args.r.grey c.args.colours.now) _ _ _ _ (c.seen_all.ensures _) c.in_ok-white.was (c.to_black-next.auto.colours ∙ c.requires.0.colours) in
    (f, omega arith, n)

pub returns : goal.returns
returns c =
    let (s, q) = looked_whites _ _ (c.seen_all.ensures c.args.r.grey) c.in_ok-white.was in
    let m = c.to_black-next.auto.colours ∙ c.requires.0.colours in
    mark_done c.args.r c.args.words.now c.args.colours.now c.args.bytes.now _ (part_is _ _) s (c.to_black-next.ensures _)
    (c.grey_all-head.ensures _ m ∙ greyed_as (coloured c.args.r.blocks c.args.r.grey c.args.colours.now) _ _ _ _ q (omega arith) (c.to_black-next.ensures _)) c.with_grey.ensures
