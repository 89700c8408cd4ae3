-- `text_lines::line` meets its contract: the parts that are lent, and what comes back. Assumes nothing.
use Prim.Native.Nat.{◌*◌}
use Rattle.text_lines.specs.Line.{line_gives}
use Rattle.text_lines.proofs.Lending.{lend_length, lends}
use Rattle.text_lines.proofs.line.Goals as goal

pub returns-in_default : goal.returns-in_default
unfolding line_gives
returns-in_default c = rw (← c.in_default.ensures) (c.of_broken_line.ensures _ _ _)

pub slice_bounds-perform-end-2 : goal.slice_bounds-perform-end-2
slice_bounds-perform-end-2 c = lend_length (8 * c.blocks-m.result) c.args.words.now c.min-a.ensures

pub slice_bounds-perform-end-4 : goal.slice_bounds-perform-end-4
slice_bounds-perform-end-4 c = lend_length c.blocks-m.result c.args.colours.now c.min-b.ensures

pub slice_bounds-perform-end-6 : goal.slice_bounds-perform-end-6
slice_bounds-perform-end-6 c = lend_length c.blocks-m.result c.args.bytes.now c.min-d.ensures

pub returns : goal.returns
returns c =
    lends _ _ _ _ _ _ c.blocks-m.result _ _ _ (c.in-Some.ensures) c.blocks-m.ensures c.min-a.ensures c.min-b.ensures c.min-d.ensures _ _ _ _ c.perform.ensures
