-- `call_export::BlocksRows::write` meets its contract: the part of the words that it copies is the block's. Assumes nothing.
use mathlib.Core.Path.{◌∙◌}
use Rattle.machine.proofs.Parts.{part_is}
use Rattle.machine.proofs.Reading.{part_within}
use Rattle.call_export.proofs.Steps.{follow_leads}
use Rattle.call_export.proofs.BlocksRows.write.Goals as goal

pub overflow_sub-from : goal.overflow_sub-from
overflow_sub-from c = (follow_leads _ _ _ c.requires.0).block.low

pub slice_bounds-copy_from_slice-end : goal.slice_bounds-copy_from_slice-end
slice_bounds-copy_from_slice-end c = part_within (follow_leads _ _ _ c.requires.0)

pub returns : goal.returns
returns c = c.copy_from_slice.ensures.after ∙ part_is _ c.args.b
