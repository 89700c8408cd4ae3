-- `part_several::take_several_refusal` meets its contract: the holder refuses, or the free list says. Assumes nothing.
use Rattle.machine.specs.Several.{take_several_refusal}
use Rattle.machine.proofs.Tests.{handed_on}
use Rattle.machine.proofs.Refusals.{stops_by, passes_by}
use Rattle.part_several.proofs.take_several_refusal.Goals as goal

pub holder_after-requires : goal.holder_after-requires
holder_after-requires c = (c.requires.0, c.requires.2, c.requires.5)

pub returns-in_err-holder_after : goal.returns-in_err-holder_after
unfolding take_several_refusal
returns-in_err-holder_after c =
    λ bs. rw (handed_on c.from_residual.ensures) (stops_by (c.holder_after.ensures _ bs) _ c.in_err-holder_after.was)

pub several_refusal-requires : goal.several_refusal-requires
several_refusal-requires c = (c.requires.0, c.requires.1, c.requires.2, c.requires.3, c.requires.4)

pub returns : goal.returns
unfolding take_several_refusal
returns c = λ bs. passes_by (c.holder_after.ensures _ bs) c.in_ok-holder_after.was (c.several_refusal.ensures bs)
