-- `part_field::follow_refusal` meets its contract: the block refuses, or its link says. Assumes nothing.
use mathlib.Core.Path.{refl}
use Rattle.machine.proofs.Tests.{handed_on}
use Rattle.machine.proofs.Refusals.{stops_by, passes_by}
use Rattle.part_field.proofs.follow_refusal.Goals as goal

pub returns-in_err-holder_refusal : goal.returns-in_err-holder_refusal
returns-in_err-holder_refusal c =
    rw (handed_on c.from_residual.ensures) (stops_by (c.holder_refusal.ensures _ _ _ refl refl refl) _ c.in_err-holder_refusal.was)

pub returns : goal.returns
returns c = passes_by (c.holder_refusal.ensures _ _ _ refl refl refl) c.in_ok-holder_refusal.was c.link_refusal.ensures
