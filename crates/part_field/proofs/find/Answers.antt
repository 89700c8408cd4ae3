-- `part_field::find` meets its contract: the walk's first refusal, or the block where it ended. Assumes nothing.
use mathlib.Core.Path.{refl, sym, ◌∙◌, ap}
use Rattle.machine.proofs.Tests.{handed_on}
use Rattle.machine.proofs.Refusals.{refused_so, unrefused}
use Rattle.part_field.proofs.Walking.{walked_block, not_found}
use Rattle.part_field.proofs.find.Goals as goal

pub returns-in_err-walk_refusal : goal.returns-in_err-walk_refusal
returns-in_err-walk_refusal c =
    rw (handed_on c.from_residual.ensures) (not_found (refused_so (c.walk_refusal.ensures _ _ c.walk-x.ensures) c.in_err-walk_refusal.was))

pub returns : goal.returns
returns c =
    let n = unrefused (c.walk_refusal.ensures _ _ c.walk-x.ensures) c.in_ok-walk_refusal.was in
    record { refused = sym n; found = λ y e. let k = walked_block _ c.walk-x.ensures refl n in cc }
