-- `call_audit::passes` meets its contract. Assumes nothing.
use mathlib.Core.Path.{◌∙◌}
use Rattle.machine.proofs.Entering.{entry_ready}
use Rattle.machine.proofs.Passing.{entry_no}
use Rattle.machine.proofs.Refusals.{refuses, refused_so, unrefused}
use Rattle.call_audit.proofs.passes.Goals as goal

pub returns-in_default : goal.returns-in_default
returns-in_default c = entry_no _ (λ z. refuses _ (refused_so c.entry.ensures c.in_default.is ∙ z))

pub invariant_of-passes : goal.invariant_of-passes
invariant_of-passes c =
    let d = entry_ready _ (unrefused c.entry.ensures c.in-Ok.is) in
    record { sized = record { most = d.most; words = d.words; colours = d.colours; bytes = d.bytes } }

pub returns : goal.returns
returns c = c.passes.ensures (unrefused c.entry.ensures c.in-Ok.is)
