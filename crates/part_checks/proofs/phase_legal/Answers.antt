-- `part_checks::phase_legal` meets its contract: phase by phase. Assumes nothing.
use Rattle.machine.proofs.Entering.{legal_idle, legal_marking, legal_sweeping, legal_nowhere}
use Rattle.part_checks.proofs.phase_legal.Goals as goal

pub returns-in-0 : goal.returns-in-0
returns-in-0 c = legal_idle c.args.r c.in-0.is c.idle_legal.ensures

pub returns-in-1 : goal.returns-in-1
returns-in-1 c = legal_marking c.args.r c.in-1.is c.marking_legal.ensures

pub returns-in-2 : goal.returns-in-2
returns-in-2 c = legal_sweeping c.args.r c.in-2.is c.sweeping_legal.ensures

pub returns-in_default : goal.returns-in_default
returns-in_default c =
    legal_nowhere c.args.r c.in_default.in_default-own.rest.0.0.1 c.in_default.in_default-own.rest.0.1 c.in_default.in_default-own.rest.1
