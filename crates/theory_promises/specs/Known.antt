-- What is known of a call on a well-formed heap. All promises are proved from this, and none looks at which call it is.
--     Keeps p h g          a call with the plan p that gives g on h
--     Known c h            the call c on h
-- What an act writes, names and takes, and whether it changes the root, is known of the acts themselves (specs/Deeds.antt): each word
-- that a call writes is one that an act of its plan writes, or is of a block that the call took.
-- Assumes nothing.
use Rattle.std.specs.Prelude.{◌*◌, ◌≤◌, ◌<◌, ◌≡◌, ◌≢◌, true, map}
use Rattle.machine.specs.Heap.{Heap}
use Rattle.machine.specs.Answers.{Given}
use Rattle.machine.specs.Allocate.{units_due}
use Rattle.machine.specs.WellFormed.{WellFormed}
use Rattle.machine.specs.Session.{Call, does}
use Rattle.theory_promises.specs.Deeds.{an_act, after, AllAllowed, takes_in}
use Rattle.theory_promises.specs.Plans.{Plan, plan, worked_by, deeds_of}

pub record Keeps (p : Plan) (h : Heap) (g : Given) : Type 0 where
  -- a heap made anew is well-formed; else the call is its deeds, each of them allowed when it is done
  pub anew : p.anew ≡ true → WellFormed g.heap
  pub whole : (p.anew ≡ true → ⊥) → g.heap ≡ after (deeds_of p) h
  pub allowed : AllAllowed (map an_act p.acts) (worked_by p h)
  -- the units due for a block are done for each block taken, and no more are taken than were asked for
  pub paid : units_due h.regs * takes_in (map an_act p.acts) ≤ p.units
  pub few : takes_in (map an_act p.acts) ≤ p.asked
  -- it doesn't answer 8, and answers 7 only where the units due for all it asks for are done and fewer blocks are free then
  pub undamaged : g.answer.refusal ≢ 8
  pub wanting : g.answer.refusal ≡ 7 → (units_due h.regs * p.asked ≤ p.units) × ((worked_by p h).regs.count < p.asked)

abbrev pub Known : Call → Heap → Type 0
Known c h = Keeps (plan c h) h (does c h)
