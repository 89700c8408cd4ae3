-- Every call keeps a well-formed heap well-formed, and none answers 8.
--     session_formed                  well-formed heaps stay so
--     calls_keep                      the promise
-- Assumes nothing.
use mathlib.Core.List.{List, [], ◌∷◌}
use Rattle.machine.specs.Heap.{Heap}
use Rattle.machine.specs.WellFormed.{WellFormed}
use Rattle.machine.specs.Session.{Call, does, session}
use Rattle.theory_promises.specs.Demand2.{CallsKeep}
use Rattle.theory_promises.proofs.FreshHeap.{fresh_formed}
use Rattle.theory_promises.proofs.Calls.{load_formed, known}
use Rattle.theory_promises.proofs.Courses.{call_formed}

pub session_formed : (cs : List Call) (h : Heap) → WellFormed h → WellFormed (session cs h)
unfolding session
session_formed [] h f = f
session_formed (c ∷ cs) h f = session_formed cs (does c h).heap (call_formed h f c)

pub calls_keep : CallsKeep
calls_keep =
    record {
      fresh = fresh_formed;
      loaded = load_formed;
      formed = λ c h f. call_formed h f c;
      sessions = session_formed;
      undamaged = λ c h f. (known c h f).undamaged;
    }
