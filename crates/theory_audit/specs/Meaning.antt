-- The audit's meaning: "Audit: 1 for a well-formed heap, else 0. It never refuses and changes nothing."
--     AuditMeans h         the call on the heap h: 1 exactly where h is well-formed, else 0; no refusal, no units, h as it was
-- Assumes nothing.
use Rattle.std.specs.Prelude.{◌≡◌, ◌↔◌, true}
use Rattle.machine.specs.Heap.{Heap}
use Rattle.machine.specs.Audit.{passes, audit}
use Rattle.machine.specs.WellFormed.{WellFormed}

pub record AuditMeans (h : Heap) : Type 0 where
  pub test : (passes h ≡ true) ↔ WellFormed h
  pub one : ((audit h).answer.value ≡ 1) ↔ WellFormed h
  pub none : (WellFormed h → ⊥) ↔ ((audit h).answer.value ≡ 0)
  pub refusal : (audit h).answer.refusal ≡ 0
  pub units : (audit h).answer.units ≡ 0
  pub heap : (audit h).heap ≡ h
