-- Save: the image of a heap, written to a lent output.
--     SaveGiven            what it gives: the answer, and the output afterwards; the heap stays
--     save_refusal n h      the first refusal, in the order tested, or 0; n is the output's length
--     save out h           the call
-- Assumes nothing.
use Rattle.std.specs.Prelude.{ℕ, List, ◌++◌, eqb, leb, length, drop, if◌then◌else◌}
use Rattle.machine.specs.declared.Answer.{Answer}
use Rattle.machine.specs.Tests.{◌▷◌}
use Rattle.machine.specs.Heap.{Heap}
use Rattle.machine.specs.Entry.{heap_fits}
use Rattle.machine.specs.Audit.{passes}
use Rattle.machine.specs.Image.{encode}

pub record SaveGiven : Type 0 where
  pub answer : Answer
  pub out : List ℕ

-- "on writing, 1, then 10 for a heap the audit turns down (illegal registers too), then 13 for too short an output"
unfoldable pub save_refusal : ℕ → Heap → ℕ
save_refusal n h =
    (if heap_fits h then 0 else 1) ▷ (if passes h then 0 else 10) ▷ (if leb (length (encode h)) n then 0 else 13)

-- "Output past the image keeps its bytes." "A refusal writes nothing."
unfoldable pub save : List ℕ → Heap → SaveGiven
save out h =
    record {
      answer = record { refusal = save_refusal (length out) h; value = 0; units = 0 };
      out = if eqb (save_refusal (length out) h) 0 then encode h ++ drop (length (encode h)) out else out;
    }
