-- What a call gives: its answer and the heap afterwards.
--     Given                what a call gives; given o ws cs bs puts one together from a result and the buffers
--     ReadGiven            what Read gives
--     refuse n h           refused by n: value 0, nothing changed
--     done v h             done, with the value v
--     unless n h g         refused by n where n isn't 0, else g
-- "Each answer, Look's apart, is a refusal number or 0, a value (0 if none; the new block for Allocate), and the units done."
-- "A refusal has value 0 and changes nothing"
-- Assumes nothing.
use Rattle.std.specs.Prelude.{ℕ, List, eqb, if◌then◌else◌}
use Rattle.machine.specs.declared.Answer.{Answer}
use Rattle.machine.specs.declared.ReadAnswer.{ReadAnswer}
use Rattle.machine.specs.declared.Outcome.{Outcome}
use Rattle.machine.specs.Heap.{Heap, heap}

pub record Given : Type 0 where
  pub answer : Answer
  pub heap : Heap

pub record ReadGiven : Type 0 where
  pub answer : ReadAnswer
  pub heap : Heap

abbrev pub given : Outcome → List ℕ → List ℕ → List ℕ → Given
given o ws cs bs = record { answer = o.answer; heap = heap o.regs ws cs bs }

abbrev pub answering : ℕ → ℕ → ℕ → Heap → Given
answering refusal value units h = record { answer = record { refusal = refusal; value = value; units = units }; heap = h }

abbrev pub refuse : ℕ → Heap → Given
refuse n h = answering n 0 0 h

abbrev pub done : ℕ → Heap → Given
done v h = answering 0 v 0 h

unfoldable pub unless : ℕ → Heap → Given → Given
unless n h g = if eqb n 0 then g else refuse n h
