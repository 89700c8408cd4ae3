-- Read, not refused.
--     read_found           its answer is what the word is
-- Assumes nothing.
use Prim.Native.Nat.{ℕ}
use mathlib.Core.Path.{◌≡◌, sym, ◌∙◌}
use borrow.Author.Tests.{eq-eqb}
use Rattle.machine.specs.declared.ReadAnswer.{ReadAnswer}
use Rattle.machine.specs.Heap.{Heap}
use Rattle.machine.specs.Read.{read_answer, read_refusal, read}

pub read_found : (h : Heap) (b w : ℕ) {n : ℕ} {x : ReadAnswer} → n ≡ read_refusal b w h → n ≡ 0 → x ≡ read_answer b w h
    → (record { answer = x; heap = h }) ≡ read b w h
unfolding read
read_found h b w e z f = rw f (simp (eq-eqb (read_refusal b w h) 0 (sym e ∙ z)))
