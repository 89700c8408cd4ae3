-- The stores of a number keep the registers.
--     number_keeps, field_number_keeps     the record afterwards is the record before
-- Assumes nothing.
use Prim.Native.Nat.{ℕ, ◌/◌, ◌%◌}
use mathlib.Core.Path.{◌≡◌}
use borrow.Author.Tests.{eq-eqb, ne_eqb}
use Rattle.machine.specs.Heap.{Heap}
use Rattle.machine.specs.Answers.{done, unless}
use Rattle.machine.specs.Read.{read_refusal}
use Rattle.machine.specs.Store.{put_number, store_number}
use Rattle.machine.specs.Field.{field_block, field_refusal, store_field_number}
use Rattle.machine.proofs.Tests.{by_eq}

-- refused by n, or a word written
put_keeps : (n b w v : ℕ) (h : Heap) → h.regs ≡ (unless n h (done 0 (put_number b w v h))).heap.regs
unfolding unless put_number
put_keeps n b w v h = by_eq n 0 (λ z. simp (eq-eqb _ _ z)) (λ z. simp (ne_eqb _ _ z))

pub number_keeps : (b w v : ℕ) (h : Heap) → h.regs ≡ (store_number b w v h).heap.regs
unfolding store_number
number_keeps b w v h = put_keeps (read_refusal b w h) b w v h

pub field_number_keeps : (b k v : ℕ) (h : Heap) → h.regs ≡ (store_field_number b k v h).heap.regs
unfolding store_field_number
field_number_keeps b k v h = put_keeps (field_refusal b k h) (field_block (k / 7) b h) (k % 7) v h
