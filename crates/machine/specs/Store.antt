-- Store number, Store reference and Set root.
--     barrier t h          the barrier: "While marking, a white target is greyed first."
--     put_number, put_reference     word w of b written, with its bit
--     store_number b w v h, store_reference b w t h, set_root t h     the calls
-- Assumes nothing.
use Rattle.std.specs.Prelude.{ℕ, eqb, set, if◌then◌else◌}
use Rattle.machine.specs.Tests.{◌▷◌}
use Rattle.machine.specs.Registers.{marking, with_root}
use Rattle.machine.specs.Block.{place, set_bit, clear_bit}
use Rattle.machine.specs.Colouring.{grey_white}
use Rattle.machine.specs.Heap.{Heap, heap, colouring, with_regs, with_colouring}
use Rattle.machine.specs.State.{holder_refusal, target_refusal}
use Rattle.machine.specs.Entry.{entry, word_refusal, target_place}
use Rattle.machine.specs.Answers.{Given, done, unless}
use Rattle.machine.specs.Read.{read_refusal}

unfoldable pub barrier : ℕ → Heap → Heap
barrier t h =
    if eqb h.regs.phase marking then with_colouring (grey_white t (colouring h)) h else h

-- "Store number (block, word, value): clears the bit."
unfoldable pub put_number : ℕ → ℕ → ℕ → Heap → Heap
put_number b w v h = heap h.regs (set h.words (place b w) v) h.colours (clear_bit h.bytes b w)

-- "sets the bit, also for 0"
unfoldable pub put_reference : ℕ → ℕ → ℕ → Heap → Heap
put_reference b w t h = heap h.regs (set h.words (place b w) t) h.colours (set_bit h.bytes b w)

unfoldable pub store_number : ℕ → ℕ → ℕ → Heap → Given
store_number b w v h = unless (read_refusal b w h) h (done 0 (put_number b w v h))

-- "8 and 5 for the block, 8 and 6 for the target"
unfoldable pub store_refusal : ℕ → ℕ → ℕ → Heap → ℕ
store_refusal b w t h =
    entry h ▷ word_refusal h.regs.blocks b w ▷ target_place h.regs.blocks t ▷ holder_refusal h b ▷ target_refusal h t

unfoldable pub store_reference : ℕ → ℕ → ℕ → Heap → Given
store_reference b w t h = unless (store_refusal b w t h) h (done 0 (put_reference b w t (barrier t h)))

unfoldable pub root_refusal : ℕ → Heap → ℕ
root_refusal t h = entry h ▷ target_place h.regs.blocks t ▷ target_refusal h t

-- "Set root (target or 0): the same barrier."
unfoldable pub set_root : ℕ → Heap → Given
set_root t h =
    unless (root_refusal t h) h (done 0 (with_regs (with_root t (barrier t h).regs) (barrier t h)))
