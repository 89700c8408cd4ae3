-- The fields of an object: "read and both stores of field k, in block k/7 of the chain, word k mod 7".
--     field_place m b k     refusal 3 for the block, and for a field above 1,791
--     field_block j b h     the block j of the chain from b on
--     walk_refusal j b h    the first refusal of a walk to that block
--     field_refusal b k h   the first refusal of Read field, in the order tested, or 0
--     read_field b k h, store_field_number b k v h, store_field_reference b k t h     the calls
-- Assumes nothing.
use Rattle.std.specs.Prelude.{ℕ, zero, suc, ◌/◌, ◌%◌, ◌&&◌, not, eqb, leb, if◌then◌else◌}
use Rattle.machine.specs.Tests.{◌▷◌}
use Rattle.machine.specs.Block.{is_block, word_of, byte_of, bit}
use Rattle.machine.specs.Heap.{Heap}
use Rattle.machine.specs.Entry.{entry, target_place}
use Rattle.machine.specs.State.{holder_refusal, target_refusal}
use Rattle.machine.specs.Answers.{Given, ReadGiven, unless, done}
use Rattle.machine.specs.Read.{read_answer, read_refused}
use Rattle.machine.specs.Store.{barrier, put_number, put_reference}
use Rattle.machine.specs.Chain.{link}

-- "3 for .. k above 1,791"
unfoldable pub field_place : ℕ → ℕ → ℕ → ℕ
field_place m b k = if is_block m b && leb k 1791 then 0 else 3

-- the block that follows b in its chain
abbrev pub next_of : Heap → ℕ → ℕ
next_of h b = word_of h.words b link

unfoldable pub field_block : ℕ → ℕ → Heap → ℕ
field_block zero b h = b
field_block (suc j) b h = field_block j (next_of h b) h

-- "3 when its word 7 must be followed and is null or no reference, 8 when that names no block"
unfoldable pub link_refusal : ℕ → Heap → ℕ
link_refusal b h =
    if bit (byte_of h.bytes b) link && not (eqb (next_of h b) 0) then (if is_block h.regs.blocks (next_of h b) then 0 else 8) else 3

-- "at each block walked 8 and 5, then 3 .., 8 .."
unfoldable pub walk_refusal : ℕ → ℕ → Heap → ℕ
walk_refusal zero b h = holder_refusal h b
walk_refusal (suc j) b h = holder_refusal h b ▷ link_refusal b h ▷ walk_refusal j (next_of h b) h

unfoldable pub field_refusal : ℕ → ℕ → Heap → ℕ
field_refusal b k h = entry h ▷ field_place h.regs.blocks b k ▷ walk_refusal (k / 7) b h

unfoldable pub read_field : ℕ → ℕ → Heap → ReadGiven
read_field b k h =
    record {
      answer = if eqb (field_refusal b k h) 0 then read_answer (field_block (k / 7) b h) (k % 7) h else read_refused (field_refusal b k h);
      heap = h;
    }

unfoldable pub store_field_number : ℕ → ℕ → ℕ → Heap → Given
store_field_number b k v h = unless (field_refusal b k h) h (done 0 (put_number (field_block (k / 7) b h) (k % 7) v h))

-- "then the target's"
unfoldable pub field_store_refusal : ℕ → ℕ → ℕ → Heap → ℕ
field_store_refusal b k t h =
    entry h ▷ field_place h.regs.blocks b k ▷ target_place h.regs.blocks t ▷ walk_refusal (k / 7) b h ▷ target_refusal h t

unfoldable pub store_field_reference : ℕ → ℕ → ℕ → Heap → Given
store_field_reference b k t h =
    unless (field_store_refusal b k t h) h (done 0 (put_reference (field_block (k / 7) b h) (k % 7) t (barrier t h)))
