-- What people who use objects longer than a block rely on: a field that was stored reads back, and all else reads as before.
--     reads_as v r              the answer of a read that finds the value v, a reference where r is 1
--     NumberReadsBack, ReferenceReadsBack     a field that was stored reads back
--     Apart h b k a j          field k of the object at b and field j of the object at a are not the same word
--     FieldsStay store         every field but the one stored reads as before: of this object and of others
--     WordsStay store          so does every word of every block, read as such
--     Straight h b n           the first n blocks of the object at b are all different
--     FieldsApart              two fields of such an object are apart
-- Each holds on every heap; that it is well-formed is not needed. Where a store is refused nothing changes.
-- Assumes nothing.
use Rattle.std.specs.Prelude.{ℕ, ◌/◌, ◌%◌, ◌*◌, ◌<◌, ◌≡◌, ◌≢◌}
use Rattle.machine.specs.declared.ReadAnswer.{ReadAnswer}
use Rattle.machine.specs.Heap.{Heap}
use Rattle.machine.specs.Answers.{Given}
use Rattle.machine.specs.Read.{read}
use Rattle.machine.specs.Field.{field_block, read_field, store_field_number, store_field_reference}

abbrev pub reads_as : ℕ → ℕ → ReadAnswer
reads_as v r = record { refusal = 0; value = v; units = 0; reference = r }

abbrev pub NumberReadsBack : Type 0
NumberReadsBack =
    (h : Heap) (b k v : ℕ) → (store_field_number b k v h).answer.refusal ≡ 0 → (read_field b k (store_field_number b k v h).heap).answer ≡ reads_as v 0

abbrev pub ReferenceReadsBack : Type 0
ReferenceReadsBack =
    (h : Heap) (b k t : ℕ) → (store_field_reference b k t h).answer.refusal ≡ 0 → (read_field b k (store_field_reference b k t h).heap).answer ≡ reads_as t 1

abbrev pub Apart : Heap → ℕ → ℕ → ℕ → ℕ → Type 0
Apart h b k a j = field_block (j / 7) a h ≡ field_block (k / 7) b h → j % 7 ≢ k % 7

-- the store of the value v in field k of the object at b
abbrev pub FieldsStay : (ℕ → ℕ → ℕ → Heap → Given) → Type 0
FieldsStay store = (h : Heap) (b k v a j : ℕ) → Apart h b k a j → (read_field a j (store b k v h).heap).answer ≡ (read_field a j h).answer

abbrev pub WordsStay : (ℕ → ℕ → ℕ → Heap → Given) → Type 0
WordsStay store =
    (h : Heap) (b k v a w : ℕ) → (a ≡ field_block (k / 7) b h → w ≢ k % 7) → (read a w (store b k v h).heap).answer ≡ (read a w h).answer

abbrev pub Straight : Heap → ℕ → ℕ → Type 0
Straight h b n = (i j : ℕ) → i < n → j < n → field_block i b h ≡ field_block j b h → i ≡ j

abbrev pub FieldsApart : Type 0
FieldsApart = (h : Heap) (b n k j : ℕ) → Straight h b n → k < 7 * n → j < 7 * n → j ≢ k → Apart h b k b j
