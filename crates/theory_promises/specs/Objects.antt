-- For people who use objects: what a new chain reads, on a well-formed heap.
--     reads v r            Read's and Read field's answer: the value v, a reference where r is 1
--     FreshChain n x h     from x on there is a chain of n blocks, as it is when it is new
--     FreshChains          every chain that was allocated is so
-- Assumes nothing.
use Rattle.std.specs.Prelude.{ℕ, ◌+◌, ◌*◌, ◌≤◌, ◌<◌, ◌≡◌}
use Rattle.machine.specs.declared.ReadAnswer.{ReadAnswer}
use Rattle.machine.specs.Heap.{Heap}
use Rattle.machine.specs.Read.{read, read_refused}
use Rattle.machine.specs.Chain.{link, allocate_chain}
use Rattle.machine.specs.Field.{field_block, read_field}
use Rattle.machine.specs.WellFormed.{WellFormed}

abbrev pub reads : ℕ → ℕ → ReadAnswer
reads v r = record { refusal = 0; value = v; units = 0; reference = r }

pub record FreshChain (n x : ℕ) (h : Heap) : Type 0 where
  -- "words 0 to 6 hold fields": all of them 0, and no references
  pub fields : (k : ℕ) → k < 7 * n → (read_field x k h).answer ≡ reads 0 0
  -- and no field beyond them
  pub past : (k : ℕ) → 7 * n ≤ k → (read_field x k h).answer ≡ read_refused 3
  -- "word 7 is the reference to the next block, null at the end"
  pub links : (j : ℕ) → j + 1 < n → (read (field_block j x h) link h).answer ≡ reads (field_block (j + 1) x h) 1
  pub ends : (j : ℕ) → j + 1 ≡ n → (read (field_block j x h) link h).answer ≡ reads 0 1

abbrev pub FreshChains : Type 0
FreshChains =
    (h : Heap) → WellFormed h → (b w n : ℕ) → (allocate_chain b w n h).answer.refusal ≡ 0
    → FreshChain n (allocate_chain b w n h).answer.value (allocate_chain b w n h).heap
