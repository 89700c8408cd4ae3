-- How many fields an object has.
--     Long h b n               the object at b has n blocks
--     FieldsWithin             of its 7n fields each can be read
--     FieldsPast               any other is refused by 3
-- Assumes nothing.
use Rattle.std.specs.Prelude.{ℕ, ◌-◌, ◌*◌, ◌≤◌, ◌<◌, ◌≡◌}
use Rattle.machine.specs.Heap.{Heap}
use Rattle.machine.specs.Field.{field_block, link_refusal, walk_refusal, read_field}
use Rattle.machine.specs.WellFormed.{Block}
use Rattle.machine.specs.Ready.{Ready}

-- n - 1 links lead to its last block, whose own link is null or no reference
pub record Long (h : Heap) (b n : ℕ) : Type 0 where
  pub ready : Ready h
  pub block : Block h.regs.blocks b
  pub some : 1 ≤ n
  pub most : n ≤ 256
  pub walks : walk_refusal (n - 1) b h ≡ 0
  pub ends : link_refusal (field_block (n - 1) b h) h ≡ 3

abbrev pub FieldsWithin : Type 0
FieldsWithin = (h : Heap) (b n k : ℕ) → Long h b n → k < 7 * n → (read_field b k h).answer.refusal ≡ 0

abbrev pub FieldsPast : Type 0
FieldsPast = (h : Heap) (b n k : ℕ) → Long h b n → 7 * n ≤ k → (read_field b k h).answer.refusal ≡ 3
