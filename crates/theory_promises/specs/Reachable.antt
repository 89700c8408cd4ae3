-- Reachable blocks, and blocks that are freed.
--     Reachable h b        "A block is reachable if it is the root or if a reference word of a reachable block names it."
--     IsFree h b           the block b is free
--     SameWord h k b w     word w of b and its reference bit are in k what they are in h
-- Assumes nothing.
use Rattle.std.specs.Prelude.{ℕ, ◌≡◌, ◌≢◌}
use Rattle.machine.specs.declared.Colour.TheVariants.{Free}
use Rattle.machine.specs.Block.{word_of, byte_of, bit}
use Rattle.machine.specs.Heap.{Heap}
use Rattle.machine.specs.WellFormed.{Coloured, Names}

pub data Reachable (h : Heap) : ℕ → Type 0 where
  is_root : {b : ℕ} → b ≡ h.regs.root → b ≢ 0 → Reachable h b
  is_named : {a b : ℕ} → Reachable h a → Names h a b → b ≢ 0 → Reachable h b

abbrev pub IsFree : Heap → ℕ → Type 0
IsFree h b = Coloured h Free b

pub record SameWord (h k : Heap) (b w : ℕ) : Type 0 where
  pub word : word_of k.words b w ≡ word_of h.words b w
  pub bit : bit (byte_of k.bytes b) w ≡ bit (byte_of h.bytes b) w
