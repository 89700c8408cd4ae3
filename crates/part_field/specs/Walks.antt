-- How far a walk comes.
--     Walks h n b x        a walk of n links from b on came as far as x
-- What is left of the walk refuses and finds what the whole does. Where links are left, the block may not be followed.
-- Assumes nothing.
use Rattle.std.specs.Prelude.{ℕ, ◌≡◌, ◌≢◌}
use Rattle.machine.specs.Tests.{◌▷◌}
use Rattle.machine.specs.WellFormed.{Block}
use Rattle.machine.specs.Heap.{Heap}
use Rattle.machine.specs.State.{holder_refusal}
use Rattle.machine.specs.Field.{link_refusal, walk_refusal, field_block}
use Rattle.part_field.specs.declared.Walked.{Walked}

pub record Walks (h : Heap) (n b : ℕ) (x : Walked) : Type 0 where
  pub refusal : walk_refusal n b h ≡ walk_refusal x.left x.block h
  pub block : field_block n b h ≡ field_block x.left x.block h
  pub here : Block h.regs.blocks x.block
  pub stopped : x.left ≢ 0 → holder_refusal h x.block ▷ link_refusal x.block h ≢ 0
