-- The tests that need no look at a block: refusals 1 to 4.
--     fits m u lw lc lb    M, pace and the buffers' lengths fit
--     heap_fits h           the same of a heap's own
--     legal r              the registers are legal
--     entry h              refusals 1 and 2, which every call but Format tests first
--     word_refusal m b w    refusal 3 for a block and a word
--     holder_place m b w    refusal 3 for Allocate, which also takes 0, 0 for the root
--     target_place m t      refusal 4
-- Assumes nothing.
use Rattle.std.specs.Prelude.{ℕ, ◌+◌, ◌*◌, Bool, ◌&&◌, ◌||◌, leb, eqb, length, if◌then◌else◌}
use Rattle.machine.specs.declared.Regs.{Regs}
use Rattle.machine.specs.Tests.{◌▷◌}
use Rattle.machine.specs.Registers.{sweeping, sweep_end}
use Rattle.machine.specs.Block.{is_block}
use Rattle.machine.specs.Colouring.{colours_fit, head_legal}
use Rattle.machine.specs.Heap.{Heap}

-- "M blocks, 1 to 16,384"; "pace U (0 to 65,535)"
unfoldable pub numbers_fit : ℕ → ℕ → Bool
numbers_fit m u = leb 1 m && (leb m 16384 && leb u 65535)

-- "Three lent buffers of exactly these lengths: words (8M of 32 bits), colours (M of 32 bits), reference bytes (M)."
unfoldable pub lengths_fit : ℕ → ℕ → ℕ → ℕ → Bool
lengths_fit m lw lc lb = eqb lw (8 * m) && (colours_fit m lc && eqb lb m)

unfoldable pub fits : ℕ → ℕ → ℕ → ℕ → ℕ → Bool
fits m u lw lc lb = numbers_fit m u && lengths_fit m lw lc lb

abbrev pub heap_fits : Heap → Bool
heap_fits h = fits h.regs.blocks h.regs.pace (length h.words) (length h.colours) (length h.bytes)

-- "0 or a block"
unfoldable pub is_block_or_none : ℕ → ℕ → Bool
is_block_or_none m b = eqb b 0 || is_block m b

-- "a mark outside 1 to M + 1"
unfoldable pub mark_legal : Regs → Bool
mark_legal r = leb 1 r.mark && leb r.mark (r.blocks + 1)

-- "position is 2 to M + 1 while sweeping, else 0"; "a position above the mark while sweeping"
unfoldable pub position_legal : Regs → Bool
position_legal r =
    if eqb r.phase sweeping then leb 2 r.position && leb r.position (sweep_end r) else eqb r.position 0

-- "Registers are legal when: phase is at most 2; grey head is 1, or while marking 1 or a block; free head and root are 0 or a block;
-- free count is at most M; position is 2 to M + 1 while sweeping, else 0. Any cycle number is legal." "2 also covers a mark outside 1 to
-- M + 1, and a position above the mark while sweeping."
unfoldable pub legal : Regs → Bool
legal r =
    leb r.phase 2
    && (head_legal r.blocks r.phase r.grey
    && (is_block_or_none r.blocks r.free
    && (is_block_or_none r.blocks r.root
    && (leb r.count r.blocks && (mark_legal r && position_legal r)))))

-- 1: "M, U or a buffer length does not fit"; 2: "registers not legal"
unfoldable pub entry : Heap → ℕ
entry h = (if heap_fits h then 0 else 1) ▷ (if legal h.regs then 0 else 2)

-- 3: "block not 2 to M + 1 .., or word above 7"
unfoldable pub word_refusal : ℕ → ℕ → ℕ → ℕ
word_refusal m b w = if is_block m b && leb w 7 then 0 else 3

-- 3: "(Allocate also takes block 0, with word 0 only)"
unfoldable pub holder_place : ℕ → ℕ → ℕ → ℕ
holder_place m b w = if eqb b 0 && eqb w 0 then 0 else word_refusal m b w

-- 4: "target neither 0 nor a block"
unfoldable pub target_place : ℕ → ℕ → ℕ
target_place m t = if is_block_or_none m t then 0 else 4
