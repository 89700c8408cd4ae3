-- What the call answers on every input, and what it leaves in the lent buffers.
--     Lent                 the lent buffers
--     Room h l             they are long enough for the heap h
--     Refuses n l g        g refuses by n, and every buffer is as it was
--     Tells b h l g        g tells the reason; the path is in its buffer, and all else in the buffers is 0
--     WhyAnswers l b h     which of them holds of the call, by the first test that fails
-- Assumes nothing.
use Rattle.std.specs.Prelude.{ℕ, ◌*◌, ◌-◌, ◌≤◌, ◌≡◌, true, false, List, ◌++◌, length, replicate, Ok, Err}
use Rattle.machine.specs.Heap.{Heap}
use Rattle.machine.specs.Entry.{heap_fits}
use Rattle.machine.specs.WellFormed.{Block, WellFormed}
use Rattle.machine.specs.Search.{path_numbers}
use Rattle.machine.specs.Why.{path_of, reason_of, WhyGiven, why}

pub record Lent : Type 0 where
  pub path : List ℕ
  pub queue : List ℕ
  pub came : List ℕ

abbrev pub why_lent : Lent → ℕ → Heap → WhyGiven
why_lent l b h = why l.path l.queue l.came b h

-- "13 when the lent buffers are shorter than M entries": an entry of the path is a pair, two numbers
pub record Room (h : Heap) (l : Lent) : Type 0 where
  pub path : 2 * h.regs.blocks ≤ length l.path
  pub queue : h.regs.blocks ≤ length l.queue
  pub came : h.regs.blocks ≤ length l.came

-- "Refusals .. changing no buffer"
pub record Refuses (n : ℕ) (l : Lent) (g : WhyGiven) : Type 0 where
  pub answer : g.answer ≡ Err n
  pub path : g.path ≡ l.path
  pub queue : g.queue ≡ l.queue
  pub came : g.came ≡ l.came

-- "a path .. kept in a lent buffer"; "Path entries past the path and all working buffers end as 0."
pub record Tells (b : ℕ) (h : Heap) (l : Lent) (g : WhyGiven) : Type 0 where
  pub answer : g.answer ≡ Ok (record { reason = reason_of h b })
  pub fits : 2 * length (path_of h b) ≤ length l.path
  pub path : g.path ≡ path_numbers (path_of h b) ++ replicate (length l.path - 2 * length (path_of h b)) 0
  pub queue : g.queue ≡ replicate (length l.queue) 0
  pub came : g.came ≡ replicate (length l.came) 0

-- "Refusals, in order, changing no buffer: 1; 10 for a heap not accepted; 3 for the block; 13 when the lent buffers are shorter"
pub record WhyAnswers (l : Lent) (b : ℕ) (h : Heap) : Type 0 where
  pub unfit : heap_fits h ≡ false → Refuses 1 l (why_lent l b h)
  pub unaccepted : heap_fits h ≡ true → (WellFormed h → ⊥) → Refuses 10 l (why_lent l b h)
  pub no_block : WellFormed h → (Block h.regs.blocks b → ⊥) → Refuses 3 l (why_lent l b h)
  pub cramped : WellFormed h → Block h.regs.blocks b → (Room h l → ⊥) → Refuses 13 l (why_lent l b h)
  pub tells : WellFormed h → Block h.regs.blocks b → Room h l → Tells b h l (why_lent l b h)
