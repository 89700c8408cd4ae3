-- The words of a chain of blocks, as the code copies them: seven a block, and word 7 leads to the next.
--     Within b ws          b's eight words are within ws
--     Chained j b ws       j links from b on, each block's words are within ws
--     chain_words j n b ws  n words of such a chain: seven of each block but the last
-- Assumes nothing.
use Rattle.std.specs.Prelude.{ℕ, zero, suc, ◌+◌, ◌-◌, ◌≤◌, List, ◌++◌, length, take, drop}
use Rattle.machine.specs.Block.{base, word_of}
use Rattle.machine.specs.Chain.{link}

pub record Within (b : ℕ) (ws : List ℕ) : Type 0 where
  pub low : 2 ≤ b
  pub high : base b + 8 ≤ length ws

pub data Chained : ℕ → ℕ → List ℕ → Type 0 where
  last : {b : ℕ} {ws : List ℕ} → Within b ws → Chained 0 b ws
  more : {j b : ℕ} {ws : List ℕ} → Within b ws → Chained j (word_of ws b link) ws → Chained (suc j) b ws

unfoldable pub chain_words : ℕ → ℕ → ℕ → List ℕ → List ℕ
chain_words zero n b ws = take n (drop (base b) ws)
chain_words (suc j) n b ws = take 7 (drop (base b) ws) ++ chain_words j (n - 7) (word_of ws b link) ws
