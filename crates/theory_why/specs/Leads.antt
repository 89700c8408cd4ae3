-- Paths in a heap.
--     Pair h a p x         the pair p is a reference word of a, and names x
--     Leads h a ps b       the pairs ps lead from a to b, each naming the next block
--     NoLater ps qs        the words of ps are not larger than those of qs, from the first pair on
-- Assumes nothing.
use Rattle.std.specs.Prelude.{ℕ, ◌≤◌, ◌≡◌, ◌≢◌, true, List, [], ◌∷◌}
use Rattle.machine.specs.Block.{word_of, byte_of, bit}
use Rattle.machine.specs.Heap.{Heap}
use Rattle.machine.specs.Search.{Hop}
pub use Rattle.theory_search.specs.Leads.{NoLater}

-- "(block, word) pairs"
pub record Pair (h : Heap) (a : ℕ) (p : Hop) (x : ℕ) : Type 0 where
  pub block : p.block ≡ a
  pub low : p.word ≤ 7
  pub set : bit (byte_of h.bytes a) p.word ≡ true
  pub holds : word_of h.words a p.word ≡ x
  pub some : x ≢ 0

-- "a path .. from the root to it"
pub data Leads (h : Heap) : ℕ → List Hop → ℕ → Type 0 where
  here : {a b : ℕ} → a ≡ b → Leads h a [] b
  hop : {a b x : ℕ} {p : Hop} {ps : List Hop} → Pair h a p x → Leads h x ps b → Leads h a (p ∷ ps) b
