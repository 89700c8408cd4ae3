-- Paths: pairs of a block and a word, each naming the next block.
--     Leads m names a ps b     the pairs ps lead from a to b, through blocks alone
--     NoLater ps qs            the words of ps are not larger than those of qs, from the first pair on
-- names b w is what word w of b names. A word that names no block leads nowhere.
-- Assumes nothing.
use Rattle.std.specs.Prelude.{ℕ, ◌≤◌, ◌<◌, ◌≡◌, List, [], ◌∷◌}
use Rattle.machine.specs.WellFormed.{Block}
use Rattle.machine.specs.Search.{Hop}

-- "a path of (block, word) pairs"
pub data Leads (m : ℕ) (names : ℕ → ℕ → ℕ) : ℕ → List Hop → ℕ → Type 0 where
  here : {a b : ℕ} → a ≡ b → Block m a → Leads m names a [] b
  hop : {a b x : ℕ} {p : Hop} {ps : List Hop}
      → p.block ≡ a → Block m a → p.word ≤ 7 → names a p.word ≡ x → Leads m names x ps b
      → Leads m names a (p ∷ ps) b

-- "the smallest words from the root on": at the first pair whose words differ, that of ps is smaller
pub data NoLater : List Hop → List Hop → Type 0 where
  over : {qs : List Hop} → NoLater [] qs
  sooner : {p q : Hop} {ps qs : List Hop} → p.word < q.word → NoLater (p ∷ ps) (q ∷ qs)
  alike : {p q : Hop} {ps qs : List Hop} → p.word ≡ q.word → NoLater ps qs → NoLater (p ∷ ps) (q ∷ qs)
