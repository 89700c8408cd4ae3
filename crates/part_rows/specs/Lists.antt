-- Lists on the heap, as a relation.
--     Leads s b next       the row of b can be read, and its link is a reference to next
--     Along s b bs c       from b on, the blocks bs each lead to the next, and the last leads to c
--     Listed s b bs        the list from b on is the blocks bs: the last leads to 0
--     rows_of s bs          the rows of these blocks, in their order
-- "from the start every block met can be read .., its link word is a reference, null is met after n blocks"
-- Assumes nothing.
use Rattle.std.specs.Prelude.{ℕ, ◌≡◌, List, [], ◌∷◌, ◌++◌}
use Rattle.part_rows.specs.Shape.{Shape}

pub record Leads (s : Shape) (b next : ℕ) : Type 0 where
  pub readable : (s.link b).refusal ≡ 0
  pub reference : (s.link b).reference ≡ 1
  pub value : (s.link b).value ≡ next

pub data Along (s : Shape) : ℕ → List ℕ → ℕ → Type 0 where
  here : {b c : ℕ} → b ≡ c → Along s b [] c
  past : {b next c : ℕ} {bs : List ℕ} → Leads s b next → Along s next bs c → Along s b (b ∷ bs) c

abbrev pub Listed : Shape → ℕ → List ℕ → Type 0
Listed s b bs = Along s b bs 0

unfoldable pub rows_of : Shape → List ℕ → List ℕ
rows_of s [] = []
rows_of s (b ∷ bs) = s.row b ++ rows_of s bs
