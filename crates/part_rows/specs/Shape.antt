-- What the rows of a list are.
--     Shape                what an export has to know of a heap's rows
--     Sound s              where a row can be read, it is as wide as the shape says, and its block is not 0
-- Assumes nothing.
use Rattle.std.specs.Prelude.{ℕ, ◌≡◌, ◌≢◌, List, length}
use Rattle.machine.specs.declared.ReadAnswer.{ReadAnswer}

pub record Shape : Type 0 where
  -- words a row
  pub width : ℕ
  -- a heap of M blocks has lists of at most M rows
  pub most : ℕ
  -- by the number of a row's block: what reading the row answers of its link, and the row's words
  pub link : ℕ → ReadAnswer
  pub row : ℕ → List ℕ

pub record Sound (s : Shape) : Type 0 where
  pub wide : (b : ℕ) → (s.link b).refusal ≡ 0 → length (s.row b) ≡ s.width
  pub some : (b : ℕ) → (s.link b).refusal ≡ 0 → b ≢ 0
