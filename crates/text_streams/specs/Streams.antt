-- Lines of a stream of bytes.
-- Document 01: "A line ends at byte 10, which isn't counted in it, or at the end of input".
--     line_of xs            the bytes up to the first byte 10, or all
--     CutOut               what a cut does: a line of which so many bytes are kept goes on with the bytes up to byte 10
-- Assumes nothing.
use Rattle.std.specs.Prelude.{ℕ, ◌+◌, ◌≤◌, ◌≡◌, List, [], ◌∷◌, ◌++◌, eqb, ltb, length, take, drop, if◌then◌else◌}
use Rattle.text_streams.specs.declared.cutting.Cut.{Cut}

unfoldable pub line_of : List ℕ → List ℕ
line_of [] = []
line_of (x ∷ xs) = if eqb x 10 then [] else x ∷ line_of xs

-- the line's buffer keeps as many of its bytes as it can hold
pub record CutOut (input : List ℕ) (from : ℕ) (line : List ℕ) (kept : ℕ) (r : Cut) (after : List ℕ) : Type 0 where
  pub ended : r.ended ≡ ltb (from + length (line_of (drop from input))) (length input)
  pub place : r.at ≡ from + length (line_of (drop from input)) + (if r.ended then 1 else 0)
  pub within : r.at ≤ length input
  pub fits : r.length ≤ length after
  pub bytes : take r.length after ≡ take (length line) (take kept line ++ line_of (drop from input))
