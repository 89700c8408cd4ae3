-- What a search leaves behind, as facts about numbers: what the code that searches, and the code that reads a path off it, rely on.
--     non_zeros ns          how many of the numbers aren't 0
--     Ways m came          whatever was come to by a word was come to from a block
--     Searched m f         what holds of f at every step of a search among m blocks
-- Assumes nothing.
use Rattle.std.specs.Prelude.{ℕ, zero, suc, ◌/◌, ◌<◌, ◌≡◌, List, [], ◌∷◌, get_or, length}
use Rattle.machine.specs.WellFormed.{Block}
use Rattle.machine.specs.Search.{Found}

unfoldable pub non_zeros : List ℕ → ℕ
non_zeros [] = 0
non_zeros (zero ∷ ns) = non_zeros ns
non_zeros (suc n ∷ ns) = suc (non_zeros ns)

abbrev pub Ways : ℕ → List ℕ → Type 0
Ways m came = (i : ℕ) → 1 < get_or came i 0 → Block m (get_or came i 0 / 8)

-- each block found has an entry of its own that isn't 0, so no more blocks are found than there are entries
pub record Searched (m : ℕ) (f : Found) : Type 0 where
  pub entries : length f.came ≡ m
  pub counted : length f.blocks ≡ non_zeros f.came
  pub blocks : (i : ℕ) → i < length f.blocks → Block m (get_or f.blocks i 0)
  pub ways : Ways m f.came
