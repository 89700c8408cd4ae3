-- Linked lists of blocks, and counts of blocks.
--     all_from p n b, count_from p n b     p holds of n blocks from b on; of how many of them it holds
--     walk p next end n a  n steps from a on, by next, meet only what p holds of, and lead to end
--     Listed next end a l  from a on, by next, the list is l and ends at end
--     Distinct l           no number stands twice in l
--     Exactly P next end a the list from a on ends, and has exactly the blocks of which P holds
-- Assumes nothing.
use Rattle.std.specs.Prelude.{ℕ, zero, suc, ◌+◌, ◌≡◌, ◌↔◌, ◌≢◌, Bool, true, ◌&&◌, eqb, if◌then◌else◌}
use mathlib.Core.List.{List, [], ◌∷◌, Memᴰ}

unfoldable pub all_from : (ℕ → Bool) → ℕ → ℕ → Bool
all_from p zero b = true
all_from p (suc n) b = p b && all_from p n (b + 1)

unfoldable pub count_from : (ℕ → Bool) → ℕ → ℕ → ℕ
count_from p zero b = 0
count_from p (suc n) b = (if p b then 1 else 0) + count_from p n (b + 1)

unfoldable pub walk : (ℕ → Bool) → (ℕ → ℕ) → ℕ → ℕ → ℕ → Bool
walk p next end zero a = eqb a end
walk p next end (suc n) a = p a && walk p next end n (next a)

pub data Listed (next : ℕ → ℕ) (end : ℕ) : ℕ → List ℕ → Type 0 where
  ends : {a : ℕ} → a ≡ end → Listed next end a []
  goes : {a : ℕ} {l : List ℕ} → a ≢ end → Listed next end (next a) l → Listed next end a (a ∷ l)

pub record Exactly (P : ℕ → Type 0) (next : ℕ → ℕ) (end a : ℕ) : Type 0 where
  pub blocks : List ℕ
  pub listed : Listed next end a blocks
  pub members : (b : ℕ) → Memᴰ b blocks ↔ P b

pub data Distinct : List ℕ → Type 0 where
  empty : Distinct []
  more : {a : ℕ} {l : List ℕ} → (Memᴰ a l → ⊥) → Distinct l → Distinct (a ∷ l)
