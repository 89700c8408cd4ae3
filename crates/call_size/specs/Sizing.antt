-- The premises of demand 3 and of its sharper form, as tests.
--     enough m u k         with N = (2M + 2)/U rounded up, K + 2N ≤ M: a heap of m blocks with pace u has room for k reachable blocks
--     suffices p u k b     with N' = (K + P + 2)/U rounded up, K + 2N' + B - 1 ≤ P: p blocks with pace u are enough for k reachable ones, where no
--                          call asks for more than b blocks
--     Least u k b r        r is the fewest blocks from 1 to 16,384 that are enough, and 0 where none are
-- Both tests ask for a pace of at least 1. N is `cycles` of theory_promises/specs/Demand3.antt, N' is `short_cycles` of specs/Sharper.antt there.
-- Assumes nothing.
use Rattle.std.specs.Prelude.{ℕ, ◌+◌, ◌*◌, ◌≤◌, ◌<◌, ◌≡◌, ◌≢◌, Bool, true, false, ◌&&◌, leb}
use Rattle.theory_promises.specs.Demand3.{cycles}
use Rattle.theory_promises.specs.Sharper.{short_cycles}

unfoldable pub enough : ℕ → ℕ → ℕ → Bool
enough m u k = leb 1 u && leb (k + 2 * cycles m u) m

unfoldable pub suffices : ℕ → ℕ → ℕ → ℕ → Bool
suffices p u k b = leb 1 u && leb (k + 2 * short_cycles k p u + b) (p + 1)

pub record Least (u k b r : ℕ) : Type 0 where
  pub some : r ≢ 0 → (r ≤ 16384) × (suffices r u k b ≡ true)
  pub least : (p : ℕ) → 1 ≤ p → p < r → suffices p u k b ≡ false
  pub none : r ≡ 0 → (p : ℕ) → 1 ≤ p → p ≤ 16384 → suffices p u k b ≡ false
