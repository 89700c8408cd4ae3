-- What can be reached from a root along references.
--     Reach root ref x     x is the root, or a word of a reachable block names x; 0 is no block
-- ref b w is the block that word w of block b names, or 0.
-- Assumes nothing.
use Rattle.std.specs.Prelude.{ℕ, ◌≡◌, ◌≢◌}

pub data Reach (root : ℕ) (ref : ℕ → ℕ → ℕ) : ℕ → Type 0 where
  at_root : {x : ℕ} → x ≡ root → x ≢ 0 → Reach root ref x
  along : {b x : ℕ} (w : ℕ) → Reach root ref b → ref b w ≡ x → x ≢ 0 → Reach root ref x
