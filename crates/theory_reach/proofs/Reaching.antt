-- The laws of reachability.
--     reach_some           what is reachable is not 0
--     reach_closed         a set that has the root, and with a block all that it names, has all that is reachable
--     reach_over, reach_back     reachability is the same where the roots are one and reachable blocks name the same
-- Assumes nothing.
use Prim.Native.Nat.{ℕ}
use mathlib.Core.Path.{◌≡◌, sym, ◌∙◌}
use mathlib.Core.Logic.{◌≢◌}
use Rattle.theory_reach.specs.Reaching.{Reach, at_root, along}

pub reach_some : {root : ℕ} {ref : ℕ → ℕ → ℕ} {x : ℕ} → Reach root ref x → x ≢ 0
reach_some (at_root e n) = n
reach_some (along w r e n) = n

module _ (root : ℕ) (ref : ℕ → ℕ → ℕ) where
  pub reach_closed : (P : ℕ → Type 0)
      → ((x : ℕ) → x ≡ root → x ≢ 0 → P x)
      → ((b w x : ℕ) → P b → ref b w ≡ x → x ≢ 0 → P x)
      → {x : ℕ} → Reach root ref x → P x
  reach_closed P first next (at_root {x} e n) = first x e n
  reach_closed P first next (along {b} {x} w r e n) = next b w x (reach_closed P first next r) e n

module _ (root root' : ℕ) (ref ref' : ℕ → ℕ → ℕ) (same : root' ≡ root) (agree : (b w : ℕ) → Reach root ref b → ref' b w ≡ ref b w) where
  pub reach_over : {x : ℕ} → Reach root ref x → Reach root' ref' x
  reach_over (at_root e n) = at_root (e ∙ sym same) n
  reach_over (along {b} w r e n) = along w (reach_over r) (agree b w r ∙ e) n

  pub reach_back : {x : ℕ} → Reach root' ref' x → Reach root ref x
  reach_back =
      reach_closed root' ref' (Reach root ref)
      (λ x e n. at_root (e ∙ same) n)
      (λ b w x r e n. along w r (sym (agree b w r) ∙ e) n)
