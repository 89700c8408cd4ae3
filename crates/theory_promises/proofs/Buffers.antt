-- What a store into a buffer leaves of each block's words and byte.
--     byte_set, byte_kept      the reference byte of the block written, and of any other
--     word_set, word_kept      the same of a word
--     eight_set, eight_kept    the same of a block's eight words
-- Assumes nothing.
use Prim.Native.Nat.{ℕ, ◌+◌, ◌-◌, ◌*◌, ◌≤◌}
use mathlib.Core.Path.{◌≡◌, sym, ◌∙◌, ap}
use mathlib.Core.Logic.{◌≢◌, ◌⊎◌, ⊎_elim}
use mathlib.Core.List.{List, ◌++◌}
use native.Mathlib.Omega.{arith}
use lib.ListN.{length, get_or, set, take, drop, get_or-append}
use lib.Seq.{get_or-set_same, get_or-set_other, get_or-take, get_or-drop, get_or-append-add, length-take-le}
use Rattle.machine.specs.Block.{index, base, place, word_of, byte_of, with_eight}
use Rattle.machine.specs.WellFormed.{Block}
use Rattle.theory_reach.proofs.Splits.{by_le}

module _ {m : ℕ} {b : ℕ} (l : Block m b) where
  pub byte_set : (bs : List ℕ) (x : ℕ) → length bs ≡ m → byte_of (set bs (index b) x) b ≡ x
  byte_set bs x e = get_or-set_same bs (b - 2) x 0 (omega arith)

  pub byte_kept : (bs : List ℕ) (x c : ℕ) → Block m c → c ≢ b → byte_of (set bs (index b) x) c ≡ byte_of bs c
  byte_kept bs x c k n = get_or-set_other bs (b - 2) (c - 2) x 0 (omega arith)

  pub word_set : (ws : List ℕ) (w v : ℕ) → length ws ≡ 8 * m → w ≤ 7 → word_of (set ws (place b w) v) b w ≡ v
  word_set ws w v e o = get_or-set_same ws (place b w) v 0 (omega arith)

  pub word_kept : (ws : List ℕ) (w v c u : ℕ) → w ≤ 7 → u ≤ 7 → Block m c → (c ≢ b) ⊎ (u ≢ w) → word_of (set ws (place b w) v) c u ≡ word_of ws c u
  word_kept ws w v c u o p k n = get_or-set_other ws (place b w) (place c u) v 0 (⊎_elim (λ x. omega arith) (λ x. omega arith) n)

  module _ (ws part : List ℕ) (e : length ws ≡ 8 * m) (eight : length part ≡ 8) where
    pub eight_set : (u : ℕ) → u ≤ 7 → word_of (with_eight ws b part) b u ≡ get_or part u 0
    unfolding with_eight
    eight_set u o =
        let t : length (take (base b) ws) ≡ base b = length-take-le (base b) ws (omega arith) in
        (ap (λ (n : ℕ). get_or (take (base b) ws ++ (part ++ drop (base b + 8) ws)) (n + u) 0) (sym t)
        ∙ get_or-append-add (take (base b) ws) (part ++ drop (base b + 8) ws) u 0
        ∙ get_or-append part (drop (base b + 8) ws) 0 u (omega arith))

    pub eight_kept : (c u : ℕ) → u ≤ 7 → Block m c → c ≢ b → word_of (with_eight ws b part) c u ≡ word_of ws c u
    unfolding with_eight
    eight_kept c u o k n =
        let t : length (take (base b) ws) ≡ base b = length-take-le (base b) ws (omega arith) in
        by_le (c + 1) b
        (λ below. get_or-append (take (base b) ws) (part ++ drop (base b + 8) ws) 0 (place c u) (omega arith) ∙ get_or-take (base b) ws (place c u) 0 (omega arith))
        (λ above.
        let d : place c u ≡ length (take (base b) ws) + (length part + (place c u - (base b + 8))) = omega arith in
        (ap (λ (i : ℕ). get_or (take (base b) ws ++ (part ++ drop (base b + 8) ws)) i 0) d
        ∙ get_or-append-add (take (base b) ws) (part ++ drop (base b + 8) ws) (length part + (place c u - (base b + 8))) 0
        ∙ get_or-append-add part (drop (base b + 8) ws) (place c u - (base b + 8)) 0
        ∙ get_or-drop (base b + 8) ws (place c u - (base b + 8)) 0
        ∙ ap (λ (i : ℕ). get_or ws i 0) (omega arith)))
