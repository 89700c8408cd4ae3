-- A path's words as one number, in base 8 behind a 1: the shorter path has the smaller number, and of two equally short ones the one
-- with the smaller words from the root on.
--     Small ps             no word of ps is above 7;     small_leads: no word of a path is
--     code_from c ps        the words of ps behind the number c
--     code_low             it is at least c
--     code_shorter         a shorter path has a smaller number
--     code_order           of equally long ones, the number in front decides
--     code_words           of equally long ones, the one with the smaller number has no larger words, from the first pair on
-- Assumes nothing.
use Prim.Native.Nat.{ℕ, ◌+◌, ◌*◌, ◌≤◌, ◌<◌}
use mathlib.Core.Path.{◌≡◌}
use mathlib.Core.List.{List, [], ◌∷◌}
use native.Mathlib.Omega.{arith}
use lib.ListN.{length}
use Rattle.machine.specs.Search.{Hop}
use Rattle.machine.proofs.Tests.{by_eq}
use Rattle.theory_search.specs.Leads.{Leads, here, hop, NoLater, over, sooner, alike}

pub data Small : List Hop → Type 0 where
  none : Small []
  more : {p : Hop} {ps : List Hop} → p.word ≤ 7 → Small ps → Small (p ∷ ps)

pub small_leads : {m : ℕ} {names : ℕ → ℕ → ℕ} {a b : ℕ} {ps : List Hop} → Leads m names a ps b → Small ps
small_leads (here e l) = none
small_leads (hop e l g n d) = more g (small_leads d)

unfoldable pub code_from : ℕ → List Hop → ℕ
code_from c [] = c
code_from c (p ∷ ps) = code_from (8 * c + p.word) ps

pub code_low : (c : ℕ) (ps : List Hop) → c ≤ code_from c ps
unfolding code_from
code_low c [] = omega arith
code_low c (p ∷ ps) = omega (arith, code_low (8 * c + p.word) ps)

pub code_shorter :
    (a b : ℕ) (ps : List Hop) {qs : List Hop} → Small qs → b < 8 * a → length qs < length ps
    → code_from b qs < code_from a ps
unfolding code_from
code_shorter a b [] s l g = absurd (omega arith)
code_shorter a b (p ∷ ps) none l g = omega (arith, code_low (8 * a + p.word) ps)
code_shorter a b (p ∷ ps) (more {p = q} h s) l g =
    code_shorter (8 * a + p.word) (8 * b + q.word) ps s (omega arith) (omega arith)

pub code_order :
    (a b : ℕ) (ps : List Hop) {qs : List Hop} → Small qs → length ps ≡ length qs → code_from a ps ≤ code_from b qs
    → a ≤ b
unfolding code_from
code_order a b [] none e l = l
code_order a b [] (more h s) e l = absurd (omega arith)
code_order a b (p ∷ ps) none e l = absurd (omega arith)
code_order a b (p ∷ ps) (more {p = q} h s) e l =
    omega (arith, code_order (8 * a + p.word) (8 * b + q.word) ps s (omega arith) l)

pub code_words :
    (a : ℕ) (ps : List Hop) {qs : List Hop} → Small qs → length ps ≡ length qs → code_from a ps ≤ code_from a qs
    → NoLater ps qs
unfolding code_from
code_words a [] s e l = over
code_words a (p ∷ ps) none e l = absurd (omega arith)
code_words a (p ∷ ps) (more {p = q} h s) e l =
    let first = code_order (8 * a + p.word) (8 * a + q.word) ps s (omega arith) l in
    by_eq p.word q.word
    (λ z. alike z (code_words (8 * a + p.word) ps s (omega arith) (rw (← z) at l)))
    (λ z. sooner (omega arith))
