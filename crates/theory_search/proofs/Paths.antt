-- The path told to a block that was found.
--     starts               a path starts at a block
--     walked               a path from a block found leads to a block found, whose number is no larger than the path's
--     Told, told           the path told leads from the root to x, its number is that of x, and it has fewer pairs than there are blocks
-- The path is put together from its end. The blocks put in front have ever smaller numbers, so they are ever other blocks, and m pairs
-- are enough.
-- Assumes nothing.
use Prim.Native.Nat.{ℕ, zero, suc, ◌+◌, ◌*◌, ◌/◌, ◌%◌, ◌≤◌, ◌<◌}
use mathlib.Core.Path.{◌≡◌, refl, sym}
use mathlib.Core.List.Memᴰ
use mathlib.Core.List.{List, [], ◌∷◌}
use mathlib.Core.Logic.{⊎_elim}
use native.Mathlib.Omega.{arith}
use lib.ListN.{length}
use borrow.Author.Tests.{le-leb, lt-leb}
use Rattle.machine.specs.WellFormed.{Block}
use Rattle.machine.specs.Search.{Found, Hop, came_to, last_hop, path_from, path_to}
use Rattle.theory_reach.specs.Listed.{In}
use Rattle.theory_search.specs.Leads.{Leads, here, hop}
use Rattle.theory_search.proofs.Coding.{code_from}
use Rattle.theory_search.proofs.Rising.{Rising, none, next, rising_in, rising_distinct}
use Rattle.theory_search.proofs.Visiting.{Came, as_root, by_word, Met}
use Rattle.theory_search.proofs.Finding.{few, Done}

pub starts : {m : ℕ} {names : ℕ → ℕ → ℕ} {a b : ℕ} {ps : List Hop} → Leads m names a ps b → Block m a
starts (here e l) = l
starts (hop e l h n d) = l

-- the pairs ps lead from the root to y, and have the number n
pub record Told (m root : ℕ) (names : ℕ → ℕ → ℕ) (y n : ℕ) (ps : List Hop) : Type 0 where
  pub leads : Leads m names root ps y
  pub number : code_from 1 ps ≡ n
  pub short : length ps < m

module _ {m root : ℕ} {names : ℕ → ℕ → ℕ} {f : Found} (done : Done m root names f) where
  abbrev code : ℕ → ℕ
  code = done.codes

  pub walked :
      {a b : ℕ} {ps : List Hop} (c : ℕ) → Leads m names a ps b → In a f.blocks → code a ≤ c
      → Met code f b (code_from c ps)
  unfolding code_from
  walked c (here e l) i h = record { known = Memᴰ.cast (sym e) i; small = rw (← e) h }
  walked {a} {ps = p ∷ ps} c (hop {x = x} e l h n d) i k =
      let q = done.going.looked a p.word x i h n (starts d) (omega (arith, done.whole a i)) in
      walked (8 * c + p.word) d q.known (omega (arith, q.small))

  blocks :
      (x : ℕ) (bs : List ℕ) → In x f.blocks → ((b : ℕ) → In b bs → Block m b)
      → (b : ℕ) → In b (x ∷ bs) → Block m b
  blocks x bs i k b j = ⊎_elim (λ (z : b ≡ x). rw z (done.going.inside x i)) (λ z. k b z) (Memᴰ.cases_cons j)

  -- x and the blocks bs, whose numbers are larger, are no more than there are
  room :
      (x : ℕ) (bs : List ℕ) → In x f.blocks → Rising code (code x + 1) bs done.most → ((b : ℕ) → In b bs → Block m b)
      → length bs < m
  room x bs i r k = omega (arith, few m (rising_distinct (next {lo = code x} {x = x} (omega arith) r)) (blocks x bs i k))

  -- the path to x, and behind it the pairs ps; bs are the blocks that ps come to
  from : {y : ℕ} (n x : ℕ) (ps : List Hop) (bs : List ℕ)
      → In x f.blocks
      → Leads m names x ps y → length ps ≡ length bs
      → Rising code (code x + 1) bs done.most → ((b : ℕ) → In b bs → Block m b)
      → m ≤ n + length bs
      → Told m root names y (code_from (code x) ps) (path_from n f.came x ps)
  unfolding path_from code_from
  from zero x ps bs i d e r k l = absurd (omega (arith, room x bs i r k))
  from {y} (suc n) x ps bs i d e r k l =
      go
      (λ b j t d. from n b (last_hop f.came x ∷ ps) (x ∷ bs) j d (omega arith)
      (next {lo = code b + 1} {x = x} (omega arith) r) (blocks x bs i k) (omega arith))
      (done.going.came x i)
    where
      -- the same with a pair more in front, which comes from the block b
      go :
          ((b : ℕ) → In b f.blocks → code b < code x → Leads m names b (last_hop f.came x ∷ ps) y
          → Told m root names y (code_from (code b) (last_hop f.came x ∷ ps)) (path_from n f.came b (last_hop f.came x ∷ ps)))
          → Came root names code f x
          → Told m root names y (code_from (code x) ps) (path_from (suc n) f.came x ps)
      go on (as_root z c t) =
          rw (le-leb (came_to f.came x) 1 (omega arith))
          (record { leads = rw z at d; number = rw t refl; short = omega (arith, room x bs i r k) })
      go on (by_word b w j h z c t) =
          let low = (done.going.inside b j).low in
          let at : came_to f.came x / 8 ≡ b = omega arith in
          let by : came_to f.came x % 8 ≡ w = omega arith in
          let number : 8 * code (came_to f.came x / 8) + came_to f.came x % 8 ≡ code x = rw (at, by) (sym t) in
          rw (lt-leb (came_to f.came x) 1 (omega arith), ← number)
          (on (came_to f.came x / 8) (Memᴰ.cast at j)
          (rw at (omega (arith, (rising_in done.going.rising j).0)))
          (hop refl (rw at (done.going.inside b j)) (omega arith) (rw (at, by) z) d))

  pub told : (x : ℕ) → In x f.blocks → Told m root names x (code x) (path_to m f.came x)
  unfolding code_from
  told x i =
      let above = (rising_in done.going.rising i).1 in
      from m x [] [] i (here refl (done.going.inside x i)) refl
      (none {lo = code x + 1} {hi = done.most} (omega arith)) (λ b j. absurd (Memᴰ.not-nil j)) (omega arith)
