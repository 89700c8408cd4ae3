-- A search as it goes on: what holds of what is found, and that it holds after one word more and after one block more.
--     Came root names code f x     how x was come to: as the root, or by a word of a block found; and that code x is its path's number
--     Met code f x n               x is found, and its number is at most n
--     Going m root names code s f  what holds of what is found, when the words whose numbers are below s have been looked at
--     Gone .. code s f k           k is f with blocks found since, none of the old ones changed, and the words below s looked at
--     came_some                    what is found was come to
--     visited                      a block's eight words looked over
-- Word w of a block b has the number 8 · code b + w: that of the path to b, and on by w. Words are looked at in the order of these
-- numbers, because blocks are visited in the order of theirs. So a block that is found has the smallest number of any path to it, and a
-- word has been looked at exactly where its number is below s: nothing has to say how far the search has come.
-- Assumes nothing.
use Prim.Native.Nat.{ℕ, zero, suc, ◌+◌, ◌*◌, ◌≤◌, ◌<◌}
use mathlib.Core.Path.{◌≡◌, refl, sym, ◌∙◌}
use mathlib.Core.Logic.{◌≢◌, ⊎_elim}
use mathlib.Core.List.Memᴰ
use mathlib.Core.List.{List, [], ◌∷◌, ◌++◌, append-nil, append_assoc}
use native.Mathlib.Omega.{arith}
use lib.Dec.{eqb}
use lib.ListN.{length, set, length-set}
use lib.Seq.{get_or-set_same, get_or-set_other}
use borrow.Author.Tests.{eq-eqb, ne_eqb, eqb-true}
use Rattle.std.specs.Prelude.{if◌then◌else◌}
use Rattle.machine.specs.Block.{is_block, index}
use Rattle.machine.specs.WellFormed.{Block}
use Rattle.machine.specs.Search.{Found, found, came_to, meet, visit_from, visit}
use Rattle.machine.proofs.Tests.{by_test, by_eq, clash}
use Rattle.machine.proofs.Blocks.{is_block_block, block_is_block}
use Rattle.theory_reach.specs.Listed.{In}
use Rattle.theory_search.proofs.Rising.{Rising, rising_in, rising_one, rising_up, rising_on, rising_same}

pub data Came (root : ℕ) (names : ℕ → ℕ → ℕ) (code : ℕ → ℕ) (f : Found) (x : ℕ) : Type 0 where
  as_root : x ≡ root → came_to f.came x ≡ 1 → code x ≡ 1 → Came root names code f x
  by_word :
      (b w : ℕ) → In b f.blocks → w ≤ 7 → names b w ≡ x → came_to f.came x ≡ 8 * b + w → code x ≡ 8 * code b + w
      → Came root names code f x

pub record Met (code : ℕ → ℕ) (f : Found) (x n : ℕ) : Type 0 where
  pub known : In x f.blocks
  pub small : code x ≤ n

pub record Going (m root : ℕ) (names : ℕ → ℕ → ℕ) (code : ℕ → ℕ) (s : ℕ) (f : Found) : Type 0 where
  pub size : length f.came ≡ m
  -- the numbers rise along the queue
  pub rising : Rising code 1 f.blocks s
  -- what is found are blocks, those that were come to
  pub inside : (x : ℕ) → In x f.blocks → Block m x
  pub listed : (x : ℕ) → Block m x → came_to f.came x ≢ 0 → In x f.blocks
  pub came : (x : ℕ) → In x f.blocks → Came root names code f x
  -- the root is found, and whatever the words that have been looked at name
  pub begun : Block m root → Met code f root 1
  pub looked :
      (b w x : ℕ) → In b f.blocks → w ≤ 7 → names b w ≡ x → Block m x → 8 * code b + w < s
      → Met code f x (8 * code b + w)

pub record Gone (m root : ℕ) (names : ℕ → ℕ → ℕ) (code : ℕ → ℕ) (s : ℕ) (f k : Found) : Type 0 where
  pub codes : ℕ → ℕ
  pub same : (y : ℕ) → In y f.blocks → codes y ≡ code y
  pub new : List ℕ
  pub grown : k.blocks ≡ f.blocks ++ new
  pub going : Going m root names codes s k

module _ {m root : ℕ} {names : ℕ → ℕ → ℕ} where
  pub came_some :
      {code : ℕ → ℕ} {s : ℕ} {f : Found} → Going m root names code s f → (x : ℕ) → In x f.blocks
      → came_to f.came x ≢ 0
  came_some {code} {f = f} g x i z = go (g.came x i)
    where
      go : Came root names code f x → ⊥
      go (as_root e c n) = omega arith
      go (by_word b w j l e c n) = omega (arith, (g.inside b j).low)

  -- word w of b, whose number is s, names x
  module _
      {code : ℕ → ℕ} {s : ℕ} {f : Found} (g : Going m root names code s f)
      (b w : ℕ) (i : In b f.blocks) (l : w ≤ 7) (at : s ≡ 8 * code b + w)
    where
      -- a word with the number s is word w of b
      only : (c v : ℕ) → In c f.blocks → v ≤ 7 → 8 * code c + v ≡ s → (c ≡ b) × (v ≡ w)
      only c v j k e = (rising_one g.rising j i (omega arith), omega arith)

      -- a block that wasn't found yet
      module _ (x : ℕ) (named : names b w ≡ x) (fresh : came_to f.came x ≡ 0) (block : Block m x) where
        abbrev after : Found
        after = found (f.blocks ++ (x ∷ [])) (set f.came (index x) (8 * b + w))

        codes : ℕ → ℕ
        codes y = if eqb y x then s else code y

        code_here : codes x ≡ s
        unfolding codes
        code_here = simp (eq-eqb x x refl)

        apart : (y : ℕ) → In y f.blocks → y ≢ x
        apart y j e = came_some g y j (rw e fresh)

        code_there : (y : ℕ) → In y f.blocks → codes y ≡ code y
        unfolding codes
        code_there y j = simp (ne_eqb y x (apart y j))

        came_here : came_to after.came x ≡ 8 * b + w
        came_here = get_or-set_same f.came (index x) (8 * b + w) 0 (omega (arith, g.size))

        came_there : (y : ℕ) → Block m y → y ≢ x → came_to after.came y ≡ came_to f.came y
        came_there y k n = get_or-set_other f.came (index x) (index y) (8 * b + w) 0 (omega arith)

        old : {y : ℕ} → In y f.blocks → In y after.blocks
        old j = Memᴰ.append_left (x ∷ []) j

        new : In x after.blocks
        new = Memᴰ.append_right f.blocks (Memᴰ.head refl)

        -- a block found now is one found before, or x
        either : {A : Type 0} {y : ℕ} → (In y f.blocks → A) → (y ≡ x → A) → In y after.blocks → A
        either p q j = ⊎_elim p (λ k. q (Memᴰ.eq_of_singleton k)) (Memᴰ.append_cases f.blocks j)

        still : (y : ℕ) → In y f.blocks → Came root names code f y → Came root names codes after y
        still y j (as_root e c n) = as_root e (came_there y (g.inside y j) (apart y j) ∙ c) (code_there y j ∙ n)
        still y j (by_word d v k h e c n) =
            by_word d v (old k) h e (came_there y (g.inside y j) (apart y j) ∙ c) (omega (arith, code_there y j, code_there d k))

        met : {y n : ℕ} → Met code f y n → Met codes after y n
        met {y} k = record { known = old k.known; small = omega (arith, code_there y k.known) }

        looked :
            (c v y : ℕ) → In c after.blocks → v ≤ 7 → names c v ≡ y → Block m y → 8 * codes c + v < s + 1
            → Met codes after y (8 * codes c + v)
        looked c v y j h e k t =
            either
            (λ j.
            let q = code_there c j in
            by_eq (8 * code c + v) s
            (λ z.
            let o = only c v j h z in
            let e' : y ≡ x = sym e ∙ rw (o.0, o.1) named in
            rw e' (record { known = new; small = omega (arith, code_here) }))
            (λ z. rw q (met (g.looked c v y j h e k (omega arith)))))
            (λ z. absurd (omega (arith, rw z at t, code_here, (rising_in g.rising i).0)))
            j

        finds : Gone m root names code (s + 1) f after
        finds =
            record {
              codes = codes;
              same = code_there;
              new = x ∷ [];
              grown = refl;
              going = record {
                size = length-set f.came (index x) (8 * b + w) ∙ g.size;
                rising = rising_on x (rising_same g.rising code_there) (omega (arith, code_here)) (omega (arith, code_here));
                inside = λ y j. either (λ j. g.inside y j) (λ e. rw e block) j;
                listed = λ y k n. by_eq y x (λ e. rw e new) (λ e. old (g.listed y k (λ z. n (came_there y k e ∙ z))));
                came = λ y j. either
                    (λ j. still y j (g.came y j))
                    (λ e. rw e (by_word b w (old i) l named came_here (omega (arith, code_here, code_there b i))))
                    j;
                begun = λ k. met (g.begun k);
                looked = looked;
              };
            }

      -- no block, or a block found before
      keeps : (x : ℕ) → names b w ≡ x → (Block m x → In x f.blocks) → Gone m root names code (s + 1) f f
      keeps x named there =
          record {
            codes = code;
            same = λ y j. refl;
            new = [];
            grown = sym (append-nil f.blocks);
            going = record {
              size = g.size;
              rising = rising_up g.rising (omega arith);
              inside = g.inside;
              listed = g.listed;
              came = g.came;
              begun = g.begun;
              looked = λ c v y j h e k t. by_eq (8 * code c + v) s
                  (λ z.
                  let o = only c v j h z in
                  let e' : y ≡ x = sym e ∙ rw (o.0, o.1) named in
                  let k' = there (rw e' at k) in
                  rw e' (record { known = k'; small = omega (arith, (rising_in g.rising k').1) }))
                  (λ z. g.looked c v y j h e k (omega arith));
            };
          }

      meets : Gone m root names code (s + 1) f (meet m b w (names b w) f)
      unfolding meet
      meets =
          by_test (is_block m (names b w))
          (λ t. by_test (eqb (came_to f.came (names b w)) 0)
          (λ u. rw (t, u) (finds (names b w) refl (eqb-true _ _ u) (is_block_block m (names b w) t)))
          (λ u. rw (t, u) (keeps (names b w) refl (λ k. g.listed (names b w) k (λ z. clash (eq-eqb _ _ z) u)))))
          (λ t. rw t (keeps (names b w) refl (λ k. clash (block_is_block m (names b w) k) t)))

  -- two stretches of a search, one after the other
  onto :
      {code : ℕ → ℕ} {s t : ℕ} {f j k : Found} (p : Gone m root names code s f j) → Gone m root names p.codes t j k
      → Gone m root names code t f k
  onto {f} {k = k} p q =
      record {
        codes = q.codes;
        same = λ y i. q.same y (rw p.grown (Memᴰ.append_left p.new i)) ∙ p.same y i;
        new = p.new ++ q.new;
        grown = q.grown ∙ rw p.grown (append_assoc f.blocks p.new q.new);
        going = q.going;
      }

  -- n words of b, from word w on, whose number is s
  visited_from :
      {code : ℕ → ℕ} {f : Found} (n w s t b : ℕ) → Going m root names code s f → In b f.blocks
      → n + w ≡ 8 → s ≡ 8 * code b + w → t ≡ s + n
      → Gone m root names code t f (visit_from n w m b (names b) f)
  unfolding visit_from
  visited_from {code} {f} zero w s t b g i e at up =
      let z : t ≡ s = omega arith in
      record { codes = code; same = λ y j. refl; new = []; grown = sym (append-nil f.blocks); going = rw z g }
  visited_from {code} {f} (suc n) w s t b g i e at up =
      let p = meets g b w i (omega arith) at in
      let i' : In b (meet m b w (names b w) f).blocks = rw p.grown (Memᴰ.append_left p.new i) in
      onto p (visited_from {code = p.codes} n (w + 1) (s + 1) t b p.going i' (omega arith) (omega (arith, p.same b i)) (omega arith))

  pub visited :
      {code : ℕ → ℕ} {f : Found} (b : ℕ) → Going m root names code (8 * code b) f → In b f.blocks
      → Gone m root names code (8 * code b + 8) f (visit m b (names b) f)
  visited {code} b g i = visited_from 8 0 (8 * code b) (8 * code b + 8) b g i refl (omega arith) refl
