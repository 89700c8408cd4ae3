-- The whole search: every word of every block found has been looked at.
--     few                  a list of blocks that repeats none has no more of them than there are
--     at_most              no more blocks are found than there are
--     Done                 what holds of a whole search;     searched: it holds of the search
-- The queue in two parts, the blocks visited and those to come: the numbers of the first lie below, those of the others above. A search of
-- m blocks has visited all that it found, because it never finds more than m.
-- Assumes nothing.
use Prim.Native.Nat.{ℕ, zero, suc, ◌+◌, ◌*◌, ◌≤◌, ◌<◌}
use mathlib.Core.Path.{◌≡◌, refl, sym, ◌∙◌, ap}
use mathlib.Core.Logic.{◌≢◌, ⊎_elim}
use mathlib.Core.Bool.{true}
use mathlib.Core.List.Memᴰ
use mathlib.Core.List.{List, [], ◌∷◌, ◌++◌, append-nil, append_assoc}
use native.Mathlib.Omega.{arith}
use lib.ListN.{get_or, length, set, replicate, length-append, length-set, length-replicate, get_or-replicate}
use lib.Seq.{get_or_at, get_or-set_same, get_or-set_other}
use borrow.Author.Tests.{lt-ltb, le-ltb}
use Rattle.machine.specs.Block.{is_block, index}
use Rattle.machine.specs.WellFormed.{Block}
use Rattle.machine.specs.Lists.{count_from}
use Rattle.machine.specs.Search.{Found, found, came_to, onward, begun, search}
use Rattle.machine.proofs.Tests.{by_test, by_eq, clash}
use Rattle.machine.proofs.Blocks.{is_block_block, block_is_block}
use Rattle.machine.specs.Lists.{Distinct}
use Rattle.machine.proofs.Counting.{among, count_le, count_among}
use Rattle.theory_reach.specs.Listed.{In}
use Rattle.theory_search.proofs.Rising.{Rising, none, next, rising_before, rising_after, rising_up, rising_distinct}
use Rattle.theory_search.proofs.Visiting.{as_root, Going, Gone, visited}

count_most : (n b : ℕ) → count_from (λ x. true) n b ≤ n
unfolding count_from
count_most zero b = omega arith
count_most (suc n) b = omega (arith, count_most n (b + 1))

pub few : (m : ℕ) {l : List ℕ} → Distinct l → ((x : ℕ) → In x l → Block m x) → length l ≤ m
few m {l} d f =
    let exactly = count_among m 2 d (λ x i. let k = f x i in (k.low, omega arith)) in
    omega (arith, exactly, count_le (λ x. true) (among l) (λ x e. refl) m 2, count_most m 2)

pub record Done (m root : ℕ) (names : ℕ → ℕ → ℕ) (f : Found) : Type 0 where
  pub codes : ℕ → ℕ
  pub most : ℕ
  pub going : Going m root names codes most f
  pub whole : (x : ℕ) → In x f.blocks → 8 * codes x + 8 ≤ most

-- the queue in two parts: those visited, and those to come
record Parted (code : ℕ → ℕ) (s : ℕ) (l past ahead : List ℕ) : Type 0 where
  queue : l ≡ past ++ ahead
  below : (x : ℕ) → In x past → 8 * code x + 8 ≤ s
  above : (x : ℕ) → In x ahead → s ≤ 8 * code x

module _ {m root : ℕ} {names : ℕ → ℕ → ℕ} where
  pub at_most : {code : ℕ → ℕ} {s : ℕ} {f : Found} → Going m root names code s f → length f.blocks ≤ m
  at_most g = few m (rising_distinct g.rising) g.inside

  -- none to come
  ended :
      {code : ℕ → ℕ} {s : ℕ} {f : Found} (past : List ℕ) → Going m root names code s f → Parted code s f.blocks past []
      → Done m root names f
  ended {code} {s} past g p =
      record { codes = code; most = s; going = g; whole = λ x i. p.below x (rw (p.queue ∙ append-nil past) at i) }

  -- b is the next: the words before its own have been looked at
  module _
      {code : ℕ → ℕ} {s : ℕ} {f : Found} (past : List ℕ) (b : ℕ) (ahead : List ℕ)
      (g : Going m root names code s f) (p : Parted code s f.blocks past (b ∷ ahead))
    where
      next_in : In b f.blocks
      next_in = rw p.queue (Memᴰ.append_right past (Memᴰ.head refl))

      queue_rising : Rising code 1 (past ++ (b ∷ ahead)) s
      queue_rising = rw p.queue at g.rising

      up : s ≤ 8 * code b
      up = p.above b (Memᴰ.head refl)

      -- what has a smaller number than b is visited
      earlier : (c : ℕ) → In c f.blocks → code c ≤ code b → c ≢ b → 8 * code c + 8 ≤ s
      earlier c i l n =
          ⊎_elim
          (λ j. p.below c j)
          (λ j. ⊎_elim
          (λ e. absurd (n e))
          (λ k. let a : code b < code c = rising_after b past ahead queue_rising k in absurd (omega arith))
          (Memᴰ.cases_cons j))
          (Memᴰ.append_cases past (rw p.queue at i))

      ready : Going m root names code (8 * code b) f
      ready =
          record {
            size = g.size;
            rising = rising_up g.rising up;
            inside = g.inside;
            listed = g.listed;
            came = g.came;
            begun = g.begun;
            looked = λ c w x i l e k t.
                by_eq c b
                (λ z. absurd (omega (arith, rw z at t)))
                (λ z. g.looked c w x i l e k (omega (arith, earlier c i (omega arith) z)));
          }

      -- after it is visited
      module _ {k : Found} (q : Gone m root names code (8 * code b + 8) f k) where
        grown : k.blocks ≡ past ++ (b ∷ (ahead ++ q.new))
        grown = q.grown ∙ rw p.queue (append_assoc past (b ∷ ahead) q.new)

        code_b : q.codes b ≡ code b
        code_b = q.same b next_in

        now_rising : Rising q.codes 1 (past ++ (b ∷ (ahead ++ q.new))) (8 * code b + 8)
        now_rising = rw grown at q.going.rising

        on : Parted q.codes (8 * code b + 8) k.blocks (past ++ (b ∷ [])) (ahead ++ q.new)
        on =
            record {
              queue = grown ∙ sym (append_assoc past (b ∷ []) (ahead ++ q.new));
              below = λ x i. ⊎_elim
                  (λ j. omega (arith, rising_before b past (ahead ++ q.new) now_rising j, code_b))
                  (λ j. let e : x ≡ b = Memᴰ.eq_of_singleton j in rw e (omega (arith, code_b)))
                  (Memᴰ.append_cases past i);
              above = λ x i. omega (arith, rising_after b past (ahead ++ q.new) now_rising i, code_b);
            }

  -- the rest of the search, n blocks of it at most
  went :
      {code : ℕ → ℕ} {s : ℕ} {f : Found} (n i : ℕ) (past ahead : List ℕ)
      → Going m root names code s f → Parted code s f.blocks past ahead → length past ≡ i → m ≤ n + i
      → Done m root names (onward n i m names f)
  unfolding onward
  went zero i past [] g p e l = ended past g p
  went {f} zero i past (b ∷ ahead) g p e l =
      absurd (omega (arith, at_most g, ap length p.queue ∙ length-append past (b ∷ ahead)))
  went {f} (suc n) i past [] g p e l =
      rw (le-ltb i (length f.blocks) (omega (arith, ap length (p.queue ∙ append-nil past)))) (ended past g p)
  went {code} {f = f} (suc n) i past (b ∷ ahead) g p e l =
      let here : get_or f.blocks i 0 ≡ b = rw p.queue (get_or_at past b ahead 0 i e) in
      let q = visited b (ready past b ahead g p) (next_in past b ahead g p) in
      rw (lt-ltb i (length f.blocks) (omega (arith, ap length p.queue ∙ length-append past (b ∷ ahead))), here)
      (went {code = q.codes} n (i + 1) (past ++ (b ∷ [])) (ahead ++ q.new) q.going (on past b ahead g p q)
      (length-append past (b ∷ []) ∙ omega arith) (omega arith))

nothing : (m x : ℕ) → Block m x → came_to (replicate m 0) x ≡ 0
nothing m x l = get_or-replicate m (index x) 0 0 (omega arith)

-- before any block is visited
module _ (m root : ℕ) (names : ℕ → ℕ → ℕ) where
  abbrev first : Found
  first = found (root ∷ []) (set (replicate m 0) (index root) 1)

  first_going : Block m root → Going m root names (λ x. 1) 8 first
  first_going l =
      record {
        size = length-set (replicate m 0) (index root) 1 ∙ length-replicate m 0;
        rising = next {lo = 1} {x = root} (omega arith) (none {lo = 2} {hi = 8} (omega arith));
        inside = λ x i. let e : x ≡ root = Memᴰ.eq_of_singleton i in rw e l;
        listed = λ x k n. by_eq x root (λ e. Memᴰ.head e)
            (λ e. absurd (n (get_or-set_other (replicate m 0) (index root) (index x) 1 0 (omega arith) ∙ nothing m x k)));
        came = λ x i.
            let e : x ≡ root = Memᴰ.eq_of_singleton i in
            as_root e (rw e (get_or-set_same (replicate m 0) (index root) 1 0 (omega (arith, length-replicate {A = ℕ} m 0)))) refl;
        begun = λ k. record { known = Memᴰ.head refl; small = omega arith };
        looked = λ b w x i k e d t. absurd (omega arith);
      }

  first_parted : Parted (λ x. 1) 8 (root ∷ []) [] (root ∷ [])
  first_parted = record { queue = refl; below = λ x i. absurd (Memᴰ.not-nil i); above = λ x i. omega arith }

  none_going : (Block m root → ⊥) → Going m root names (λ x. 1) 1 (found [] (replicate m 0))
  none_going n =
      record {
        size = length-replicate m 0;
        rising = none {lo = 1} {hi = 1} (omega arith);
        inside = λ x i. absurd (Memᴰ.not-nil i);
        listed = λ x k z. absurd (z (nothing m x k));
        came = λ x i. absurd (Memᴰ.not-nil i);
        begun = λ k. absurd (n k);
        looked = λ b w x i k e d t. absurd (Memᴰ.not-nil i);
      }

  none_parted : Parted (λ x. 1) 1 [] [] []
  none_parted = record { queue = refl; below = λ x i. absurd (Memᴰ.not-nil i); above = λ x i. absurd (Memᴰ.not-nil i) }

  pub searched : Done m root names (search m root names)
  unfolding search begun
  searched =
      by_test (is_block m root)
      (λ t. rw t (went m 0 [] (root ∷ []) (first_going (is_block_block m root t)) first_parted refl (omega arith)))
      (λ t. rw t (went m 0 [] [] (none_going (λ k. clash (block_is_block m root k) t)) none_parted refl (omega arith)))
