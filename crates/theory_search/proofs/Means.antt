-- What a search means.
--     search_means         what is found is what a path leads to; the path told leads there, is as short as any, and of those has the
--                          smallest words from the root on
-- Assumes nothing.
use Prim.Native.Nat.{ℕ, ◌≤◌}
use mathlib.Core.Path.{◌≡◌, refl, sym}
use mathlib.Core.List.{List, [], ◌∷◌}
use native.Mathlib.Omega.{arith}
use lib.ListN.{length}
use Rattle.machine.specs.WellFormed.{Block}
use Rattle.machine.specs.Search.{Hop, search}
use Rattle.theory_reach.proofs.Splits.{by_le}
use Rattle.theory_search.specs.Leads.{Leads, here, NoLater}
use Rattle.theory_search.specs.Means.{path_in, SearchMeans}
use Rattle.theory_search.proofs.Coding.{code_from, small_leads, code_shorter, code_words}
use Rattle.theory_search.proofs.Rising.{rising_distinct}
use Rattle.theory_search.proofs.Visiting.{Met, came_some}
use Rattle.theory_search.proofs.Finding.{Done, at_most, searched}
use Rattle.theory_search.proofs.Paths.{starts, walked, Told, told}

module _ (m root : ℕ) (names : ℕ → ℕ → ℕ) where
  done : Done m root names (search m root names)
  done = searched m root names

  -- the block that a path leads to is found, and its number is no larger than the path's
  met : {x : ℕ} {ps : List Hop} → Leads m names root ps x → Met done.codes (search m root names) x (code_from 1 ps)
  met d = let b = done.going.begun (starts d) in walked done 1 d b.known b.small

  own_told : {x : ℕ} {ps : List Hop} → Leads m names root ps x → Told m root names x (done.codes x) (path_in m root names x)
  own_told {x} d = told done x (met d).known

  fewest : (x : ℕ) (ps : List Hop) → Leads m names root ps x → length (path_in m root names x) ≤ length ps
  fewest x ps d =
      by_le (length (path_in m root names x)) (length ps)
      (λ l. l)
      (λ l.
      let longer = code_shorter 1 1 (path_in m root names x) (small_leads d) (omega arith) l in
      absurd (omega (arith, (met d).small, (own_told d).number)))

  least :
      (x : ℕ) (ps : List Hop) → Leads m names root ps x → length ps ≡ length (path_in m root names x)
      → NoLater (path_in m root names x) ps
  least x ps d e = code_words 1 (path_in m root names x) (small_leads d) (sym e) (omega (arith, (met d).small, (own_told d).number))

  own : Block m root → path_in m root names root ≡ []
  own l = short_none (path_in m root names root) (fewest root [] (here refl l))
    where
      short_none : (ps : List Hop) → length ps ≤ 0 → ps ≡ []
      short_none [] h = refl
      short_none (p ∷ ps) h = absurd (omega arith)

  pub search_means : SearchMeans m root names
  search_means =
      record {
        exactly = λ x. (λ i. record { path = path_in m root names x; leads = (told done x i).leads }, λ r. (met r.leads).known);
        once = rising_distinct done.going.rising;
        most = at_most done.going;
        told = λ x l. (
          λ n. record { path = path_in m root names x; leads = (told done x (done.going.listed x l n)).leads },
          λ r. came_some done.going x (met r.leads).known,
        );
        leads = λ x r. (own_told r.leads).leads;
        fewest = fewest;
        least = least;
        own = own;
        short = λ x r. (own_told r.leads).short;
      }
