-- What a search means: which blocks it finds, and by which path each of them.
--     Reached m root names x       a path leads from the root to x
--     path_in m root names x        the path that the search tells to x
--     SearchMeans m root names     what holds of the search from root on, whatever the words name
-- Assumes nothing.
use Rattle.std.specs.Prelude.{ℕ, ◌≤◌, ◌<◌, ◌≡◌, ◌≢◌, ◌↔◌, List, [], length}
use Rattle.machine.specs.WellFormed.{Block}
use Rattle.machine.specs.Search.{Hop, came_to, search, path_to}
use Rattle.machine.specs.Lists.{Distinct}
use Rattle.theory_reach.specs.Listed.{In}
use Rattle.theory_search.specs.Leads.{Leads, NoLater}

pub record Reached (m root : ℕ) (names : ℕ → ℕ → ℕ) (x : ℕ) : Type 0 where
  pub path : List Hop
  pub leads : Leads m names root path x

abbrev pub path_in : ℕ → ℕ → (ℕ → ℕ → ℕ) → ℕ → List Hop
path_in m root names x = path_to m (search m root names).came x

pub record SearchMeans (m root : ℕ) (names : ℕ → ℕ → ℕ) : Type 0 where
  -- exactly the blocks to which a path leads are found, each of them once
  pub exactly : (x : ℕ) → In x (search m root names).blocks ↔ Reached m root names x
  pub once : Distinct (search m root names).blocks
  pub most : length (search m root names).blocks ≤ m
  -- and it is told of exactly them how they were come to
  pub told : (x : ℕ) → Block m x → (came_to (search m root names).came x ≢ 0) ↔ Reached m root names x
  -- the path told leads from the root to x
  pub leads : (x : ℕ) → Reached m root names x → Leads m names root (path_in m root names x) x
  -- it is as short as any, and of those as short none has smaller words from the root on
  pub fewest : (x : ℕ) (ps : List Hop) → Leads m names root ps x → length (path_in m root names x) ≤ length ps
  pub least :
      (x : ℕ) (ps : List Hop) → Leads m names root ps x → length ps ≡ length (path_in m root names x)
      → NoLater (path_in m root names x) ps
  -- the root's path is empty, and every path has fewer pairs than there are blocks
  pub own : Block m root → path_in m root names root ≡ []
  pub short : (x : ℕ) → Reached m root names x → length (path_in m root names x) < m
