-- The reason is the true one, and the path is the one asked for.
--     search_finds         the search finds exactly the reachable blocks, each once
--     path_short           a path has fewer pairs than there are blocks
--     why_means            the reason and the path, for every block of every well-formed heap
-- Assumes nothing.
use Prim.Native.Nat.{ℕ, zero, suc, ◌≤◌, ◌<◌}
use mathlib.Core.Path.{◌≡◌, refl, ◌∙◌, ap}
use mathlib.Core.Bool.{true}
use mathlib.Core.List.{List, []}
use native.Mathlib.Omega.{arith}
use lib.ListN.{length}
use Rattle.machine.specs.declared.Colour.{Colour}
use Rattle.machine.specs.declared.Colour.TheVariants as colours
use Rattle.machine.specs.declared.State.TheVariants as states
use Rattle.machine.specs.declared.Reason.TheVariants as reasons
use Rattle.machine.specs.Colouring.{allocated_colour}
use Rattle.machine.specs.Heap.{Heap, colouring}
use Rattle.machine.specs.State.{state_from, state_in, state_of, is_live}
use Rattle.machine.specs.WellFormed.{Block, Coloured, Live, WellFormed}
use Rattle.machine.specs.Search.{Hop, came_to, named_of, search_of, path_from, path_to}
use Rattle.machine.specs.Tell.{state_number}
use Rattle.machine.specs.Why.{path_of, reason_from, reason_of, kept_number}
use Rattle.machine.proofs.Tests.{by_test, by_eq}
use Rattle.machine.proofs.Steps.{never}
use Rattle.machine.proofs.States.{live_colour}
use Rattle.theory_promises.specs.Reachable.{Reachable, is_root}
use Rattle.theory_search.specs.Means.{SearchMeans}
use Rattle.theory_search.proofs.Paths.{starts}
use Rattle.theory_search.proofs.Means.{search_means}
use Rattle.theory_why.specs.Leads.{Leads, NoLater}
use Rattle.theory_why.specs.Means.{OutOfReach, SearchFinds, WhyMeans}
use Rattle.theory_why.proofs.Paths.{search_leads, leads_search, reachable_live, reachable_reached, reached_reachable}
use Rattle.theory_why.proofs.Reasons.{live_number, state_colour, Case, is_free, is_doomed, is_reached, is_kept, the_case}
use Rattle.theory_why.proofs.Reasons.{came_reachable, reachable_came, out_came, reach_reason, keep_reason}

-- a block that the search didn't come to has no path
no_path : (n : ℕ) (came : List ℕ) (x : ℕ) → came_to came x ≡ 0 → path_to n came x ≡ []
unfolding path_from
no_path zero came x e = refl
no_path (suc n) came x e = rw e refl

pub search_finds : (h : Heap) → WellFormed h → SearchFinds h
search_finds h f =
    let means = search_means h.regs.blocks h.regs.root (named_of h) in
    record {
      exactly = λ b. (
        λ i. reached_reachable h ((means.exactly b).0 i),
        λ r. (means.exactly b).1 (reachable_reached h f r),
      );
      once = means.once;
    }

module _ (h : Heap) (b : ℕ) where
  -- what a reason says
  free_of : Block h.regs.blocks b → Case h b → reason_of h b ≡ reasons.Free → Coloured h colours.Free b
  free_of l (is_free c e) q = record { block = l; colour = c }
  free_of l (is_doomed s e) q = never (cc)
  free_of l (is_reached r e) q = never (cc)
  free_of l (is_kept a n e) q = never (cc)

  doomed_of : Case h b → reason_of h b ≡ reasons.Doomed → state_of h b ≡ states.Doomed
  doomed_of (is_free c e) q = never (cc)
  doomed_of (is_doomed s e) q = s
  doomed_of (is_reached r e) q = never (cc)
  doomed_of (is_kept a n e) q = never (cc)

  reached_of : (n : ℕ) → Case h b → reason_of h b ≡ reasons.Reachable n → (Reachable h b) × (n ≡ length (path_of h b))
  reached_of n (is_free c e) q = never (cc)
  reached_of n (is_doomed s e) q = never (cc)
  reached_of n (is_reached r e) q = (r, cc)
  reached_of n (is_kept a o e) q = never (cc)

  kept_of : (c : Colour) → Case h b → reason_of h b ≡ reasons.Kept c → OutOfReach h b c
  kept_of c (is_free d e) q = never (cc)
  kept_of c (is_doomed s e) q = never (cc)
  kept_of c (is_reached r e) q = never (cc)
  kept_of c (is_kept a n e) q = record { live = a; out = n; colour = cc }

  free_reason : Coloured h colours.Free b → reason_of h b ≡ reasons.Free
  unfolding reason_from state_in state_from
  free_reason c = rw c.colour refl

  doomed_reason : state_of h b ≡ states.Doomed → reason_of h b ≡ reasons.Doomed
  unfolding reason_from
  doomed_reason e = rw e refl

  module _ (f : WellFormed h) (l : Block h.regs.blocks b) where
    means : SearchMeans h.regs.blocks h.regs.root (named_of h)
    means = search_means h.regs.blocks h.regs.root (named_of h)

    case : Case h b
    case = the_case h b f l

    allocated : (c : Colour) → OutOfReach h b c → allocated_colour c ≡ true
    allocated c o = rw o.colour at (live_colour h.regs (colouring h) b o.live.live)

    numbered : (c : Colour) → OutOfReach h b c → kept_number c ≡ state_number (state_of h b)
    numbered c o = rw (← o.colour, state_colour h b) (live_number (state_of h b) o.live.live)

    -- a live block's path is the search's
    path_is : Live h b → path_of h b ≡ path_to h.regs.blocks (search_of h).came b
    unfolding path_of
    path_is a = rw a.live refl

    root_live : Reachable h b → Live h h.regs.root
    root_live r = let k = starts (reachable_reached h f r).leads in f.root_live (λ z. omega arith)

    fewest : Reachable h b → (ps : List Hop) → Leads h h.regs.root ps b → length (path_of h b) ≤ length ps
    fewest r ps d = rw (path_is (reachable_live h f r)) (means.fewest b ps (leads_search h f (root_live r) d))

    least :
        Reachable h b → (ps : List Hop) → Leads h h.regs.root ps b → length ps ≡ length (path_of h b)
        → NoLater (path_of h b) ps
    least r ps d e =
        let p = path_is (reachable_live h f r) in
        rw p (means.least b ps (leads_search h f (root_live r) d) (rw p at e))

    own : b ≡ h.regs.root → path_of h b ≡ []
    own e =
        let r = is_root e (λ z. omega arith) in
        path_is (reachable_live h f r) ∙ rw e (means.own (rw e at l))

    none : (Reachable h b → ⊥) → path_of h b ≡ []
    unfolding path_of
    none n =
        by_test (is_live (state_of h b))
        (λ t. rw t (no_path h.regs.blocks (search_of h).came b (out_came h b f l n)))
        (λ t. rw t refl)

    pub path_short : length (path_of h b) < h.regs.blocks
    path_short =
        by_eq (came_to (search_of h).came b) 0
        (λ e. rw (none (λ r. reachable_came h b f l r e)) (omega arith))
        (λ e. let r = came_reachable h b f l e in rw (path_is (reachable_live h f r)) (means.short b (reachable_reached h f r)))

    pub why_means : WhyMeans h b
    why_means =
        record {
          free = (free_of l case, free_reason);
          doomed = (doomed_of case, doomed_reason);
          reachable = (λ q. (reached_of _ case q).0, reach_reason h b f l);
          pairs = λ n q. (reached_of n case q).1;
          kept = λ c. (kept_of c case, λ o. keep_reason h b f l o.live o.out ∙ ap reasons.Kept o.colour);
          coloured = λ c q. allocated c (kept_of c case q);
          numbered = λ c q. numbered c (kept_of c case q);
          leads = λ r. rw (path_is (reachable_live h f r)) (search_leads h (means.leads b (reachable_reached h f r)));
          fewest = fewest;
          least = least;
          own = own;
          none = none;
        }
