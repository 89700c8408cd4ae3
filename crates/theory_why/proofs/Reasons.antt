-- The reason, by what the block is.
--     state_colour             a state says the colour;     live_number: and its number, of a live block
--     came_reachable, reachable_came, out_came     a block is reachable exactly where the search came to it
--     reach_reason, keep_reason     the reason of a reachable block, and that of a live block out of reach
--     Case, the_case           of a block of a well-formed heap one of four things holds: it is free, doomed, reachable, or kept
-- Assumes nothing.
use Prim.Native.Nat.{ℕ}
use mathlib.Core.Path.{◌≡◌, refl, sym, ◌∙◌, ap}
use mathlib.Core.Logic.{◌≢◌}
use mathlib.Core.Bool.{true}
use lib.ListN.{length}
use borrow.Author.Tests.{eq-eqb, ne_eqb}
use Rattle.machine.specs.declared.Regs.{Regs}
use Rattle.machine.specs.declared.Colour.{Colour}
use Rattle.machine.specs.declared.Colour.TheVariants as colours
use Rattle.machine.specs.declared.State.{State}
use Rattle.machine.specs.declared.State.TheVariants as states
use Rattle.machine.specs.declared.Reason.TheVariants.{Free, Doomed, Kept}
use Rattle.machine.specs.declared.Reason.TheVariants as reasons
use Rattle.machine.specs.Heap.{Heap, colour_of}
use Rattle.machine.specs.State.{ahead, state_from, state_in, state_of, is_live}
use Rattle.machine.specs.WellFormed.{Block, Live, WellFormed}
use Rattle.machine.specs.Search.{came_to, named_of, search_of}
use Rattle.machine.specs.Tell.{state_number}
use Rattle.machine.specs.Why.{path_of, live_reason, reason_from, reason_of, kept_number}
use Rattle.machine.proofs.Tests.{by_test, by_eq, clash}
use Rattle.theory_promises.specs.Reachable.{Reachable}
use Rattle.theory_search.specs.Means.{SearchMeans}
use Rattle.theory_search.proofs.Means.{search_means}
use Rattle.theory_why.proofs.Paths.{reachable_live, reachable_reached, reached_reachable}

-- the colour of a block in that state
abbrev pub colour_by : State → Colour
colour_by states.LiveWhite = colours.White
colour_by states.Doomed = colours.White
colour_by states.Grey = colours.Grey
colour_by states.Black = colours.Black
colour_by states.Free = colours.Free
colour_by states.Outside = colours.Outside

from_colour : (r : Regs) (b : ℕ) (c : Colour) → c ≡ colour_by (state_from r b c)
unfolding state_from
from_colour r b colours.White = by_test (ahead r b) (λ t. rw t refl) (λ t. rw t refl)
from_colour r b colours.Grey = refl
from_colour r b colours.Black = refl
from_colour r b colours.Free = refl
from_colour r b colours.Outside = refl

-- a live block's reason, by its state
by_state : (h : Heap) (b : ℕ) (s : State) → is_live s ≡ true → reason_from h b s ≡ live_reason h b (colour_by s)
unfolding reason_from
by_state h b states.LiveWhite e = refl
by_state h b states.Doomed e = clash e refl
by_state h b states.Grey e = refl
by_state h b states.Black e = refl
by_state h b states.Free e = clash e refl
by_state h b states.Outside e = clash e refl

-- a live block's colour in numbers, by its state
pub live_number : (s : State) → is_live s ≡ true → kept_number (colour_by s) ≡ state_number s
live_number states.LiveWhite e = refl
live_number states.Doomed e = clash e refl
live_number states.Grey e = refl
live_number states.Black e = refl
live_number states.Free e = clash e refl
live_number states.Outside e = clash e refl

module _ (h : Heap) (b : ℕ) where
  pub state_colour : colour_of h b ≡ colour_by (state_of h b)
  unfolding state_in
  state_colour = from_colour h.regs b (colour_of h b)

  live_reason_lem : Live h b → reason_of h b ≡ live_reason h b (colour_of h b)
  live_reason_lem a = by_state h b (state_of h b) a.live ∙ ap (live_reason h b) (sym state_colour)

  pub data Case : Type 0 where
    is_free : colour_of h b ≡ colours.Free → reason_of h b ≡ Free → Case
    is_doomed : state_of h b ≡ states.Doomed → reason_of h b ≡ Doomed → Case
    is_reached : Reachable h b → reason_of h b ≡ reasons.Reachable (length (path_of h b)) → Case
    is_kept : Live h b → (Reachable h b → ⊥) → reason_of h b ≡ Kept (colour_of h b) → Case

  module _ (f : WellFormed h) (l : Block h.regs.blocks b) where
    means : SearchMeans h.regs.blocks h.regs.root (named_of h)
    means = search_means h.regs.blocks h.regs.root (named_of h)

    pub came_reachable : came_to (search_of h).came b ≢ 0 → Reachable h b
    came_reachable n = reached_reachable h ((means.told b l).0 n)

    pub reachable_came : Reachable h b → came_to (search_of h).came b ≢ 0
    reachable_came r = (means.told b l).1 (reachable_reached h f r)

    pub reach_reason : Reachable h b → reason_of h b ≡ reasons.Reachable (length (path_of h b))
    unfolding live_reason
    reach_reason r = live_reason_lem (reachable_live h f r) ∙ rw (ne_eqb (came_to (search_of h).came b) 0 (reachable_came r)) refl

    pub out_came : (Reachable h b → ⊥) → came_to (search_of h).came b ≡ 0
    out_came n = by_eq (came_to (search_of h).came b) 0 (λ e. e) (λ e. absurd (n (came_reachable e)))

    pub keep_reason : Live h b → (Reachable h b → ⊥) → reason_of h b ≡ Kept (colour_of h b)
    unfolding live_reason
    keep_reason a n = live_reason_lem a ∙ rw (eq-eqb (came_to (search_of h).came b) 0 (out_came n)) refl

    live_case : Live h b → Case
    live_case a =
        by_eq (came_to (search_of h).came b) 0
        (λ e. let n : Reachable h b → ⊥ = λ r. reachable_came r e in is_kept a n (keep_reason a n))
        (λ e. let r = came_reachable e in is_reached r (reach_reason r))

    pub the_case : Case
    unfolding reason_from
    the_case = go (state_of h b) refl
      where
        live : {s : State} → state_of h b ≡ s → is_live s ≡ true → Case
        live e t = live_case (record { block = l; live = rw e t })

        go : (s : State) → state_of h b ≡ s → Case
        go states.LiveWhite e = live e refl
        go states.Doomed e = is_doomed e (rw e refl)
        go states.Grey e = live e refl
        go states.Black e = live e refl
        go states.Free e = is_free (state_colour ∙ rw e refl) (rw e refl)
        go states.Outside e = absurd (f.colours b l (state_colour ∙ rw e refl))
