-- Neither the reasons nor the choice of a path is hollow: they are given on heaps of the machine itself, by computation.
--     chosen, given, called    the three records of instances
--     out_of_reach             so nothing reaches block 7 of `crossed`
-- Assumes nothing.
use Prim.Native.Nat.{ℕ}
use mathlib.Core.Path.{◌≡◌, refl}
use mathlib.Core.Bool.{true, false}
use mathlib.Core.List.{List, ◌∷◌}
use lib.Dec.{leb, eqb}
use borrow.Author.Tests.{leb-true, eqb-false}
use Rattle.machine.specs.declared.Colour.TheVariants.{White}
use Rattle.std.specs.Prelude.{Err}
use Rattle.machine.specs.Block.{word_of, byte_of, bit}
use Rattle.machine.specs.Heap.{Heap}
use Rattle.machine.specs.WellFormed.{WellFormed}
use Rattle.machine.specs.Search.{Hop, named_in, meet, visit_from, onward, begun, search, path_from, path_numbers}
use Rattle.machine.specs.Why.{path_of, live_reason, reason_from, WhyGiven, why_refusal, padded, why}
use Rattle.machine.proofs.Blocks.{is_block_block}
use Rattle.machine.proofs.Computing.{the_machine}
use Rattle.theory_audit.proofs.Audit.{audit_meaning}
use Rattle.theory_promises.specs.Reachable.{Reachable}
use Rattle.theory_why.specs.Leads.{Leads, here, hop}
use Rattle.theory_why.specs.Answers.{Lent, Refuses}
use Rattle.theory_why.specs.Instances.{pair, crossed, floating, turned, Chosen, Given, Called}
use Rattle.theory_why.proofs.Means.{why_means}

-- all that the search and the reason compute with, opened by one name
unfoldable the_search : Unit {0}
unfolding the_machine named_in meet visit_from onward begun search path_from path_numbers
    path_of live_reason reason_from why_refusal padded why
the_search = tt

-- a pair more in front of a path
by : {h : Heap} {b x : ℕ} {ps : List Hop} (a w : ℕ)
    → leb w 7 ≡ true → bit (byte_of h.bytes a) w ≡ true → word_of h.words a w ≡ x → eqb x 0 ≡ false
    → Leads h x ps b
    → Leads h a (pair a w ∷ ps) b
by {x = x} a w l s e n d = hop (record { block = refl; low = leb-true w 7 l; set = s; holds = e; some = eqb-false x 0 n }) d

-- a refusal, by the whole of what the call gives
untouched :
    {n : ℕ} {l : Lent} {g : WhyGiven} → g ≡ record { answer = Err n; path = l.path; queue = l.queue; came = l.came }
    → Refuses n l g
untouched e = rw e (record { answer = refl; path = refl; queue = refl; came = refl })

crossed_formed : WellFormed crossed
unfolding the_search
crossed_formed = (audit_meaning crossed).0 refl

floating_formed : WellFormed floating
unfolding the_search
floating_formed = (audit_meaning floating).0 refl

turned_formed : WellFormed turned
unfolding the_search
turned_formed = (audit_meaning turned).0 refl

pub chosen : Chosen
unfolding the_search
chosen =
    record {
      smaller = record { formed = crossed_formed; block = is_block_block 8 5 refl; reason = refl; path = refl };
      larger = by 2 1 refl refl refl refl (by 4 0 refl refl refl refl (here refl));
      shorter = record { formed = crossed_formed; block = is_block_block 8 6 refl; reason = refl; path = refl };
      longer = by 2 0 refl refl refl refl (by 3 0 refl refl refl refl (here refl));
    }

pub given : Given
unfolding the_search
given =
    record {
      root = record { formed = crossed_formed; block = is_block_block 8 2 refl; reason = refl; path = refl };
      white = record { formed = crossed_formed; block = is_block_block 8 7 refl; reason = refl; path = refl };
      grey = record { formed = floating_formed; block = is_block_block 8 3 refl; reason = refl; path = refl };
      black = record { formed = floating_formed; block = is_block_block 8 6 refl; reason = refl; path = refl };
      doomed = record { formed = turned_formed; block = is_block_block 8 7 refl; reason = refl; path = refl };
      free = record { formed = crossed_formed; block = is_block_block 8 8 refl; reason = refl; path = refl };
    }

pub called : Called
unfolding the_search
called =
    record {
      told = refl;
      unfit = untouched refl;
      unaccepted = untouched refl;
      low = untouched refl;
      high = untouched refl;
      cramped = untouched refl;
    }

pub out_of_reach : Reachable crossed 7 → ⊥
out_of_reach = (((why_means crossed 7 given.white.formed given.white.block).kept White).0 given.white.reason).out
