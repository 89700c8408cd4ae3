-- Instances of the sharper demand 3, on the machine itself.
--     slow_paces               a pace of 3 or 4: turned down by demand 3's rule, and enough by the sharper one
--     unhurried                a session at a pace of 3
--     met                      a cycle that takes K + H + 2 units
-- Assumes nothing.
use mathlib.Core.Path.{◌≡◌, refl}
use mathlib.Core.Bool.{true}
use mathlib.Core.List.{[], ◌∷◌, ◌++◌}
use native.Mathlib.Omega.{arith}
use native.Mathlib.Nat.{mul-le-mul_right}
use lib.ListN.{replicate}
use Rattle.machine.specs.Format.{formatted}
use Rattle.machine.specs.Session.{session}
use Rattle.machine.specs.Session.Call.{Allocate, Work}
use Rattle.machine.proofs.Tests.{clash}
use Rattle.machine.proofs.Computing.{the_machine}
use Rattle.theory_promises.specs.Deeds.{acted, deed, after}
use Rattle.theory_promises.specs.Plans.{plan}
use Rattle.theory_promises.specs.Sessions.{NoReset}
use Rattle.theory_promises.specs.Demand3.{then_unit, cycles, Few, Premises, Asking}
use Rattle.theory_promises.specs.Sharper.{short_cycles, ProperCycle}
use Rattle.theory_promises.specs.Instances.{within, all_within, names_within, closes, pair, goes_on, works}
use Rattle.theory_promises.specs.CycleInstances.{two_taken, both, large}
use Rattle.theory_promises.specs.SharperInstances.{Slow, slow, Unhurried, sofar, Met}
use Rattle.theory_promises.proofs.FreshHeap.{fresh_formed}
use Rattle.theory_promises.proofs.Peaks.{mark_is_peak}
use Rattle.theory_promises.proofs.Rooming.{cycles_enough}
use Rattle.theory_promises.proofs.Sharper.{cycle_shorter, sharper_margin_for, rest_untouched}
use Rattle.theory_promises.proofs.Instances.{closes_has, works_good, churn_unreset, churn_asks, one_more}
use Rattle.theory_promises.proofs.CycleInstances.{sparse}

pub slow_paces : Slow
unfolding short_cycles
slow_paces =
    record {
      refused = λ m u k l h e. absurd (omega (arith, cycles_enough m u l, mul-le-mul_right (cycles m u) h));
      three = λ k. omega arith;
      four = λ k. omega arith;
    }

slow_works : works (replicate 80 0) (formatted 20 3) ≡ true
unfolding the_machine within all_within names_within closes goes_on works
slow_works = refl

slow_premises : Premises 20 3 2 slow
slow_premises =
    record {
      some = omega arith;
      most = omega arith;
      paced = omega arith;
      pace = omega arith;
      formats = churn_unreset (replicate 80 0) (formatted 20 3);
      good = works_good (replicate 80 0) (formatted 20 3) slow_works;
    }

slow_asks : Asking 1 slow (formatted 20 3)
slow_asks = churn_asks (replicate 80 0) (formatted 20 3)

six : short_cycles 2 14 3 ≡ 6
unfolding short_cycles
six = refl

eight : short_cycles 2 20 3 ≡ 8
unfolding short_cycles
eight = refl

slow_mark : (session slow (formatted 20 3)).regs.mark ≡ 6
unfolding the_machine
slow_mark = refl

pub unhurried : Unhurried
unhurried =
    let peak = mark_is_peak 20 3 (omega arith) (omega arith) (omega arith) slow slow_premises.formats in
    record {
      many = refl;
      premises = slow_premises;
      asking = slow_asks;
      enough = omega (arith, six);
      stays = rest_untouched.stays 20 3 2 1 14 slow slow_premises slow_asks (omega (arith, six));
      room = λ b w.
          (rest_untouched.room 14).further 20 3 2 1 slow slow_premises slow_asks (omega arith, omega (arith, six)) (Allocate b w)
          (one_more b w (session slow (formatted 20 3)));
      fits = omega (arith, eight);
      margin = omega (arith, sharper_margin_for 20 3 2 1 slow slow_premises slow_asks);
      mark = slow_mark;
      most = omega (arith, peak, slow_mark);
    }

-- the root and what its word 0 holds
two_reachable : closes (after sofar large) (pair (after sofar large)) ≡ true
unfolding the_machine within all_within names_within closes acted deed after
two_reachable = refl

two_few : Few 2 (after sofar large)
two_few =
    let h = after sofar large in
    record { list = pair h; short = omega arith; has = λ b r. closes_has h (pair h) two_reachable r }

unreset : NoReset (two_taken ++ Work 6 ∷ []) large
unfolding the_machine plan
unreset = (λ z. clash z refl, (λ z. clash z refl, (λ z. clash z refl, (λ z. clash z refl, tt))))

-- units name nothing
sparse_proper : ProperCycle large (two_taken ++ Work 6 ∷ []) sofar (then_unit both) []
sparse_proper =
    let c = sparse.cycle in
    record {
      formed = fresh_formed 20 1 (omega arith) (omega arith) (omega arith);
      unreset = unreset;
      deeds = c.deeds;
      starts = c.starts;
      begun = c.begun;
      proper = (λ z. absurd (z refl), (λ z. absurd (z refl), (λ z. absurd (z refl), (λ z. absurd (z refl), (λ z. absurd (z refl), tt)))));
    }

pub met : Met
unfolding the_machine acted deed after
met =
    record {
      cycle = sparse_proper;
      few = two_few;
      short = cycle_shorter.short 2 large (two_taken ++ Work 6 ∷ []) sofar (then_unit both) [] sparse_proper two_few;
      exact = refl;
    }
