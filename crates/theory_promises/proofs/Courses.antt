-- Allowed deeds in a row, from a well-formed heap, are a run of moves.
--     Ran m h ds               the run, and what is known of it by the deeds
--     deeds_run                allowed deeds are one
--     acts_free                acts are no units
--     deeds_formed             they leave a well-formed heap well-formed
--     allowed_left, allowed_right     parts of allowed deeds are allowed
--     call_formed              every call leaves a well-formed heap well-formed
--     session_is               a session without reset is its deeds, each of them allowed
-- Assumes nothing.
use Prim.Native.Nat.{ℕ}
use mathlib.Core.Path.{◌≡◌, refl, sym, ◌∙◌, ap, subst}
use mathlib.Core.Logic.{⊎_elim}
use mathlib.Core.List.{List, [], ◌∷◌, ◌++◌, map}
use native.Mathlib.Omega.{arith}
use lib.ListN.{length}
use Rattle.machine.specs.Heap.{Heap}
use Rattle.machine.specs.WellFormed.{WellFormed}
use Rattle.machine.specs.Session.{Call, does, session}
use Rattle.machine.proofs.Tests.{by_test, clash}
use Rattle.theory_moves.specs.Runs.{Run, rest, joined, units, begins, marks, ProperRun}
use Rattle.theory_moves.proofs.Runs.{joined_units, joined_begins, joined_marks, joined_proper}
use Rattle.theory_moves.proofs.Acting.{joined_taken}
use Rattle.theory_reach.specs.Sums as sums
use Rattle.theory_moves.specs.Runs as runs
use Rattle.theory_promises.specs.View.{view}
use Rattle.theory_promises.specs.Deeds.{Act, Deed, an_act, deed, AllAllowed, takes_in, after}
use Rattle.theory_promises.specs.Plans.{plan, deeds}
use Rattle.theory_promises.specs.Sessions.{NoReset, session_deeds, Proper, NoBegin, FreedBy, later, units_in, marks_in}
use Rattle.theory_promises.proofs.Viewing.{wf_shape, wf_sound}
use Rattle.theory_promises.proofs.Reaching.{reachable_view}
use Rattle.theory_promises.proofs.DeedMoves.{FreedAt, freed_split, DeedRun, deed_run, deed_formed}
use Rattle.theory_promises.proofs.Planning.{after_append, allowed_append}
use Rattle.theory_promises.proofs.Calls.{known, calls_are_deeds, deeds_allowed}

pub record Ran (m : ℕ) (h : Heap) (ds : List Deed) : Type 0 where
  pub blocks : (after ds h).regs.blocks ≡ m
  pub pace : (after ds h).regs.pace ≡ h.regs.pace
  pub run : Run m (view h) (view (after ds h))
  pub units : units run ≡ units_in ds
  pub taken : length (runs.taken run) ≡ takes_in ds
  pub proper : Proper ds h → ProperRun run
  pub begins : NoBegin ds h → begins run ≡ 0
  pub marks : marks run ≡ marks_in ds h
  pub freed : (g : ℕ) → sums.Block m g → FreedAt g run → FreedBy g ds h
  pub formed : WellFormed (after ds h)

pub deeds_run : (m : ℕ) (ds : List Deed) (h : Heap) → h.regs.blocks ≡ m → WellFormed h → AllAllowed ds h → Ran m h ds
unfolding after
deeds_run m [] h e f a =
    record { blocks = e; pace = refl; run = rest; units = refl; taken = refl; proper = λ p. tt; begins = λ p. refl; marks = refl; freed = λ g l q. absurd q; formed = f }
deeds_run m (d ∷ ds) h e f a =
    let v = subst (λ (n : ℕ). DeedRun n h d) e (deed_run h (wf_shape h f) (wf_sound h f) d a.0) in
    let q = deeds_run m ds (deed d h) v.blocks (deed_formed h f d a.0) a.1 in
    record {
      blocks = q.blocks;
      pace = q.pace ∙ v.pace;
      run = joined v.run q.run;
      units = omega (arith, joined_units v.run q.run, v.units, q.units);
      taken = omega (arith, joined_taken v.run q.run, v.taken, q.taken);
      proper = λ p. joined_proper v.run q.run (v.proper (λ n. reachable_view (p.0 n))) (q.proper p.1);
      begins = λ p. omega (arith, joined_begins v.run q.run, v.begins p.0, q.begins p.1);
      marks = omega (arith, joined_marks v.run q.run, v.marks, q.marks);
      freed = λ g l x. ⊎_elim (λ y. v.freed g l y ds) (λ y. later d (q.freed g l y)) (freed_split g v.run q.run x);
      formed = q.formed;
    }

pub acts_free : (ys : List Act) → units_in (map an_act ys) ≡ 0
acts_free [] = refl
acts_free (a ∷ ys) = omega (arith, acts_free ys)

pub deeds_formed : (ds : List Deed) (h : Heap) → WellFormed h → AllAllowed ds h → WellFormed (after ds h)
deeds_formed ds h f a = (deeds_run _ ds h refl f a).formed

pub allowed_left : (ds es : List Deed) (h : Heap) → AllAllowed (ds ++ es) h → AllAllowed ds h
allowed_left [] es h a = tt
allowed_left (d ∷ ds) es h a = (a.0, allowed_left ds es (deed d h) a.1)

pub allowed_right : (ds es : List Deed) (h : Heap) → AllAllowed (ds ++ es) h → AllAllowed es (after ds h)
unfolding after
allowed_right [] es h a = a
allowed_right (d ∷ ds) es h a = allowed_right ds es (deed d h) a.1

pub call_formed : (h : Heap) → WellFormed h → (c : Call) → WellFormed (does c h).heap
call_formed h f c =
    by_test (plan c h).anew (λ t. (known c h f).anew t)
    (λ t. subst WellFormed (sym (calls_are_deeds h f c (λ z. clash z t))) (deeds_formed (deeds c h) h f (deeds_allowed h f c)))

pub session_is : (cs : List Call) (h : Heap) → WellFormed h → NoReset cs h → (session cs h ≡ after (session_deeds cs h) h) × AllAllowed (session_deeds cs h) h
unfolding session session_deeds after
session_is [] h f n = (refl, tt)
session_is (c ∷ cs) h f n =
    let k = (does c h).heap in
    let e = calls_are_deeds h f c n.0 in
    let r = session_is cs k (call_formed h f c) n.1 in (
      r.0 ∙ ap (after (session_deeds cs k)) e ∙ sym (after_append (deeds c h) (session_deeds cs k) h),
      allowed_append (deeds c h) (session_deeds cs k) h (deeds_allowed h f c) (subst (AllAllowed (session_deeds cs k)) e r.1),
    )
