-- From a call's plan to what is known of it: what calls of one kind have in common.
--     after_append, allowed_append, units_allowed     deeds one list after another
--     Made, made_join          acts that lead from a heap to a heap, each of them allowed when it is done
--     map_append               the deeds of acts one list after another
--     on_test                  what holds by a test, where it came out true and where it came out false
--     quiet                    a call that changes nothing
--     made_anew                a call that is refused or makes the heap anew
--     acts_once                a call that is refused or does one act that takes nothing
--     by_units                 a call that is refused or does units first: what is left to show is what it does after them
--     by_none, by_acts         which is nothing, or acts that may be refused then
-- Assumes nothing.
use Prim.Native.Nat.{ℕ, zero, suc, ◌*◌, ◌≤◌, ◌<◌}
use mathlib.Core.Path.{◌≡◌, refl, sym, ◌∙◌, ap, subst}
use mathlib.Core.Bool.{Bool, true, false}
use mathlib.Core.Logic.{◌≢◌}
use mathlib.Core.List.{List, [], ◌∷◌, ◌++◌, map}
use native.Mathlib.Omega.{arith}
use lib.Dec.{eqb}
use lib.ListN.{replicate}
use borrow.Author.Tests.{eqb-true}
use Rattle.std.specs.Prelude.{if◌then◌else◌}
use Rattle.machine.specs.Heap.{Heap}
use Rattle.machine.specs.Answers.{Given, answering, refuse, done, unless}
use Rattle.machine.specs.Units.{RunEnd, stopped, run}
use Rattle.machine.specs.Allocate.{units_due}
use Rattle.machine.specs.WellFormed.{WellFormed}
use Rattle.machine.proofs.Tests.{clash}
use Rattle.theory_promises.specs.Deeds.{Act, acted, Allows, takes, Deed, a_unit, an_act, deed, after, AllAllowed, takes_in}
use Rattle.theory_promises.specs.Plans.{acting, nothing, anew_unless, act_unless, acts_unless, units_unless}
use Rattle.theory_promises.specs.Known.{Keeps}
use Rattle.theory_promises.proofs.RunMoves.{run_is}
use Rattle.theory_promises.proofs.Refusing.{Fine}

pub after_append : (ds es : List Deed) (h : Heap) → after (ds ++ es) h ≡ after es (after ds h)
unfolding after
after_append [] es h = refl
after_append (d ∷ ds) es h = after_append ds es (deed d h)

pub allowed_append : (ds es : List Deed) (h : Heap) → AllAllowed ds h → AllAllowed es (after ds h) → AllAllowed (ds ++ es) h
unfolding after
allowed_append [] es h a b = b
allowed_append (d ∷ ds) es h a b = (a.0, allowed_append ds es (deed d h) a.1 b)

pub map_append : (ys zs : List Act) → map an_act (ys ++ zs) ≡ map an_act ys ++ map an_act zs
map_append [] zs = refl
map_append (a ∷ ys) zs = ap (λ (ds : List Deed). an_act a ∷ ds) (map_append ys zs)

-- the acts ys lead from k to j
pub record Made (ys : List Act) (k j : Heap) : Type 0 where
  pub allowed : AllAllowed (map an_act ys) k
  pub whole : j ≡ after (map an_act ys) k

pub made_join : {ys zs : List Act} {k i j : Heap} → Made ys k i → Made zs i j → Made (ys ++ zs) k j
made_join {ys} {zs} {k} {i} {j} s t =
    record {
      allowed = subst (λ (ds : List Deed). AllAllowed ds k) (sym (map_append ys zs))
          (allowed_append (map an_act ys) (map an_act zs) k s.allowed (subst (AllAllowed (map an_act zs)) s.whole t.allowed));
      whole = t.whole ∙ ap (after (map an_act zs)) s.whole ∙ sym (after_append (map an_act ys) (map an_act zs) k)
          ∙ ap (λ (ds : List Deed). after ds k) (sym (map_append ys zs));
    }

pub units_allowed : (n : ℕ) (h : Heap) → AllAllowed (replicate n a_unit) h
units_allowed zero h = tt
units_allowed (suc n) h = (tt, units_allowed n (deed a_unit h))

-- what holds by a test, where the test came out true and where it came out false
pub on_test : (P : Bool → Type 0) (t : Bool) → (t ≡ true → P true) → (t ≡ false → P false) → P t
on_test P true p q = p refl
on_test P false p q = q refl

pub quiet : (n : ℕ) (h : Heap) (g : Given) → g.heap ≡ h → Fine g.answer.refusal → Keeps (nothing n) h g
unfolding after
quiet n h g e r =
    record {
      anew = λ z. clash z refl;
      whole = λ z. e;
      allowed = tt;
      paid = omega arith;
      few = omega arith;
      undamaged = r.eight;
      wanting = λ z. absurd (r.seven z);
    }

-- a call that makes the heap k, by a test
pub made_anew : (t : Bool) (r : ℕ) (h k : Heap) → (t ≡ true → WellFormed k) → (t ≡ false → eqb r 0 ≡ false) → Fine r
    → Keeps (anew_unless (if t then done 0 k else refuse r h).answer.refusal) h (if t then done 0 k else refuse r h)
made_anew t r h k f n x =
    on_test (λ (t : Bool). Keeps (anew_unless (if t then done 0 k else refuse r h).answer.refusal) h (if t then done 0 k else refuse r h)) t
    (λ e.
    record {
      anew = λ z. f e;
      whole = λ z. absurd (z refl);
      allowed = tt;
      paid = omega arith;
      few = omega arith;
      undamaged = λ z. absurd (omega arith);
      wanting = λ z. absurd (omega arith);
    })
    (λ e.
    subst (λ (b : Bool). Keeps (record { anew = b; asked = 0; units = 0; acts = [] }) h (refuse r h)) (sym (n e)) (quiet 0 h (refuse r h) refl x))

pub acts_once : (r : ℕ) (a : Act) (h : Heap) → takes a ≡ 0 → (r ≡ 0 → Allows a h) → Fine r → Keeps (act_unless r a) h (unless r h (done 0 (acted a h)))
unfolding unless after deed
acts_once r a h z w x =
    on_test (λ (t : Bool). Keeps (acting 0 0 (if t then a ∷ [] else [])) h (if t then done 0 (acted a h) else refuse r h)) (eqb r 0)
    (λ t.
    record {
      anew = λ y. clash y refl;
      whole = λ y. refl;
      allowed = (w (eqb-true r 0 t), tt);
      paid = rw z (omega arith);
      few = omega arith;
      undamaged = λ y. absurd (omega arith);
      wanting = λ y. absurd (omega arith);
    })
    (λ t. quiet 0 h (refuse r h) refl x)

module _ (h : Heap) (f : WellFormed h) (n : ℕ) where
  abbrev k : Heap
  k = after (replicate n a_unit) h

  pub by_units : (r b : ℕ) (next : Heap → List Act) (give : RunEnd → Given) → Fine r
      → (r ≡ 0 → Keeps (acting b n (next k)) h (give (stopped 0 n k)))
      → Keeps (units_unless r b n next h) h (unless r h (give (run n 0 h)))
  unfolding unless
  by_units r b next give x y =
      subst (λ (e : RunEnd). Keeps (acting b (if eqb r 0 then n else 0) (acts_unless r (next e.heap))) h (if eqb r 0 then give e else refuse r h))
      (sym (run_is n h f))
      (on_test (λ (t : Bool). Keeps (acting b (if t then n else 0) (if t then next k else [])) h (if t then give (stopped 0 n k) else refuse r h)) (eqb r 0)
      (λ t. y (eqb-true r 0 t))
      (λ t. quiet b h (refuse r h) refl x))

  -- no acts
  pub by_none : (r b v : ℕ) → r ≢ 8 → (r ≡ 7 → (units_due h.regs * b ≤ n) × (k.regs.count < b)) → Keeps (acting b n []) h (answering r v n k)
  unfolding after
  by_none r b v x y =
      record {
        anew = λ z. clash z refl;
        whole = λ z. sym (after_append (replicate n a_unit) [] h);
        allowed = tt;
        paid = omega arith;
        few = omega arith;
        undamaged = x;
        wanting = y;
      }

  -- the acts ys, which lead to j, unless they are refused by r
  pub by_acts : (r b v : ℕ) (ys : List Act) (j : Heap) → (r ≡ 0 → Made ys k j)
      → units_due h.regs * takes_in (map an_act ys) ≤ n → takes_in (map an_act ys) ≤ b
      → r ≢ 8 → (r ≡ 7 → (units_due h.regs * b ≤ n) × (k.regs.count < b))
      → Keeps (acting b n (acts_unless r ys)) h (if eqb r 0 then answering 0 v n j else answering r 0 n k)
  by_acts r b v ys j a p q x y =
      on_test (λ (t : Bool). Keeps (acting b n (if t then ys else [])) h (if t then answering 0 v n j else answering r 0 n k)) (eqb r 0)
      (λ t.
      record {
        anew = λ z. clash z refl;
        whole = λ z. (a (eqb-true r 0 t)).whole ∙ sym (after_append (replicate n a_unit) (map an_act ys) h);
        allowed = (a (eqb-true r 0 t)).allowed;
        paid = p;
        few = q;
        undamaged = λ z. absurd (omega arith);
        wanting = λ z. absurd (omega arith);
      })
      (λ t. by_none r b 0 x y)
