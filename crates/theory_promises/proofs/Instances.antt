-- The promises are not hollow: instances on the machine itself.
--     closes_has               a list that the test accepts has every reachable block
--     works_good, churn_unreset, churn_asks     allocations that the test accepts meet demand 3's premises
--     marks, sweeps            while marking or sweeping no unit starts a cycle
--     freed                    a block out of reach is freed by a cycle
--     survives                 a block out of reach that is stored as a target within the cycle is not
--     replaced, restored       a Load that answers 0 puts another heap in place of one; demand 2 holds from what it loaded
--     crowded                  demand 3 asks that no heap be loaded
--     new_chain                a chain of three blocks reads 0 in 21 fields
--     hand_arithmetic          cases 12 and 13 of document 01
--     chains_good              chains that the test accepts meet them
--     one_more                 an allocation asks for one block
--     roomy, roomy_chains      200 allocations that meet demand 3's premises, and 60 chains
-- Assumes nothing.
use Prim.Native.Nat.{ℕ, zero, suc, ◌+◌, ◌*◌, ◌≤◌}
use mathlib.Core.Path.{◌≡◌, refl, sym, ◌∙◌, ap, subst}
use mathlib.Core.Logic.{◌≢◌, ⊎_elim}
use mathlib.Core.Bool.{Bool, true, ◌&&◌, ◌||◌, not, true≢false}
use mathlib.Core.List.Memᴰ
use mathlib.Core.List.{List, [], ◌∷◌, ◌++◌, map, Memᴰ}
use native.Mathlib.Omega.{arith}
use lib.Dec.{eqb}
use lib.ListN.{replicate}
use borrow.Author.Tests.{eqb-true}
use Rattle.machine.specs.Tests.{◌▷◌}
use Rattle.machine.specs.declared.Colour.TheVariants.{White, Free}
use Rattle.machine.specs.Registers.{idle, marking, sweeping}
use Rattle.machine.specs.Colouring.{free_colour}
use Rattle.machine.specs.Heap.{Heap, colour_of, references_of}
use Rattle.machine.specs.Entry.{entry, holder_place}
use Rattle.machine.specs.Answers.{Given}
use Rattle.machine.specs.Units.{run}
use Rattle.machine.specs.Format.{formatted}
use Rattle.machine.specs.Allocate.{units_due, take_refusal}
use Rattle.machine.specs.Several.{first_frees, take_several_refusal}
use Rattle.machine.specs.Chain.{chain, chain_length}
use Rattle.machine.specs.Session.{does, session}
use Rattle.machine.specs.Session.Call.{Allocate, AllocateChain, Work, Load}
use Rattle.machine.specs.WellFormed.{Block}
use Rattle.machine.proofs.Tests.{both_true, either_true, if_ind, clash}
use Rattle.machine.proofs.Computing.{the_machine}
use Rattle.theory_audit.proofs.Words.{names_member}
use Rattle.theory_promises.specs.Reachable.{Reachable, is_root, is_named, IsFree}
use Rattle.theory_promises.specs.Deeds.{Act, acted, Deed, a_unit, an_act, deed, after}
use Rattle.theory_promises.specs.Plans.{form_acts, plan, deeds, Resets, asks}
use Rattle.theory_promises.specs.Sessions.{NoReset, session_deeds, Proper, NoBegin, FreedBy, now, later}
use Rattle.theory_promises.specs.Demand3.{cycles, Good, Premises, Asking}
use Rattle.theory_promises.specs.Instances.{fresh, leaving, before, left, plain, Freed, Survives, HandArithmetic, within, all_within}
use Rattle.theory_promises.specs.Instances.{names_within, closes, pair, goes_on, works, churn, by_turns, rooted, long, Roomy}
use Rattle.theory_promises.specs.Instances.{empty, holding, Replaced, saved_image, loaded, Restored, full, Crowded, NewChain, chains, trio, chains_work, RoomyChains}
use Rattle.theory_promises.proofs.FreshHeap.{fresh_formed}
use Rattle.theory_promises.proofs.Losing.{nothing_lost}
use Rattle.theory_promises.proofs.Collecting.{garbage_goes}
use Rattle.theory_promises.proofs.FreshChains.{fresh_chains}
use Rattle.theory_promises.proofs.Rooming.{room_for, margin_for}

within_has : (x : ℕ) (l : List ℕ) → within x l ≡ true → x ≢ 0 → Memᴰ x l
unfolding within
within_has x [] e n = absurd (n (eqb-true x 0 e))
within_has x (a ∷ l) e n =
    ⊎_elim (λ q. Memᴰ.head (eqb-true x a q)) (λ q. Memᴰ.tail (within_has x l q n)) (either_true (eqb x a) (within x l) e)

all_within_lem : (xs l : List ℕ) → all_within xs l ≡ true → (x : ℕ) → Memᴰ x xs → within x l ≡ true
unfolding all_within
all_within_lem [] l e x i = absurd (Memᴰ.not-nil i)
all_within_lem (a ∷ xs) l e x i =
    let t = both_true (within a l) (all_within xs l) e in
    ⊎_elim (λ s. rw s t.0) (λ j. all_within_lem xs l t.1 x j) (Memᴰ.cases_cons i)

names_within_lem : (h : Heap) (ks l : List ℕ) → names_within h ks l ≡ true → (a : ℕ) → Memᴰ a ks → a ≢ 0 → all_within (references_of h a) l ≡ true
unfolding names_within
names_within_lem h [] l e a i n = absurd (Memᴰ.not-nil i)
names_within_lem h (k ∷ ks) l e a i n =
    let t = both_true (eqb k 0 || all_within (references_of h k) l) (names_within h ks l) e in
    ⊎_elim
    (λ s. ⊎_elim (λ z. absurd (n (s ∙ eqb-true k 0 z))) (λ q. subst (λ (c : ℕ). all_within (references_of h c) l ≡ true) (sym s) q) (either_true (eqb k 0) (all_within (references_of h k) l) t.0))
    (λ j. names_within_lem h ks l t.1 a j n)
    (Memᴰ.cases_cons i)

reachable_some : {h : Heap} {b : ℕ} → Reachable h b → b ≢ 0
reachable_some (is_root e n) = n
reachable_some (is_named r q n) = n

pub closes_has : (h : Heap) (l : List ℕ) → closes h l ≡ true → {b : ℕ} → Reachable h b → Memᴰ b l
unfolding closes
closes_has h l e (is_root q n) =
    let t = both_true (within h.regs.root l) (names_within h l l) e in
    within_has _ l (rw q t.0) n
closes_has h l e (is_named {a} {b} r q n) =
    let t = both_true (within h.regs.root l) (names_within h l l) e in
    within_has b l (all_within_lem (references_of h a) l (names_within_lem h l l t.1 a (closes_has h l e r) (reachable_some r)) b (names_member h a b q)) n

units_proper : (n : ℕ) (ds : List Deed) → ((k : Heap) → Proper ds k) → (h : Heap) → Proper (replicate n a_unit ++ ds) h
units_proper zero ds p h = p h
units_proper (suc n) ds p h = (λ z. absurd (z refl), units_proper n ds p (deed a_unit h))

-- acts that name no target
record Nameless (ys : List Act) : Type 0 where
  proper : (k : Heap) → Proper (map an_act ys) k

no_acts : Nameless []
no_acts = record { proper = λ k. tt }

allocate_acts : (b w : ℕ) (h : Heap) → Nameless (plan (Allocate b w) h).acts
unfolding plan
allocate_acts b w h =
    if_ind Nameless (eqb (entry h ▷ holder_place h.regs.blocks b w) 0)
    (λ t. if_ind Nameless (eqb (take_refusal b (run (units_due h.regs) 0 h).heap) 0) (λ s. record { proper = λ k. (λ z. absurd (z refl), tt) }) (λ s. no_acts))
    (λ t. no_acts)

-- a chain's links are null when they are filled in, and become references by the taking of the next block
links_acts : (b w : ℕ) (xs : List ℕ) (n i : ℕ) → Nameless (form_acts chain b w xs n i)
unfolding form_acts
links_acts b w xs zero i = no_acts
links_acts b w xs (suc n) i =
    record { proper = λ k. (λ z. absurd (z refl), (λ z. absurd (z refl), (links_acts b w xs n (i + 1)).proper _)) }

chain_acts : (b w n : ℕ) (h : Heap) → Nameless (plan (AllocateChain b w n) h).acts
unfolding plan
chain_acts b w n h =
    let k = (run (n * units_due h.regs) 0 h).heap in
    if_ind Nameless (eqb (entry h ▷ holder_place h.regs.blocks b w ▷ chain_length n) 0)
    (λ t. if_ind Nameless (eqb (take_several_refusal n b k) 0) (λ s. links_acts b w (first_frees n k) n 0) (λ s. no_acts))
    (λ t. no_acts)

chain_proper : (b w n : ℕ) (h : Heap) → Proper (deeds (AllocateChain b w n) h) h
chain_proper b w n h =
    let p = plan (AllocateChain b w n) h in
    units_proper p.units (map an_act p.acts) (chain_acts b w n h).proper h

allocate_proper : (b w : ℕ) (h : Heap) → Proper (deeds (Allocate b w) h) h
allocate_proper b w h =
    let p = plan (Allocate b w) h in
    units_proper p.units (map an_act p.acts) (allocate_acts b w h).proper h

goes_on_lem : (g : Given) (reached : Heap → List ℕ) (rest : Heap → Bool) → goes_on g reached rest ≡ true → (closes g.heap (reached g.heap) ≡ true) × (rest g.heap ≡ true)
unfolding goes_on
goes_on_lem g reached rest e =
    let c = closes g.heap (reached g.heap) in
    both_true c (rest g.heap) (both_true (eqb g.answer.refusal 0) (c && rest g.heap) e).1

pub works_good : (bs : List ℕ) (h : Heap) → works bs h ≡ true → Good 2 (churn bs) h
unfolding works
works_good [] h e = tt
works_good (b ∷ bs) h e =
    let g = does (Allocate b 0) h in
    let t = goes_on_lem g pair (λ k. works bs k) e in
    ((allocate_proper b 0 h, record { list = pair g.heap; short = omega arith; has = λ x r. closes_has g.heap (pair g.heap) t.0 r }), works_good bs g.heap t.1)

pub churn_unreset : (bs : List ℕ) (h : Heap) → NoReset (churn bs) h
unfolding plan
churn_unreset [] h = tt
churn_unreset (b ∷ bs) h = (λ z. clash z refl, churn_unreset bs (does (Allocate b 0) h).heap)

pub churn_asks : (bs : List ℕ) (h : Heap) → Asking 1 (churn bs) h
unfolding plan
churn_asks [] h = tt
churn_asks (b ∷ bs) h = (omega arith, churn_asks bs (does (Allocate b 0) h).heap)

pub chains_good : (n : ℕ) (h : Heap) → chains_work n h ≡ true → Good 3 (chains n) h
unfolding chains_work
chains_good zero h e = tt
chains_good (suc n) h e =
    let g = does (AllocateChain 0 0 3) h in
    let t = goes_on_lem g trio (λ k. chains_work n k) e in
    ((chain_proper 0 0 3 h, record { list = trio g.heap; short = omega arith; has = λ x r. closes_has g.heap (trio g.heap) t.0 r }), chains_good n g.heap t.1)

chains_unreset : (n : ℕ) (h : Heap) → NoReset (chains n) h
unfolding plan
chains_unreset zero h = tt
chains_unreset (suc n) h = (λ z. clash z refl, chains_unreset n (does (AllocateChain 0 0 3) h).heap)

chains_ask : (n : ℕ) (h : Heap) → Asking 3 (chains n) h
unfolding plan
chains_ask zero h = tt
chains_ask (suc n) h = (omega arith, chains_ask n (does (AllocateChain 0 0 3) h).heap)

-- after no deed of ds is g free
unfoldable never_free : ℕ → List Deed → Heap → Bool
never_free g [] h = true
never_free g (d ∷ ds) h = not (free_colour (colour_of (deed d h) g)) && never_free g ds (deed d h)

never_freed : {g : ℕ} {ds : List Deed} {h : Heap} → FreedBy g ds h → never_free g ds h ≡ true → ⊥
unfolding never_free
never_freed {g} (now {ds} {h} k f) e =
    let t = both_true (not (free_colour (colour_of (deed a_unit h) g))) (never_free g ds (deed a_unit h)) e in
    clash (rw f.colour at t.0) refl
never_freed {g} (later {ds} {h} d f) e =
    never_freed f (both_true (not (free_colour (colour_of (deed d h) g))) (never_free g ds (deed d h)) e).1

not_free : White ≡ Free → ⊥
not_free e = true≢false (sym (ap free_colour e))

pub marks : marking ≡ idle → ⊥
marks e = absurd (omega arith)

pub sweeps : sweeping ≡ idle → ⊥
sweeps e = absurd (omega arith)

alone : Memᴰ {A = ℕ} 3 (2 ∷ []) → ⊥
alone i = let e = Memᴰ.eq_of_singleton i in absurd (omega arith)

three : Block 3 3
three = record { low = omega arith; high = omega arith }

pub freed : Freed
unfolding the_machine session_deeds plan acted deed after within all_within names_within closes
freed =
    let begun : NoBegin plain (deed a_unit left) = (marks, (marks, (sweeps, (sweeps, tt)))) in
    let proper : Proper plain (deed a_unit left) =
    (λ z. absurd (z refl), (λ z. absurd (z refl), (λ z. absurd (z refl), (λ z. absurd (z refl), tt)))) in
    let allocated : (IsFree left 3 → ⊥) = λ f. not_free f.colour in
    let unreached : (Reachable left 3 → ⊥) = λ r. alone (closes_has left (2 ∷ []) refl r) in
    record {
      deeds = refl;
      starts = refl;
      begun = begun;
      ends = refl;
      proper = proper;
      allocated = allocated;
      unreached = unreached;
      freed = garbage_goes fresh (fresh_formed 3 1 (omega arith) (omega arith) (omega arith)) (leaving ++ Work 5 ∷ [])
          (λ z. clash z refl, (λ z. clash z refl, (λ z. clash z refl, (λ z. clash z refl, (λ z. clash z refl, tt)))))
          before plain [] refl refl begun refl proper 3 three allocated unreached;
    }

pub survives : Survives
unfolding the_machine session_deeds plan acted deed after within all_within names_within closes never_free
survives =
    record {
      deeds = refl;
      starts = refl;
      begun = (λ z. z, (marks, (marks, (marks, (sweeps, (sweeps, tt))))));
      ends = refl;
      allocated = λ f. not_free f.colour;
      unreached = λ r. alone (closes_has left (2 ∷ []) refl r);
      answered = refl;
      improper = λ r. alone (closes_has (deed a_unit left) (2 ∷ []) refl r);
      white = refl;
      kept = λ f. never_freed f refl;
    }

pub replaced : Replaced
unfolding the_machine plan
replaced =
    record {
      reached = is_root refl (omega arith);
      answered = refl;
      gone = record { block = record { low = omega arith; high = omega arith }; colour = refl };
      reset = refl;
    }

loaded_is : loaded ≡ holding
unfolding the_machine
loaded_is = refl

loaded_reached : Reachable loaded 2
unfolding the_machine
loaded_reached = is_root refl (omega arith)

work_unreset : (n : ℕ) (h : Heap) → Resets (Work n) h → ⊥
unfolding plan
work_unreset n h e = clash e refl

pub restored : Restored
unfolding the_machine
restored =
    record {
      saved = refl;
      answered = refl;
      same = loaded_is;
      reached = loaded_reached;
      spared = λ n j.
          (nothing_lost.everywhere empty (fresh_formed 2 1 (omega arith) (omega arith) (omega arith)) (Load saved_image ∷ []) (Work n) (work_unreset n loaded)).kept 2 loaded_reached j;
    }

pub crowded : Crowded
unfolding the_machine plan cycles within all_within names_within closes
crowded =
    record {
      answered = refl;
      good = ((tt, record { list = []; short = omega arith; has = λ b r. closes_has full [] refl r }), tt);
      asking = (omega arith, tt);
      fits = omega arith;
      wanting = refl;
    }

pub new_chain : NewChain
unfolding the_machine
new_chain =
    record {
      answered = refl;
      value = refl;
      chain = fresh_chains fresh (fresh_formed 3 1 (omega arith) (omega arith) (omega arith)) 0 0 3 refl;
    }

pub hand_arithmetic : HandArithmetic
unfolding cycles
hand_arithmetic = record { many = refl; meets = omega arith; fails = λ l. omega arith; once = refl; small = omega arith }

long_works : works (by_turns rooted) (formatted 20 5) ≡ true
unfolding the_machine within all_within names_within closes goes_on works
long_works = refl

long_premises : Premises 20 5 2 long
long_premises =
    record {
      some = omega arith;
      most = omega arith;
      paced = omega arith;
      pace = omega arith;
      formats = churn_unreset (by_turns rooted) (formatted 20 5);
      good = works_good (by_turns rooted) (formatted 20 5) long_works;
    }

nine : cycles 20 5 ≡ 9
unfolding cycles
nine = refl

enough : 2 + 2 * cycles 20 5 ≤ 20
enough = rw nine (omega arith)

one_at_a_time : Asking 1 long (formatted 20 5)
one_at_a_time = churn_asks (by_turns rooted) (formatted 20 5)

pub one_more : (b w : ℕ) (h : Heap) → asks (Allocate b w) h ≤ 1
unfolding plan
one_more b w h = omega arith

pub roomy : Roomy
roomy =
    record {
      many = refl;
      spans = nine;
      premises = long_premises;
      asking = one_at_a_time;
      fits = enough;
      room = λ b w. room_for.further 20 5 2 1 long long_premises one_at_a_time (omega (arith, enough)) (Allocate b w) (one_more b w (session long (formatted 20 5)));
      margin = omega (arith, margin_for 20 5 2 1 long long_premises one_at_a_time);
    }

chained_works : chains_work 60 (formatted 19 6) ≡ true
unfolding the_machine within all_within names_within closes goes_on chains_work
chained_works = refl

chained_premises : Premises 19 6 3 (chains 60)
chained_premises =
    record {
      some = omega arith;
      most = omega arith;
      paced = omega arith;
      pace = omega arith;
      formats = chains_unreset 60 (formatted 19 6);
      good = chains_good 60 (formatted 19 6) chained_works;
    }

seven : cycles 19 6 ≡ 7
unfolding cycles
seven = refl

chain_asks : (b w n : ℕ) (h : Heap) → asks (AllocateChain b w n) h ≤ n
unfolding plan
chain_asks b w n h = omega arith

pub roomy_chains : RoomyChains
roomy_chains =
    let h = formatted 19 6 in
    let asking = chains_ask 60 h in
    record {
      many = refl;
      spans = seven;
      premises = chained_premises;
      asking = asking;
      fits = rw seven refl;
      room = λ b w. room_for.further 19 6 3 3 (chains 60) chained_premises asking (omega (arith, seven)) (AllocateChain b w 3) (chain_asks b w 3 (session (chains 60) h));
      margin = omega (arith, margin_for 19 6 3 3 (chains 60) chained_premises asking);
    }
