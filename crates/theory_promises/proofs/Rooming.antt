-- Room is never wanting: the rest of demand 3.
--     cycles_enough            N cycles' worth of allocations pay for a cycle: 2M + 2 ≤ U · N
--     due_pace                 the units due for a block are a pace at least
--     few_view                 the few reachable blocks, in the view
--     call_event               a call is an event of the abstract collector: its units, and then acts that they have paid for
--     call_keeps               a call that makes nothing anew keeps M and the pace
--     Held m u k n h j         the calls from h to j are a session of the abstract collector, frugal where the free list of h is tidy
--     held, settled, sound     so are those of a session from a fresh heap, which is settled and sound
--     left_count               its free count, in the view
--     not_wanting              a call isn't refused for want of room where its units leave as many blocks free as it asks for
--     no_want                  what is said of any further call holds of the calls of the session
--     room_for, margin_for     the promises where no call asks for more than B blocks
--     room_as_read, margin_as_read     the same with N + B - 1 for N, which follows
--     each_one                 every call but a chain of two blocks or more asks for one block at most
--     room_enough, margin      the promises, with B = 1
-- Assumes nothing.
use Prim.Native.Nat.{ℕ, ◌+◌, ◌-◌, ◌*◌, ◌≤◌}
use mathlib.Core.Path.{◌≡◌, refl, sym, ◌∙◌, ap, subst}
use mathlib.Core.Logic.{◌≢◌}
use mathlib.Core.List.{List, [], ◌∷◌, ◌++◌, map}
use native.Mathlib.Nat.{mul-le-mul_right}
use native.Mathlib.Omega.{arith}
use lib.ListN.{replicate}
use borrow.Author.Tests.{ne_eqb}
use Rattle.machine.specs.declared.Regs.{Regs}
use Rattle.machine.specs.Heap.{Heap}
use Rattle.machine.specs.Allocate.{units_due}
use Rattle.machine.specs.WellFormed.{WellFormed}
use Rattle.machine.specs.Format.{formatted}
use Rattle.machine.specs.Session.{Call, does, session}
use Rattle.machine.specs.Session.Call.{Format, Read, Look, StoreNumber, StoreReference, SetRoot, Allocate, Work, Audit}
use Rattle.machine.specs.Session.Call.{AllocateChain, ReadField, StoreFieldNumber, StoreFieldReference, State, Save, Load}
use Rattle.machine.proofs.Tests.{by_eq}
use Rattle.machine.proofs.Rounding.{round_enough}
use Rattle.theory_moves.specs.Heaps.{Sound}
use Rattle.theory_moves.specs.Runs.{Run, units, OnlyUnits}
use Rattle.theory_moves.specs.Demand3.{unused, Event, Session, over, next, Settled}
use Rattle.theory_moves.specs.Sharper.{Frugal}
use Rattle.theory_moves.proofs.Room.{fresh_settled, enough_room, room_margin}
use Rattle.theory_moves.specs.Demand3 as abstract
use Rattle.machine.proofs.Steps.{never}
use Rattle.theory_promises.specs.View.{view}
use Rattle.theory_promises.specs.Deeds.{Deed, a_unit, an_act, deed, after}
use Rattle.theory_promises.specs.Plans.{plan, deeds, worked, Resets, asks}
use Rattle.theory_promises.specs.Sessions.{NoReset, Proper}
use Rattle.theory_promises.specs.Demand3.{cycles, Few, Good, Premises, Asking, RoomFor, MarginFor, RoomAsRead, MarginAsRead}
use Rattle.theory_promises.specs.Sharper.{NoWant}
use Rattle.theory_promises.specs.Demand3.{Single, Singles, EachOne, RoomEnough, Margin}
use Rattle.theory_promises.proofs.Viewing.{wf_shape}
use Rattle.theory_promises.proofs.Reaching.{view_reachable}
use Rattle.theory_promises.proofs.Counts.{free_count}
use Rattle.theory_promises.proofs.RunMoves.{units_worked}
use Rattle.theory_promises.proofs.FreshHeap.{fresh_tint, fresh_view, fresh_formed}
use Rattle.theory_promises.proofs.Planning.{after_append}
use Rattle.theory_promises.proofs.Calls.{known, calls_are_deeds, deeds_allowed}
use Rattle.theory_promises.proofs.Courses.{deeds_run, acts_free, call_formed}
use Rattle.theory_promises.proofs.Peaks.{Tidy, call_thrifty}

pub cycles_enough : (m u : ℕ) → 1 ≤ u → 2 * m + 2 ≤ u * cycles m u
unfolding cycles
cycles_enough m u l = round_enough (2 * m + 2) u l

-- a pace of units is due for a block
due_pace : (r : Regs) → r.pace ≤ units_due r
unfolding units_due
due_pace r = by_eq r.pace 0 (λ z. omega arith) (λ z. simp (ne_eqb r.pace 0 z) (omega arith))

paid_pace : (r : Regs) (n x : ℕ) → units_due r * n ≤ x → r.pace * n ≤ x
paid_pace r n x l = omega (arith, mul-le-mul_right n (due_pace r))

proper_right : (ds es : List Deed) (h : Heap) → Proper (ds ++ es) h → Proper es (after ds h)
unfolding after
proper_right [] es h p = p
proper_right (d ∷ ds) es h p = proper_right ds es (deed d h) p.1

pub few_view : (k : ℕ) (h : Heap) → Few k h → abstract.Few k (view h)
few_view k h f = record { list = f.list; short = f.short; has = λ x r. f.has x (view_reachable r) }

pub call_event : (m u n : ℕ) (c : Call) (h : Heap) → h.regs.blocks ≡ m → h.regs.pace ≡ u → WellFormed h → (Resets c h → ⊥)
    → asks c h ≤ n → Proper (deeds c h) h → Event m u n (view h) (view (does c h).heap)
call_event m u n c h e q f r b p =
    let a = plan c h in
    let k = known c h f in
    let units = replicate a.units a_unit in
    let w = units_worked m a.units h e f in
    let v = deeds_run m (map an_act a.acts) (worked c h) w.blocks w.formed k.allowed in
    subst (λ (j : Heap). Event m u n (view h) (view j)) (sym (k.whole r ∙ after_append units (map an_act a.acts) h))
    (record {
      between = view (worked c h);
      work = w.run;
      only = w.only;
      acts = v.run;
      still = v.units ∙ acts_free a.acts;
      proper = v.proper (proper_right units (map an_act a.acts) h p);
      most = omega (arith, v.taken, k.few, b);
      pace = rw (v.taken, w.long, ← q) (paid_pace h.regs _ a.units k.paid);
    })

pub call_keeps : (h : Heap) → WellFormed h → (c : Call) → (Resets c h → ⊥) → ((does c h).heap.regs.blocks ≡ h.regs.blocks) × ((does c h).heap.regs.pace ≡ h.regs.pace)
call_keeps h f c n =
    let e = calls_are_deeds h f c n in
    let q = deeds_run h.regs.blocks (deeds c h) h refl f (deeds_allowed h f c) in
    (ap (λ (k : Heap). k.regs.blocks) e ∙ q.blocks, ap (λ (k : Heap). k.regs.pace) e ∙ q.pace)

pub record Held (m u k n : ℕ) (h j : Heap) : Type 0 where
  pub events : Session m u n k (view h) (view j)
  pub frugal : Tidy h → Frugal events
  pub blocks : j.regs.blocks ≡ m
  pub pace : j.regs.pace ≡ u
  pub formed : WellFormed j

session_held : (m u k n : ℕ) (cs : List Call) (h : Heap) → h.regs.blocks ≡ m → h.regs.pace ≡ u → WellFormed h
    → NoReset cs h → Asking n cs h → Good k cs h → Held m u k n h (session cs h)
unfolding session
session_held m u k n [] h e q f r a g = record { events = over; frugal = λ o. tt; blocks = e; pace = q; formed = f }
session_held m u k n (c ∷ cs) h e q f r a g =
    let s = call_keeps h f c r.0 in
    let t = session_held m u k n cs (does c h).heap (s.0 ∙ e) (s.1 ∙ q) (call_formed h f c) r.1 a.1 g.1 in
    record {
      events = next (call_event m u n c h e q f r.0 a.0 g.0.0) (few_view k (does c h).heap g.0.1) t.events;
      frugal = λ o. let y = call_thrifty m c h e f r.0 o in (y.most, t.frugal y.tidy);
      blocks = t.blocks;
      pace = t.pace;
      formed = t.formed;
    }

module _ (m u k n : ℕ) (cs : List Call) (q : Premises m u k cs) (a : Asking n cs (formatted m u)) where
  abbrev j : Heap
  j = session cs (formatted m u)

  pub held : Held m u k n (formatted m u) j
  unfolding formatted
  held = session_held m u k n cs (formatted m u) refl refl (fresh_formed m u q.some q.most q.pace) q.formats a q.good

  pub settled : Settled m k (view (formatted m u))
  unfolding formatted
  settled = fresh_settled m k (view (formatted m u)) refl (fresh_tint m u q.some q.most q.pace)

  pub sound : Sound m (view (formatted m u))
  unfolding formatted
  sound = fresh_view m u q.some q.most q.pace

  -- the free count, in the view
  counted : (h : Heap) → h.regs.blocks ≡ m → WellFormed h → unused m (view h) ≡ h.regs.count
  counted h e f = subst (λ (x : ℕ). unused x (view h) ≡ h.regs.count) e (free_count h (wf_shape h f))

  pub left_count : unused m (view j) ≡ j.regs.count
  left_count = counted j held.blocks held.formed

  pub not_wanting : (c : Call)
      → ((r : Run m (view j) (view (worked c j))) → OnlyUnits r → u * asks c j ≤ units r → asks c j ≤ unused m (view (worked c j)))
      → (does c j).answer.refusal ≢ 7
  not_wanting c room z =
      let y = (known c j held.formed).wanting z in
      let w = units_worked m (plan c j).units j held.blocks held.formed in
      let paid : u * asks c j ≤ units w.run = rw w.long (subst (λ (x : ℕ). x * asks c j ≤ (plan c j).units) held.pace (paid_pace j.regs (asks c j) (plan c j).units y.0)) in
      let s = room w.run w.only paid in
      let t = counted (worked c j) w.blocks w.formed in
      let x = y.1 in
      absurd (omega arith)

-- the first calls of a session
resets_left : (cs ds : List Call) (h : Heap) → NoReset (cs ++ ds) h → NoReset cs h
resets_left [] ds h n = tt
resets_left (c ∷ cs) ds h n = (n.0, resets_left cs ds (does c h).heap n.1)

good_left : (k : ℕ) (cs ds : List Call) (h : Heap) → Good k (cs ++ ds) h → Good k cs h
good_left k [] ds h g = tt
good_left k (c ∷ cs) ds h g = (g.0, good_left k cs ds (does c h).heap g.1)

asking_left : (n : ℕ) (cs ds : List Call) (h : Heap) → Asking n (cs ++ ds) h → Asking n cs h
asking_left n [] ds h a = tt
asking_left n (c ∷ cs) ds h a = (a.0, asking_left n cs ds (does c h).heap a.1)

-- and the next
asking_next : (n : ℕ) (cs : List Call) (c : Call) (ds : List Call) (h : Heap) → Asking n (cs ++ (c ∷ ds)) h → asks c (session cs h) ≤ n
unfolding session
asking_next n [] c ds h a = a.0
asking_next n (b ∷ cs) c ds h a = asking_next n cs c ds (does b h).heap a.1

premises_left : (m u k : ℕ) (cs ds : List Call) → Premises m u k (cs ++ ds) → Premises m u k cs
premises_left m u k cs ds q =
    record {
      some = q.some;
      most = q.most;
      paced = q.paced;
      pace = q.pace;
      formats = resets_left cs ds (formatted m u) q.formats;
      good = good_left k cs ds (formatted m u) q.good;
    }

-- what is said of any further call holds of the calls of the session
pub no_want : (R : ℕ → ℕ → ℕ → ℕ → Type 0)
    → ((m u k n : ℕ) (cs : List Call) → Premises m u k cs → Asking n cs (formatted m u) → R m u k n
    → (c : Call) → asks c (session cs (formatted m u)) ≤ n → (does c (session cs (formatted m u))).answer.refusal ≢ 7)
    → NoWant R
no_want R further =
    record {
      within = λ m u k n cs c ds q a l.
          further m u k n cs (premises_left m u k cs (c ∷ ds) q) (asking_left n cs (c ∷ ds) (formatted m u) a) l c (asking_next n cs c ds (formatted m u) a);
      further = further;
    }

pub room_for : RoomFor
room_for = record { within = served.within; further = served.further }
  where
    served : NoWant (λ m u k n. k + 2 * cycles m u + n ≤ m + 1)
    served =
        no_want (λ m u k n. k + 2 * cycles m u + n ≤ m + 1) (λ m u k n cs q a l c b.
        not_wanting m u k n cs q a c (λ r o p.
        enough_room m u n k (cycles m u) _ _ _ (cycles_enough m u q.paced) (sound m u k n cs q a) (settled m u k n cs q a) (held m u k n cs q a).events r o _ b p l))

pub margin_for : MarginFor
margin_for m u k n cs q a =
    let s = room_margin m u n k (cycles m u) _ _ (cycles_enough m u q.paced) (sound m u k n cs q a) (settled m u k n cs q a) (held m u k n cs q a).events in
    omega (arith, s, left_count m u k n cs q a)

-- with N + B - 1 for N there is B - 1 more than room enough
pub room_as_read : RoomAsRead
room_as_read =
    record {
      within = λ m u k n cs c ds q a l. room_for.within m u k n cs c ds q a (omega arith);
      further = λ m u k n cs q a l c b. room_for.further m u k n cs q a (omega arith) c b;
    }

pub margin_as_read : MarginAsRead
margin_as_read m u k n cs q a = omega (arith, margin_for m u k n cs q a)

-- one line for each call
asks_one : (c : Call) (h : Heap) → Single c → asks c h ≤ 1
unfolding plan
asks_one (Format m u) h s = omega arith
asks_one (Read b w) h s = omega arith
asks_one (Look b) h s = omega arith
asks_one (StoreNumber b w v) h s = omega arith
asks_one (StoreReference b w t) h s = omega arith
asks_one (SetRoot t) h s = omega arith
asks_one (Allocate b w) h s = omega arith
asks_one (AllocateChain b w n) h s = s b w n refl
asks_one (ReadField b k) h s = omega arith
asks_one (StoreFieldNumber b k v) h s = omega arith
asks_one (StoreFieldReference b k t) h s = omega arith
asks_one (Work n) h s = omega arith
asks_one Audit h s = omega arith
asks_one (State b) h s = omega arith
asks_one (Save out) h s = omega arith
asks_one (Load i) h s = omega arith

asking_one : (cs : List Call) (h : Heap) → Singles cs → Asking 1 cs h
asking_one [] h s = tt
asking_one (c ∷ cs) h s = (asks_one c h s.0, asking_one cs (does c h).heap s.1)

pub each_one : EachOne
each_one = record { call = asks_one; calls = asking_one }

pub room_enough : RoomEnough
room_enough m u k cs q a l b w = room_for.further m u k 1 cs q a (omega arith) (Allocate b w) (each_one.call (Allocate b w) (session cs (formatted m u)) (λ x y n e. never (cc)))

pub margin : Margin
margin m u k cs q a = omega (arith, margin_for m u k 1 cs q a)
