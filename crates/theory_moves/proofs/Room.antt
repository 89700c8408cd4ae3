-- Room is never wanting: with a steady pace of units for each block taken, the heap doesn't fill up.
--     fresh_settled        a fresh heap is Settled
--     Account M U B K P h  what is known between two events, as long as at most P blocks are at or below the mark
--     settled_account, event_account, session_account     it is known at the start, after an event, after a session
--     account_room         it bounds the allocated blocks, with those that are about to be taken
--     room_within          the statement RoomWithin
--     sharper_room, sharper_margin     the statements SharperRoom and SharperMargin: with M for P
--     enough_room, room_margin     the statements EnoughRoom and RoomMargin: they follow
--     frugal_account       so after a frugal session for which P blocks are enough
--     rest_untouched       the statement RestUntouched
-- Two neighbouring cycles together have at most 2(K + P + 2) units, and so take at most 2N + B - 1 blocks.
-- Assumes nothing.
use Prim.Native.Nat.{ℕ, ◌+◌, ◌*◌, ◌≤◌, ◌<◌}
use mathlib.Core.Path.{◌≡◌}
use mathlib.Core.Logic.{◌≢◌}
use mathlib.Core.List.{[]}
use native.Mathlib.Omega.{arith}
use native.Mathlib.Nat.{mul-le-mul_left}
use lib.ListN.{length}
use Rattle.theory_reach.specs.Sums.{Block}
use Rattle.theory_reach.proofs.Splits.{by_le}
use Rattle.theory_moves.specs.Tints.{Free}
use Rattle.theory_moves.specs.Heaps.{Abs, idle, marking, Sound, span}
use Rattle.theory_moves.specs.Runs.{Run, rest, units, taken, OnlyUnits}
use Rattle.theory_moves.specs.Demand3.{Event, Session, over, next, Settled, allocated, Few, EnoughRoom, RoomMargin}
use Rattle.theory_moves.specs.Sharper.{RoomWithin, SharperRoom, SharperMargin, Frugal, RestUntouched}
use Rattle.theory_moves.proofs.Heaps.{span_most, reached_live}
use Rattle.theory_moves.proofs.Runs.{run_sound, run_mark}
use Rattle.theory_moves.proofs.Working.{work_mark}
use Rattle.theory_moves.proofs.Ahead.{ahead_idle}
use Rattle.theory_moves.proofs.Bounds.{all_blocks, due_off}
use Rattle.theory_moves.proofs.Taking.{allocated_in, run_stands}
use Rattle.theory_moves.proofs.Ledger.{Ledger, work_ledger, act_ledger}

-- what is known between two events
pub record Account (M U B K P : ℕ) (h : Abs) : Type 0 where
  pub sound : Sound M h
  pub few : Few K h
  pub within : span h ≤ P
  pub ledger : Ledger M U B K P 0 h

pub fresh_settled : (M K : ℕ) (h : Abs) → h.phase ≡ idle → ((b : ℕ) → Block M b → h.tint b ≡ Free) → Settled M K h
fresh_settled M K h p f =
    record { phase = p; list = []; short = omega arith; has = λ g l a. absurd (a (f g l)) }

settled_few : {M K : ℕ} {h : Abs} → Sound M h → Settled M K h → Few K h
settled_few s f =
    record {
      list = f.list;
      short = f.short;
      has = λ x r.
          let l = reached_live s r in
          f.has x l.block l.allocated;
    }

event_span : {M U B : ℕ} {h k : Abs} → Event M U B h k → span h ≤ span k
event_span e = omega (arith, run_mark e.work, run_mark e.acts)

session_span : {M U B K : ℕ} {h k : Abs} → Session M U B K h k → span h ≤ span k
session_span over = omega arith
session_span (next e f s) = omega (arith, event_span e, session_span s)

session_sound : {M U B K : ℕ} {h k : Abs} → Sound M h → Session M U B K h k → Sound M k
session_sound s over = s
session_sound s (next e f r) = session_sound (run_sound (run_sound s e.work) e.acts) r

-- a product that is less has a factor that is less
factor : (U a b : ℕ) → U * a + 1 ≤ U * b → a < b
factor U a b l = by_le b a (λ i. absurd (omega (arith, mul-le-mul_left U i))) (λ i. i)

module _ {M U B K P : ℕ} where
  pub settled_account : {h : Abs} → Sound M h → Settled M K h → span h ≤ P → Account M U B K P h
  settled_account {h} s f w =
      let off : h.phase ≢ marking = λ p. omega (arith, f.phase) in
      record {
        sound = s;
        few = settled_few s f;
        within = w;
        ledger =
            record {
              start = h;
              covered = f.list;
              spent = 1;
              marked = 0;
              earlier = 0;
              taken = 0;
              marks =
                  record {
                    reach = settled_few s f;
                    traced = record { trail = λ p. absurd (off p); early = λ p. absurd (off p) };
                    counted = omega (arith, due_off M h off);
                    few = omega arith;
                  };
              cover = record { waits = λ g b a n. absurd (n (f.has g b a)) };
              listed = omega (arith, f.short);
              short = omega (arith, ahead_idle h f.phase);
              paid = omega arith;
              both = omega arith;
              room = omega (arith, allocated_in M h f.list f.has, f.short);
            };
      }

  -- the units for n blocks
  account_work : {h k : Abs} → Account M U B K P h → (r : Run M h k) → OnlyUnits r → (n : ℕ) → n ≤ B → U * n ≤ units r
      → Ledger M U B K P (U * n) k
  account_work a r o n m p = work_ledger (U * n) a.sound a.few a.within a.ledger r o (omega arith) (mul-le-mul_left U m)

  pub event_account : {h k : Abs} → Account M U B K P h → Event M U B h k → Few K k → span k ≤ P → Account M U B K P k
  event_account a e f w =
      let s = run_sound a.sound e.work in
      let b = account_work a e.work e.only (length (taken e.acts)) e.most e.pace in
      record {
        sound = run_sound s e.acts;
        few = f;
        within = w;
        ledger = act_ledger 0 s b e.acts e.still e.proper (omega arith);
      }

  pub session_account : {h k : Abs} → Account M U B K P h → Session M U B K h k → span k ≤ P → Account M U B K P k
  session_account a over w = a
  session_account a (next e f s) w = session_account (event_account a e f (omega (arith, session_span s))) s w

  module _ (N : ℕ) (large : K + P + 2 ≤ U * N) where
    -- allocated blocks, with those that the units were for
    pub account_room : {h k : Abs} → Account M U B K P h → (r : Run M h k) → OnlyUnits r → (n : ℕ) → n ≤ B → U * n ≤ units r
        → allocated M k + n < K + 2 * N + B
    account_room a r o n m p =
        let b = account_work a r o n m p in
        let f : U * (b.earlier + b.taken + n) + 1 ≤ U * (2 * N + B) = omega (arith, b.both, b.short, b.marks.few, a.within, work_mark r o, large) in
        omega (arith, b.room, factor U _ _ f)

    module _ (enough : K + 2 * N + B ≤ P + 1) where
      pub frugal_account : {h k : Abs} → Account M U B K P h → (s : Session M U B K h k) → Frugal s → Account M U B K P k
      frugal_account a over g = a
      frugal_account a (next e f s) g =
          let n = account_room a e.work e.only (length (taken e.acts)) e.most e.pace in
          frugal_account (event_account a e f (omega (arith, g.0, a.within, n, run_stands e.acts))) s g.1

pub room_within : RoomWithin
room_within M U B K N P h k i large s f e w r o n m p =
    account_room N large (session_account (settled_account s f (omega (arith, session_span e))) e w) r o n m p

pub sharper_room : SharperRoom
sharper_room M U B K N h k i large s f e r o n m p q =
    let w = span_most (session_sound s e) in
    omega (arith, room_within M U B K N M h k i large s f e w r o n m p, all_blocks M i)

pub sharper_margin : SharperMargin
sharper_margin M U B K N h k large s f e =
    let w = span_most (session_sound s e) in
    omega (arith, room_within M U B K N M h k k large s f e w rest tt 0 (omega arith) (omega arith), all_blocks M k)

-- demand 3 itself: where K is more than M there is nothing to show
pub enough_room : EnoughRoom
enough_room M U B K N h k i large s f e r o n m p q =
    by_le K M
    (λ l. sharper_room M U B K N h k i (omega arith) s f e r o n m p q)
    (λ l. omega arith)

pub room_margin : RoomMargin
room_margin M U B K N h k large s f e =
    by_le K M
    (λ l. sharper_margin M U B K N h k (omega arith) s f e)
    (λ l. omega arith)

pub rest_untouched : RestUntouched
rest_untouched =
    record {
      stays = λ M U B K N P h k large enough s f w e g. (frugal_account N large enough (settled_account s f w) e g).within;
      room = λ M U B K N P h k i large enough high s f w e g r o n m p.
          omega (arith, account_room N large (frugal_account N large enough (settled_account s f w) e g) r o n m p, all_blocks M i);
    }
