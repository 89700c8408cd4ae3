-- The books of the running cycle and the one before, in a heap where takes are paid for by units.
--     Ledger M U B K P credit h     credit being units done that wait for their takes, U for each block
--     less_ledger          credit may be given up
--     begin_ledger         a beginning: the running cycle becomes the earlier one
--     move_ledger, unit_ledger     any other move; any unit
--     work_ledger          units in a row: the credit rises to what is wanted
--     act_ledger           moves of the running program: the credit pays for the takes
-- start is the heap at the beginning of the running cycle, spent its units so far, marked the blocks that it has marked, taken the blocks taken
-- since it began, earlier those taken in the cycle before. A cycle has 2 units, one for each block marked, at most K (marks), and one for each
-- block at or below the mark (short): at most K + P + 2 where those are at most P. All takes since this cycle began, but for those of the event
-- that it began in, at most B, were paid for in it (paid); all takes of both cycles, but for those of the event that the earlier one began in, in
-- the two (both). A beginning finds only blocks that were reachable at the beginning before, at most K, and those taken since (cover, listed,
-- room). Units leave the mark where it is, so work_ledger asks once that at most P blocks are at or below it; acts may raise it.
-- Assumes nothing.
use Prim.Native.Nat.{ℕ, ◌+◌, ◌*◌, ◌≤◌}
use mathlib.Core.Path.{◌≡◌}
use mathlib.Core.List.{List, ◌++◌}
use native.Mathlib.Omega.{arith}
use lib.ListN.{length, length-append}
use Rattle.theory_reach.proofs.Splits.{by_le}
use Rattle.theory_moves.specs.Heaps.{Abs, Sound, span}
use Rattle.theory_moves.specs.Moves.{Begin, Move, begin}
use Rattle.theory_moves.specs.Kinds.{cost, marked, begun, taking}
use Rattle.theory_moves.specs.Runs.{Run, rest, step, units, taken, Proper, ProperRun, OnlyUnits}
use Rattle.theory_moves.specs.Demand3.{allocated, Few}
use Rattle.theory_moves.proofs.ByKind.{begins?, unit_none, unit_mark, kind_cost}
use Rattle.theory_moves.proofs.Soundness.{move_sound}
use Rattle.theory_moves.proofs.Garbage.{Inside}
use Rattle.theory_moves.proofs.Ahead.{ahead, ahead_marking, move_ahead_most}
use Rattle.theory_moves.proofs.Taking.{Cover, few_over, move_stands, cover_on, cover_begin, cover_end}
use Rattle.theory_moves.proofs.Marking.{Marked, begin_marked, marked_on}

pub record Ledger (M U B K P credit : ℕ) (h : Abs) : Type 0 where
  pub start : Abs
  pub covered : List ℕ
  pub spent : ℕ
  pub marked : ℕ
  pub earlier : ℕ
  pub taken : ℕ
  pub marks : Marked M K start marked h
  pub cover : Cover M (Inside start) covered h
  pub listed : length covered ≤ K + taken
  pub short : spent + ahead h ≤ 2 + marked + span h
  pub paid : U * taken + 1 + credit ≤ spent + U * B
  pub both : U * (earlier + taken) + 1 + credit ≤ K + P + 2 + spent + U * B
  pub room : allocated M h ≤ K + earlier + taken

module _ {M U B K P : ℕ} where
  -- credit may be given up
  pub less_ledger : {c : ℕ} {h : Abs} (d : ℕ) → Ledger M U B K P c h → d ≤ c → Ledger M U B K P d h
  less_ledger d b l =
      record {
        start = b.start;
        covered = b.covered;
        spent = b.spent;
        marked = b.marked;
        earlier = b.earlier;
        taken = b.taken;
        marks = b.marks;
        cover = b.cover;
        listed = b.listed;
        short = b.short;
        paid = omega (arith, b.paid);
        both = omega (arith, b.both);
        room = b.room;
      }

  module _ {h k : Abs} {c : ℕ} (d : ℕ) (s : Sound M h) (b : Ledger M U B K P c h) where
    -- a new cycle: the running one becomes the earlier
    pub begin_ledger : Few K h → span h ≤ P → Begin M h k → d ≤ c + 1 → d ≤ U * B → Ledger M U B K P d k
    begin_ledger f w m l o =
        record {
          start = h;
          covered = f.list;
          spent = 1;
          marked = 0;
          earlier = b.taken;
          taken = 0;
          marks = begin_marked s m f;
          cover = cover_begin s m f;
          listed = omega (arith, f.short);
          short = omega (arith, ahead_marking k m.after);
          paid = omega arith;
          both = omega (arith, b.paid, b.short, b.marks.few);
          room = omega (arith, move_stands (begin m), cover_end b.cover m.before, b.listed);
        }

    pub move_ledger : (m : Move M h k) → begun m ≡ 0 → Proper m → d + U * length (taking m) ≤ c + cost m → Ledger M U B K P d k
    move_ledger m e p l =
        record {
          start = b.start;
          covered = taking m ++ b.covered;
          spent = b.spent + cost m;
          marked = b.marked + marked m;
          earlier = b.earlier;
          taken = b.taken + length (taking m);
          marks = marked_on s b.marks m e p;
          cover = cover_on s b.cover m e p;
          listed = omega (arith, length-append (taking m) b.covered, b.listed);
          short = omega (arith, move_ahead_most s m e, b.short);
          paid = omega (arith, b.paid);
          both = omega (arith, b.both);
          room = omega (arith, move_stands m, b.room);
        }

    pub unit_ledger : Few K h → span h ≤ P → (m : Move M h k) → cost m ≡ 1 → d ≤ c + 1 → d ≤ U * B → Ledger M U B K P d k
    unit_ledger f w m e l o =
        begins? m (λ y. begin_ledger f w y l o) (λ n. move_ledger m n (λ z. absurd (z (unit_none m e).0)) (rw (unit_none m e).1 (omega arith)))

  -- units: the credit rises to what is wanted
  pub work_ledger : {h k : Abs} {c : ℕ} (d : ℕ) → Sound M h → Few K h → span h ≤ P → Ledger M U B K P c h
      → (r : Run M h k) → OnlyUnits r → d ≤ c + units r → d ≤ U * B → Ledger M U B K P d k
  work_ledger d s f w b rest o l n = less_ledger d b (omega arith)
  work_ledger {c = c} d s f w b (step {i = j} m r) o l n =
      let s' = move_sound s m in
      let f' = few_over s m o.0 f in
      let e = o.0 in
      let w' : span j ≤ P = omega (arith, unit_mark m e) in
      by_le d c
      (λ i. work_ledger d s' f' w' (unit_ledger d s b f w m e (omega arith) n) r o.1 (omega arith) n)
      (λ i. work_ledger d s' f' w' (unit_ledger (c + 1) s b f w m e (omega arith) (omega arith)) r o.1 (omega arith) n)

  -- moves of the running program: the credit pays for the takes
  pub act_ledger : {h k : Abs} {c : ℕ} (d : ℕ) → Sound M h → Ledger M U B K P c h → (r : Run M h k) → units r ≡ 0 → ProperRun r
      → d + U * length (taken r) ≤ c → Ledger M U B K P d k
  act_ledger d s b rest u p l = less_ledger d b (omega arith)
  act_ledger d s b (step m r) u p l =
      let z : begun m ≡ 0 = omega (arith, kind_cost m) in
      let l' = simp length-append at l in
      act_ledger d (move_sound s m)
      (move_ledger (d + U * length (taken r)) s b m z p.0 (omega arith))
      r (omega arith) p.1 (omega arith)
