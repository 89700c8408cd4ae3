-- A heap of one block, out of reach, and a cycle over it: with the premise it is freed, without it it stays. And the block never handed out: the
-- cycle skips its sweep.
--     only n p q r t       the heap of one block, which names nothing: mark, phase, position, root and the block's colour
--     small p q r t        so where the block was handed out
--     unused p             and where it never was; so a heap of any size
--     small_sound          idle, white and out of reach, it is sound
--     out_of_reach         the block is out of reach
--     started, turning, clearing, sparing, saving, blackening, opening, skipped, handing     the moves
--     plain, plain_freed, plain_exact     a cycle with no write: the block is freed, after 3 units
--     FreeAlong, freed_along     a block that a run frees is free somewhere along it
--     rescue, rescue_kept, rescue_begins, rescue_improper     a cycle in which the root is set to that block, then out of reach: it is not freed
--     unused_sound, skip, skip_ends, skip_exact     a cycle on an unused heap: its turn is its last unit, after 2 units
--     late, late_apart     the block is taken after that unit: with the mark as it is then, the count would be wrong
-- Assumes nothing.
use Prim.Native.Nat.{ℕ, ◌+◌}
use mathlib.Core.Path.{◌≡◌, refl, sym}
use mathlib.Core.Logic.{◌≢◌, ◌⊎◌, inl, inr}
use mathlib.Core.Bool.{false}
use native.Mathlib.Omega.{arith}
use Rattle.theory_reach.specs.Sums.{Block}
use Rattle.theory_reach.proofs.Splits.{never}
use Rattle.theory_reach.proofs.Reaching.{reach_closed}
use Rattle.theory_moves.specs.Tints.{Tint, White, Grey, Black, Free, turned, stayed}
use Rattle.theory_moves.specs.Heaps.{Abs, named, ref, span, Reached, Sound}
use Rattle.theory_moves.specs.Moves.{SameCells, Begin, Mark, entering, skipping, Turn, freeing, whitening, ending, Sweep, SetRoot, new_idle, TakeRoot}
use Rattle.theory_moves.specs.Moves.{Move, mark, turn, sweep, set_root, take_root}
use Rattle.theory_moves.specs.Kinds.{cost, ended}
use Rattle.theory_moves.specs.Runs.{Run, rest, step, units, marks, begins, ProperRun, FreedIn, freed_now, freed_later}
use Rattle.theory_moves.proofs.Heaps.{off_sweep, fresh_sound}
use Rattle.theory_moves.proofs.ByKind.{ended_here}
use Rattle.theory_moves.proofs.Garbage.{garbage_goes}
use Rattle.theory_moves.proofs.Bounds.{cycle_short}

abbrev pub only : ℕ → ℕ → ℕ → ℕ → Tint → Abs
only n p q r t =
    record { phase = p; position = q; root = r; mark = n; tint = λ b. t; word = λ b w. 0; is_ref = λ b w. false }

abbrev pub small : ℕ → ℕ → ℕ → Tint → Abs
small p q r t = only 2 p q r t

abbrev pub unused : ℕ → Abs
unused p = only 1 p 0 0 Free

block : Block 1 2
block = record { low = omega arith; high = omega arith }

two : {c : ℕ} → Block 1 c → c ≡ 2
two l = omega arith

same : {n p q r n' p' q' r' : ℕ} {t t' : Tint} (b : ℕ) → SameCells (only n p q r t) (only n' p' q' r' t') b
same b = record { words = λ w. refl; bits = λ w. refl }

pub small_sound : Sound 1 (small 0 0 0 White)
unfolding named
small_sound =
    record {
      idle_grey = λ p b l z. never (cc);
      idle_black = λ p b l z. never (cc);
      root_marked = λ p n. absurd (n refl);
      named_marked = λ p. absurd (omega arith);
      swept_grey = λ p. absurd (omega arith);
      swept_black = λ p. absurd (omega arith);
      mark_low = omega arith;
      mark_high = omega arith;
      mark_over = λ b l i. absurd (omega (arith, l.high));
      swept_mark = λ p. absurd (omega arith);
      root_live = λ n. absurd (n refl);
      named_live = λ b w x l e n. absurd (n (sym e));
      free_names = λ b w l f. refl;
    }

pub out_of_reach : (p q : ℕ) (t : Tint) {x : ℕ} → Reached (small p q 0 t) x → ⊥
unfolding named
out_of_reach p q t =
    reach_closed 0 (ref (small p q 0 t)) (λ x. ⊥) (λ x e n. n e) (λ b w x z e n. z)

-- with no root nothing turns grey
opens : (M n : ℕ) (t : Tint) → Begin M (only n 0 0 0 t) (only n 1 0 0 t)
opens M n t =
    record {
      before = refl;
      after = refl;
      root = refl;
      mark = refl;
      tints = λ b l. stayed (λ e. absurd (omega (arith, l.low))) refl;
      cells = λ b l. same b;
    }

pub started : Begin 1 (small 0 0 0 White) (small 1 0 0 White)
started = opens 1 2 White

pub turning : (r : ℕ) (t : Tint) → t ≢ Grey → Turn 1 (small 1 0 r t) (small 2 2 r t)
turning r t n =
    record {
      before = refl;
      turning = entering (λ z. absurd (omega arith)) refl refl;
      root = refl;
      mark = refl;
      none = λ b l. n;
      tints = λ b l. refl;
      cells = λ b l. same b;
    }

-- the last sweep move, on the one block
pub clearing : Sweep 1 (small 2 2 0 White) (small 0 0 0 Free)
clearing =
    record {
      before = refl;
      block = block;
      short = omega arith;
      onward = ending refl refl;
      root = refl;
      mark = refl;
      here = freeing refl refl (λ w. refl);
      tints = λ c l n. absurd (n (two l));
      cells = λ c l n. same c;
    }

pub sparing : Sweep 1 (small 2 2 2 Black) (small 0 0 2 White)
sparing =
    record {
      before = refl;
      block = block;
      short = omega arith;
      onward = ending refl refl;
      root = refl;
      mark = refl;
      here = whitening refl refl (same 2);
      tints = λ c l n. absurd (n (two l));
      cells = λ c l n. same c;
    }

-- the root is set to the block, which is white and live, and out of reach: the barrier greys it
pub saving : SetRoot 1 2 (small 1 0 0 White) (small 1 0 2 Grey)
saving =
    record {
      steady = record { phase = refl; position = refl };
      root = refl;
      mark = refl;
      target = λ n. off_sweep (λ z. absurd (omega arith)) block (λ z. never (cc));
      tints = λ c l. turned (record { phase = refl; target = two l }) refl refl;
      cells = λ c l. same c;
    }

pub blackening : Mark 1 2 (small 1 0 2 Grey) (small 1 0 2 Black)
blackening =
    record {
      before = refl;
      after = refl;
      root = refl;
      mark = refl;
      block = block;
      grey = refl;
      black = refl;
      tints = λ c l n. absurd (n (two l));
      cells = λ c l. same c;
    }

abbrev pub plain : Run 1 (small 1 0 0 White) (small 0 0 0 Free)
plain = step (turn (turning 0 White (λ z. never (cc)))) (step (sweep clearing) rest)

pub plain_freed : FreedIn 1 2 (small 1 0 0 White) (small 0 0 0 Free) plain
plain_freed =
    garbage_goes 1 2 (small 0 0 0 White) (small 1 0 0 White) (small 0 0 0 Free) small_sound started block (λ z. never (cc)) (out_of_reach 0 0 White) plain refl
    ((λ z. absurd (z refl)), ((λ z. absurd (z refl)), tt))
    refl

pub plain_exact : 1 + units plain ≡ 2 + marks plain + span (small 0 0 0 Free)
plain_exact = refl

abbrev pub rescue : Run 1 (small 1 0 0 White) (small 0 0 2 White)
rescue =
    step (set_root 2 saving) (step (mark 2 blackening) (step (turn (turning 2 Black (λ z. never (cc)))) (step (sweep sparing) rest)))

-- a block that a run frees is free somewhere along it
abbrev pub FreeAlong : {M : ℕ} {h k : Abs} → ℕ → Run M h k → Type 0
FreeAlong g rest = ⊥
FreeAlong g (step {i = i} m r) = (i.tint g ≡ Free) ⊎ FreeAlong g r

pub freed_along : {M g : ℕ} {h k : Abs} {r : Run M h k} → FreedIn M g h k r → FreeAlong g r
freed_along (freed_now m w a f) = inl f
freed_along (freed_later m d) = inr (freed_along d)

pub rescue_kept : FreedIn 1 2 (small 1 0 0 White) (small 0 0 2 White) rescue → ⊥
rescue_kept d = go (freed_along d)
  where
    go : FreeAlong 2 rescue → ⊥
    go (inl e) = never (cc)
    go (inr (inl e)) = never (cc)
    go (inr (inr (inl e))) = never (cc)
    go (inr (inr (inr (inl e)))) = never (cc)
    go (inr (inr (inr (inr z)))) = z

-- all that garbage_goes asks for holds of it, but for this
pub rescue_improper : ProperRun rescue → ⊥
rescue_improper p = out_of_reach 1 0 White (p.0 (λ z. absurd (omega arith)))

pub rescue_begins : begins rescue ≡ 0
rescue_begins = refl

pub unused_sound : (M : ℕ) → Sound M (unused 0)
unused_sound M = fresh_sound M (unused 0) refl refl refl (λ b l. refl) (λ b w l. refl)

pub opening : (M : ℕ) → Begin M (unused 0) (unused 1)
opening M = opens M 1 Free

-- the turn, with nothing to sweep
pub skipped : (M : ℕ) → Turn M (unused 1) (unused 0)
skipped M =
    record {
      before = refl;
      turning = skipping refl refl;
      root = refl;
      mark = refl;
      none = λ b l z. never (cc);
      tints = λ b l. refl;
      cells = λ b l. same b;
    }

abbrev pub skip : Move 1 (unused 1) (unused 0)
skip = turn (skipped 1)

pub skip_ends : ended skip ≡ 1
skip_ends = ended_here (λ z. absurd (omega arith)) refl skip

-- before it there is the beginning alone
pub skip_exact : 1 + cost skip ≡ 2 + span (unused 0)
skip_exact = cycle_short.exact (unused_sound 1) (opening 1) rest refl skip skip_ends

-- the idle heap's one block is taken
pub handing : TakeRoot 1 2 (unused 0) (small 0 0 2 White)
handing =
    record {
      steady = record { phase = refl; position = refl };
      root = refl;
      taken =
          record {
            block = block;
            free = refl;
            fresh = new_idle refl refl;
            mark = refl;
            tints = λ c l n. absurd (n (two l));
            emptied = refl;
            words = λ u n. refl;
            bits = λ u. refl;
          };
      others = λ c l n. same c;
    }

abbrev pub late : Run 1 (unused 1) (small 0 0 2 White)
late = step skip (step (take_root 2 handing) rest)

pub late_apart : 1 + units late ≢ 2 + marks late + span (small 0 0 2 White)
late_apart z = absurd (omega arith)
