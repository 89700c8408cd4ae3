-- Instances of the sharper demand 3: its premises can be met, also where demand 3's rule can't, and its bounds are met exactly.
--     Enough U M B K N     the premises on numbers; Asked U M B K N: those of demand 3
--     slow_refused         no heap has what demand 3 asks for with U ≤ 4
--     three_enough, four_enough     U = 3 is enough with M = 5K + 3B + 1, and U = 4 with M = 3K + 2 for single blocks
--     five_enough, five_asked   for K = 100, U = 5 and single blocks: 236 blocks are enough, and demand 3 asks for 504
--     two_refused          U ≤ 2 is never enough
--     alone_few            a root that names nothing is all that is reachable
--     keeping, keeping_most, keeping_marks, keeping_units     a cycle on a heap of one block, the root: it marks K blocks, in K + H + 2 units
--     rescue_none, rescue_marks     the cycle in which a block out of reach is made the root: it marks a block, where none was reachable
--     only_two, held, first, first_session, first_frugal     a session on a fresh heap of 20 blocks, with U = 3: one event, which takes a block
--     first_below          9 blocks are enough for it: the mark stays at or below 10
-- Assumes nothing.
use Prim.Native.Nat.{ℕ, zero, suc, ◌+◌, ◌*◌, ◌≤◌}
use mathlib.Core.Path.{◌≡◌, refl, sym, ◌∙◌}
use mathlib.Core.Logic.{◌≢◌}
use mathlib.Core.Bool.{false}
use mathlib.Core.List.Memᴰ
use mathlib.Core.List.{[], ◌∷◌}
use native.Mathlib.Omega.{arith}
use native.Mathlib.Nat.{mul-le-mul_right}
use Rattle.theory_reach.specs.Sums.{sum, total}
use Rattle.theory_reach.proofs.Splits.{never}
use Rattle.theory_reach.proofs.Reaching.{reach_closed}
use Rattle.theory_moves.specs.Tints.{Tint, White, Grey, Black, Free, turned}
use Rattle.theory_moves.specs.Heaps.{Abs, named, ref, Sound, span}
use Rattle.theory_moves.specs.Moves.{Begin, new_marking, TakeRoot, begin, mark, turn, sweep, take_root}
use Rattle.theory_moves.specs.Runs.{Run, rest, step, units, marks}
use Rattle.theory_moves.specs.Demand3.{allocated, Few, Event, Session, over, next}
use Rattle.theory_moves.specs.Sharper.{Frugal}
use Rattle.theory_moves.proofs.Soundness.{move_sound}
use Rattle.theory_moves.proofs.Marking.{marks_reachable}
use Rattle.theory_moves.proofs.Room.{fresh_settled, rest_untouched}
use Rattle.theory_moves.proofs.Instances.{small, unused, unused_sound, opening, skipped, handing, blackening, turning, sparing, out_of_reach, rescue}

pub record Enough (U M B K N : ℕ) : Type 0 where
  pub large : K + M + 2 ≤ U * N
  pub room : K + 2 * N + B ≤ M + 1

pub record Asked (U M B K N : ℕ) : Type 0 where
  pub large : 2 * M + 2 ≤ U * N
  pub room : K + 2 * N + B ≤ M + 1

pub slow_refused : (U M B K N : ℕ) → U ≤ 4 → 1 ≤ B → Asked U M B K N → ⊥
slow_refused U M B K N u b a = absurd (omega (arith, mul-le-mul_right N u, a.large, a.room))

pub two_refused : (U M B K N : ℕ) → U ≤ 2 → 1 ≤ B → Enough U M B K N → ⊥
two_refused U M B K N u b a = absurd (omega (arith, mul-le-mul_right N u, a.large, a.room))

pub three_enough : (B K : ℕ) → Enough 3 (5 * K + 3 * B + 1) B K (2 * K + B + 1)
three_enough B K = record { large = omega arith; room = omega arith }

pub four_enough : (K : ℕ) → Enough 4 (3 * K + 2) 1 K (K + 1)
four_enough K = record { large = omega arith; room = omega arith }

pub five_enough : Enough 5 236 1 100 68
five_enough = record { large = omega arith; room = omega arith }

pub five_asked : (M N : ℕ) → Asked 5 M 1 100 N → 504 ≤ M
five_asked M N a = omega (arith, a.large, a.room)

-- the block is the root
rooted_sound : Sound 1 (small 0 0 2 White)
rooted_sound = move_sound (unused_sound 1) (take_root 2 handing)

-- a root that names nothing
pub alone_few : (h : Abs) → h.root ≡ 2 → ((b w : ℕ) → h.is_ref b w ≡ false) → Few 1 h
unfolding named
alone_few h r f =
    record {
      list = 2 ∷ [];
      short = omega arith;
      has = λ x i.
          Memᴰ.head
          (reach_closed h.root (ref h) (λ x. x ≡ 2) (λ x e n. e ∙ r) (λ b w x z e n. absurd (n (sym e ∙ rw (f b w) refl))) i);
    }

rooted_few : Few 1 (small 0 0 2 White)
rooted_few = alone_few (small 0 0 2 White) refl (λ b w. refl)

rooted : Begin 1 (small 0 0 2 White) (small 1 0 2 Grey)
rooted =
    record {
      before = refl;
      after = refl;
      root = refl;
      mark = refl;
      tints = λ b l. turned (omega (arith, l.low, l.high)) refl refl;
      cells = λ b l. record { words = λ w. refl; bits = λ w. refl };
    }

abbrev pub keeping : Run 1 (small 1 0 2 Grey) (small 0 0 2 White)
keeping = step (mark 2 blackening) (step (turn (turning 2 Black (λ z. never (cc)))) (step (sweep sparing) rest))

pub keeping_most : marks keeping ≤ 1
keeping_most =
    marks_reachable.few rooted_sound rooted rooted_few keeping refl
    ((λ z. absurd (z refl)), ((λ z. absurd (z refl)), ((λ z. absurd (z refl)), tt)))

pub keeping_marks : marks keeping ≡ 1
keeping_marks = refl

pub keeping_units : 1 + units keeping ≡ 1 + span (small 0 0 2 White) + 2
keeping_units = refl

pub rescue_none : Few 0 (small 0 0 0 White)
rescue_none = record { list = []; short = omega arith; has = λ x r. absurd (out_of_reach 0 0 White r) }

pub rescue_marks : marks rescue ≡ 1
rescue_marks = refl

-- block 2 alone is allocated
unfoldable pub only_two : ℕ → Tint
only_two zero = Free
only_two (suc zero) = Free
only_two (suc (suc zero)) = Black
only_two (suc (suc (suc b))) = Free

abbrev pub held : Abs
held = record { phase = 1; position = 0; root = 2; mark = 2; tint = only_two; word = λ b w. 0; is_ref = λ b w. false }

others_free : (c : ℕ) → c ≢ 2 → only_two c ≡ Free
unfolding only_two
others_free zero n = refl
others_free (suc zero) n = refl
others_free (suc (suc zero)) n = absurd (n refl)
others_free (suc (suc (suc b))) n = refl

-- a fresh heap's block is taken while the collector marks
taking_first : TakeRoot 20 2 (unused 1) held
unfolding only_two
taking_first =
    record {
      steady = record { phase = refl; position = refl };
      root = refl;
      taken =
          record {
            block = record { low = omega arith; high = omega arith };
            free = refl;
            fresh = new_marking refl refl;
            mark = refl;
            tints = λ c l n. others_free c n;
            emptied = refl;
            words = λ u n. refl;
            bits = λ u. refl;
          };
      others = λ c l n. record { words = λ w. refl; bits = λ w. refl };
    }

-- three units: a cycle of two, and the next cycle's beginning
pub first : Event 20 3 1 (unused 0) held
first =
    record {
      between = unused 1;
      work = step (begin (opening 20)) (step (turn (skipped 20)) (step (begin (opening 20)) rest));
      only = (refl, (refl, (refl, tt)));
      acts = step (take_root 2 taking_first) rest;
      still = refl;
      proper = ((λ z. absurd (z refl)), tt);
      most = omega arith;
      pace = omega arith;
    }

abbrev pub first_session : Session 20 3 1 1 (unused 0) held
first_session = next first (alone_few held refl (λ b w. refl)) over

held_allocated : allocated 20 held ≡ 1
unfolding total sum only_two
held_allocated = refl

pub first_frugal : Frugal first_session
first_frugal = (omega (arith, held_allocated), tt)

pub first_below : span held ≤ 9
first_below =
    let f = fresh_settled 20 1 (unused 0) refl (λ b l. refl) in
    rest_untouched.stays 20 3 1 1 4 9 (unused 0) held (omega arith) (omega arith) (unused_sound 20) f (omega arith) first_session first_frugal
