-- On a well-formed heap every unit is finished, is a move of the abstract collector, and leaves the heap's shape right.
--     Goes h e                 the unit that ended as e was finished and is a move from the view of h
--     unit_goes                every unit of a well-formed heap does
--     unit_begins              an idle unit is a beginning
-- Assumes nothing.
use Prim.Native.Nat.{ℕ}
use mathlib.Core.Path.{◌≡◌, refl, sym, ◌∙◌, ap, subst}
use mathlib.Core.Logic.{◌≢◌}
use mathlib.Core.Bool.{true}
use mathlib.Core.List.{List, [], ◌∷◌, Memᴰ}
use native.Mathlib.Omega.{arith}
use borrow.Author.Tests.{eq-eqb, ne_eqb}
use Rattle.machine.specs.declared.Colour.{Colour}
use Rattle.machine.specs.declared.Colour.TheVariants.{White, Grey, Black, Free, Outside}
use Rattle.machine.specs.declared.Step.{Step}
use Rattle.machine.specs.declared.Step.TheVariants.{Begin, Mark, Turn, Reclaim, Whiten, Pass}
use Rattle.machine.specs.Registers.{idle, marking, sweeping}
use Rattle.machine.specs.Colouring.{Colouring, first_grey, is_allocated}
use Rattle.machine.specs.Heap.{Heap, colouring, colour_of, references_of}
use Rattle.machine.specs.WellFormed.{Block}
use Rattle.machine.specs.OneUnit.{UnitEnd, finish, mark_step, sweep_step, step, met_word, begun, marked, sound, all_sound, turned, reclaimed, whitened, passed, act, unit}
use Rattle.machine.proofs.Tests.{both, by_eq, if_true, if_false}
use Rattle.machine.proofs.Steps.{never, turns}
use Rattle.machine.proofs.Kept.{colouring_fits}
use Rattle.machine.proofs.Meeting.{idle_begins, mark_steps, sweep_steps}
use Rattle.machine.proofs.Linked.{linked}
use Rattle.theory_audit.proofs.Words.{member_names}
use Rattle.theory_moves.specs.Heaps.{Sound}
use Rattle.theory_moves.specs.Moves.{Move}
use Rattle.theory_moves.specs.Kinds.{cost}
use Rattle.theory_moves.specs.Tints as tints
use Rattle.theory_moves.specs.Heaps as heaps
use Rattle.theory_moves.specs.Moves as moves
use Rattle.theory_moves.specs.Moves.Move.{begin, mark, turn, sweep}
use Rattle.theory_moves.specs.Kinds as moves_kinds
use Rattle.theory_promises.specs.Deeds.{a_unit}
use Rattle.theory_promises.specs.Sessions.{marking?}
use Rattle.theory_moves.proofs.Heaps.{not_white}
use Rattle.theory_promises.specs.View.{tint_of, view, Shape}
use Rattle.theory_promises.proofs.Viewing.{there, colour_is, allocated_tint, names_ref}
use Rattle.theory_promises.proofs.Coursing.{turned_same, advance_same}
use Rattle.theory_promises.proofs.MarkingMoves.{begin_move, begin_shape, mark_move, mark_shape, turn_move, turn_shape}
use Rattle.theory_promises.proofs.SweepingMoves.{position_block, reclaim_move, reclaim_link, reclaim_shape, whiten_move, whiten_shape, pass_move, pass_shape}
use Rattle.theory_promises.proofs.Counts.{free_count, not_all_free}
use Rattle.theory_promises.proofs.Links.{onto, past, Heads}

pub record Goes (h : Heap) (e : UnitEnd) : Type 0 where
  pub finished : e.finished ≡ true
  pub blocks : e.heap.regs.blocks ≡ h.regs.blocks
  pub pace : e.heap.regs.pace ≡ h.regs.pace
  pub move : Move h.regs.blocks (view h) (view e.heap)
  pub unit : cost move ≡ 1
  pub marks : moves_kinds.marked move ≡ marking? a_unit h
  -- what becomes of the first free block
  pub heads : Heads move h.regs.free e.heap.regs.free
  pub shape : Shape e.heap

-- references that are all 0 or allocated
all_sound_lem : (k : Colouring) (bs : List ℕ) → ((x : ℕ) → Memᴰ x bs → x ≢ 0 → is_allocated k x ≡ true) → all_sound k bs ≡ true
unfolding all_sound
all_sound_lem k [] f = refl
all_sound_lem k (b ∷ bs) f =
    both {a = sound k b}
    (by_eq b 0 (λ z. simp (eq-eqb b 0 z)) (λ n. simp (ne_eqb b 0 n) (f b (Memᴰ.head refl) n)))
    (all_sound_lem k bs (λ x i n. f x (Memᴰ.tail i) n))

module _ (h : Heap) (p : Shape h) (d : Sound h.regs.blocks (view h)) where
  abbrev m : ℕ
  m = h.regs.blocks

  -- the unit's act, once its step is known
  by_step : (s : Step) → s ≡ step m h.regs.phase h.regs.grey (met_word h) → Goes h (act s h) → Goes h (unit h)
  unfolding unit
  by_step s e g = subst (λ (t : Step). Goes h (act t h)) e g

  -- idle: the root is 0 or white
  root_white : h.regs.phase ≡ idle → h.regs.root ≢ 0 → colour_of h h.regs.root ≡ White
  root_white i n = colour_is (colour_of h h.regs.root) White (plain (colour_of h h.regs.root) refl (d.root_live n)) (λ z. never (cc))
    where
      plain : (c : Colour) → colour_of h h.regs.root ≡ c → heaps.Live m (view h) h.regs.root → tint_of c ≡ tints.White
      plain White e l = refl
      plain Grey e l = absurd (d.idle_grey i h.regs.root l.block (ap tint_of e))
      plain Black e l = absurd (d.idle_black i h.regs.root l.block (ap tint_of e))
      plain Free e l = absurd (l.allocated (ap tint_of e))
      plain Outside e l = absurd (l.allocated (ap tint_of e))

  idle_goes : h.regs.phase ≡ idle → Goes h (unit h)
  unfolding act begun
  idle_goes i =
      by_step Begin (idle_begins h i (root_white i))
      (record {
        finished = refl;
        blocks = refl;
        pace = refl;
        move = begin (begin_move h p i (root_white i));
        unit = refl;
        marks = simp (ne_eqb h.regs.phase marking (λ z. absurd (omega arith)));
        heads = refl;
        shape = begin_shape h p i (root_white i);
      })

  turn_goes : h.regs.phase ≡ marking → h.regs.grey ≡ 1 → Goes h (unit h)
  unfolding act turned
  turn_goes k o =
      by_step Turn (turns m _ _ _ k o)
      (record {
        finished = refl;
        blocks = turned_same (λ r. r.blocks) _ (λ x y r. refl);
        pace = turned_same (λ r. r.pace) _ (λ x y r. refl);
        move = turn (turn_move h p k o);
        unit = refl;
        marks = simp (eq-eqb h.regs.phase marking k, eq-eqb h.regs.grey 1 o);
        heads = turned_same (λ r. r.free) _ (λ x y r. refl);
        shape = turn_shape h p k o;
      })

  -- marking: the first of the grey list is grey, and what it names is 0 or live
  abbrev first : ℕ
  first = first_grey (colouring h)

  module _ (k : h.regs.phase ≡ marking) (n : h.regs.grey ≢ 1) where
    first_grey_lem : colour_of h first ≡ Grey
    first_grey_lem = linked.first (colouring h) p.greys n

    first_block : Block m first
    first_block = linked.first_block (colouring h) (colouring_fits h p.ready) n

    first_marks : Mark ≡ step m h.regs.phase h.regs.grey (met_word h)
    first_marks = ap mark_step (sym first_grey_lem) ∙ mark_steps h k n first_block

    first_sound : all_sound (colouring h) (references_of h first) ≡ true
    first_sound =
        all_sound_lem (colouring h) (references_of h first)
        (λ x i z.
        let q = member_names h first x i in
        let grey : (view h).tint first ≡ tints.Grey = ap tint_of first_grey_lem in
        let l = d.named_live first q.word x (not_white (there first_block) (λ e. never (cc)) (λ e. never (cc))) (names_ref h q) z in
        allocated_tint (colour_of h x) l.allocated)

  mark_goes : h.regs.phase ≡ marking → h.regs.grey ≢ 1 → Goes h (unit h)
  unfolding act marked
  mark_goes k n =
      by_step Mark (first_marks k n)
      (subst (Goes h) (sym (if_true (finish (marked h)) _ (first_sound k n)))
      (record {
        finished = refl;
        blocks = refl;
        pace = refl;
        move = mark first (mark_move h p k n);
        unit = refl;
        marks = simp (eq-eqb h.regs.phase marking k, ne_eqb h.regs.grey 1 n);
        heads = refl;
        shape = mark_shape h p k n;
      }))

  -- sweeping: the block at the position is white, black or free
  here_sweeps : h.regs.phase ≡ sweeping → (c : Colour) → colour_of h h.regs.position ≡ c → sweep_step c ≡ step m h.regs.phase h.regs.grey (met_word h)
  here_sweeps s c e = ap sweep_step (sym e) ∙ sweep_steps h s (position_block h p s)

  sweep_goes : h.regs.phase ≡ sweeping → (c : Colour) → colour_of h h.regs.position ≡ c → Goes h (unit h)
  unfolding act reclaimed whitened passed
  sweep_goes s White w =
      let n : h.regs.count ≢ m = λ z. let f = free_count h p in let g = not_all_free h p h.regs.position (position_block h p s) (λ q. never (cc w)) in absurd (omega arith) in
      by_step Reclaim (here_sweeps s White w)
      (subst (Goes h) (sym (if_false _ (finish (reclaimed h)) (ne_eqb h.regs.count m n)))
      (record {
        finished = refl;
        blocks = advance_same (λ r. r.blocks) _ (λ x y r. refl);
        pace = advance_same (λ r. r.pace) _ (λ x y r. refl);
        move = sweep (reclaim_move h p s w);
        unit = refl;
        marks = simp (ne_eqb h.regs.phase marking (λ z. absurd (omega arith)));
        heads = onto (ap tint_of w) (advance_same (λ r. r.free) _ (λ x y r. refl)) (reclaim_link h p s w);
        shape = reclaim_shape h p s w n;
      }))
  sweep_goes s Black w =
      by_step Whiten (here_sweeps s Black w)
      (record {
        finished = refl;
        blocks = advance_same (λ r. r.blocks) _ (λ x y r. refl);
        pace = advance_same (λ r. r.pace) _ (λ x y r. refl);
        move = sweep (whiten_move h p s w);
        unit = refl;
        marks = simp (ne_eqb h.regs.phase marking (λ z. absurd (omega arith)));
        heads = past (λ z. never (cc)) (advance_same (λ r. r.free) _ (λ x y r. refl));
        shape = whiten_shape h p s w;
      })
  sweep_goes s Free w =
      by_step Pass (here_sweeps s Free w)
      (record {
        finished = refl;
        blocks = advance_same (λ r. r.blocks) _ (λ x y r. refl);
        pace = advance_same (λ r. r.pace) _ (λ x y r. refl);
        move = sweep (pass_move h p s w);
        unit = refl;
        marks = simp (ne_eqb h.regs.phase marking (λ z. absurd (omega arith)));
        heads = past (λ z. never (cc)) (advance_same (λ r. r.free) _ (λ x y r. refl));
        shape = pass_shape h p s w;
      })
  sweep_goes s Grey e = absurd (d.swept_grey s h.regs.position (there (position_block h p s)) (ap tint_of e))
  sweep_goes s Outside e = absurd (p.colours h.regs.position (position_block h p s) e)

  pub unit_goes : Goes h (unit h)
  unit_goes =
      by_eq h.regs.phase idle idle_goes (λ i.
      by_eq h.regs.phase marking
      (λ k. by_eq h.regs.grey 1 (turn_goes k) (mark_goes k))
      (λ k. let f = p.ready.phase in sweep_goes (omega arith) (colour_of h h.regs.position) refl))

-- an idle unit is a beginning
pub unit_begins : (h : Heap) → Shape h → Sound h.regs.blocks (view h) → h.regs.phase ≡ idle → moves.Begin h.regs.blocks (view h) (view (unit h).heap)
unfolding unit act
unit_begins h p d i =
    subst (λ (s : Step). moves.Begin h.regs.blocks (view h) (view (act s h).heap)) (idle_begins h i (root_white h p d i)) (begin_move h p i (root_white h p d i))
