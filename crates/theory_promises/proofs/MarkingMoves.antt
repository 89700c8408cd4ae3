-- The units of marking are moves: begin, mark, turn. Each keeps the heap's shape.
--     begin_move, begin_shape     a cycle begins
--     mark_move, mark_shape       the first grey block is marked
--     turn_move, turn_shape       marking is over: the sweep begins, or there is nothing to sweep
-- Assumes nothing.
use Prim.Native.Nat.{ℕ}
use mathlib.Core.Path.{◌≡◌, refl, sym, ◌∙◌, ap, subst}
use mathlib.Core.Logic.{◌≢◌, ◌↔◌}
use mathlib.Core.List.{List, Memᴰ}
use native.Mathlib.Omega.{arith}
use lib.Dec.{eqb}
use borrow.Author.Tests.{eq-eqb, ne_eqb}
use Rattle.machine.specs.declared.Colour.TheVariants.{White, Grey, Black, Outside}
use Rattle.std.specs.Prelude.{if◌then◌else◌}
use Rattle.machine.specs.Registers.{idle, marking}
use Rattle.machine.specs.Colouring.{Colouring, coloured, colour_in, to_grey, to_black, first_grey, grey_white, grey_all}
use Rattle.machine.specs.Heap.{Heap, colouring, colour_of, references_of}
use Rattle.machine.specs.WellFormed.{Block}
use Rattle.machine.specs.Layout.{Fitting}
use Rattle.machine.specs.OneUnit.{begun, marked, turned_regs, turned}
use Rattle.machine.proofs.Tests.{by_eq}
use Rattle.machine.proofs.Steps.{never}
use Rattle.machine.proofs.Kept.{recolouring, colouring_fits, begun_kept, marked_kept, turned_kept}
use Rattle.machine.proofs.Linked.{linked}
use Rattle.theory_audit.proofs.Words.{names_member, member_names}
use Rattle.theory_moves.specs.Tints.{Turned}
use Rattle.theory_moves.specs.Moves.{Begin, Mark, Turning, entering, skipping, Turn}
use Rattle.theory_moves.proofs.Tints.{stays_free, was_free, stays_black}
use Rattle.theory_moves.specs.Tints as tints
use Rattle.theory_promises.specs.View.{tint_of, view, Shape}
use Rattle.theory_promises.proofs.Viewing.{there, names_ref, ref_names, tinted}
use Rattle.theory_promises.proofs.Greys.{TintIn, Greying, turned_as, greying_white, greying_one, greying_none, greying_all}
use Rattle.theory_promises.proofs.Recolouring.{recoloured}
use Rattle.theory_promises.proofs.Coursing.{turned_same, turned_colours}

module _ (h : Heap) (p : Shape h) where
  abbrev m : ℕ
  m = h.regs.blocks

  abbrev hues : Colouring
  hues = colouring h

  fitting : Fitting hues
  fitting = colouring_fits h p.ready

  -- a root that is 0 or white becomes grey, if it is a block
  abbrev rooted : Colouring
  rooted = if eqb h.regs.root 0 then hues else to_grey h.regs.root hues

  root_grey : (h.regs.root ≢ 0 → colour_of h h.regs.root ≡ White) → rooted ≡ grey_white h.regs.root hues
  root_grey w =
      by_eq h.regs.root 0
      (λ z. rw z (sym (greying_none hues)))
      (λ z. simp (ne_eqb h.regs.root 0 z) (sym (greying_one h.regs.root hues (w z))))

  module _ (i : h.regs.phase ≡ idle) (w : h.regs.root ≢ 0 → colour_of h h.regs.root ≡ White) where
    start : Greying (λ c. c ≡ h.regs.root) hues rooted
    start = subst (Greying (λ c. c ≡ h.regs.root) hues) (sym (root_grey w)) (greying_white h.regs.root hues fitting)

    begun_as : coloured m rooted.head rooted.cells ≡ rooted
    begun_as = recolouring h rooted start.blocks

    pub begin_move : Begin m (view h) (view (begun h))
    unfolding begun
    begin_move =
        record {
          before = i;
          after = refl;
          root = refl;
          mark = refl;
          tints = λ b l. subst (λ (j : Colouring). Turned (b ≡ h.regs.root) (TintIn hues b) (TintIn j b)) (sym begun_as) (start.tints b);
          cells = λ b l. record { words = λ w. refl; bits = λ w. refl };
        }

    pub begin_shape : Shape (begun h)
    unfolding begun
    begin_shape =
        recoloured h p _ rooted begun_as start.blocks refl refl (begun_kept h p.ready i)
        (λ c l. start.legal c (p.colours c l))
        (λ c l. (was_free (start.tints c), stays_free (start.tints c)))
        (start.list p.greys)

  module _ (k : h.regs.phase ≡ marking) (n : h.regs.grey ≢ 1) where
    abbrev first : ℕ
    first = first_grey hues

    first_grey_lem : colour_of h first ≡ Grey
    first_grey_lem = linked.first hues p.greys n

    first_block : Block m first
    first_block = linked.first_block hues fitting n

    -- what the first grey block names; the colours with it black, and then with those grey
    abbrev targets : List ℕ
    targets = references_of h first

    abbrev blackening : Colouring
    blackening = to_black hues

    abbrev spreads : Colouring
    spreads = grey_all targets blackening

    spread : Greying (λ c. Memᴰ c targets) blackening spreads
    spread = greying_all targets blackening (linked.black_keeps hues fitting first_grey_lem)

    marked_as : coloured m spreads.head spreads.cells ≡ spreads
    marked_as = recolouring h spreads spread.blocks

    away : (c : ℕ) → c ≢ first → TintIn blackening c ≡ TintIn hues c
    away c o = ap tint_of (linked.black_there hues c first_block o)

    blackened : TintIn blackening first ≡ tints.Black
    blackened = ap tint_of (linked.black_here hues fitting first_block)

    black_after : TintIn spreads first ≡ tints.Black
    black_after = stays_black (spread.tints first) blackened

    pub mark_move : Mark m first (view h) (view (marked h))
    unfolding marked
    mark_move =
        record {
          before = k;
          after = k;
          root = refl;
          mark = refl;
          block = there first_block;
          grey = ap tint_of first_grey_lem;
          black = ap (λ (j : Colouring). TintIn j first) marked_as ∙ black_after;
          tints = λ c l o.
              turned_as
              (λ i. let q = member_names h first c i in record { at = q.word; names = names_ref h q })
              (λ q. names_member h first c (ref_names h q.at q.names (λ z. absurd (omega arith))))
              (subst (λ (j : Colouring). Turned (Memᴰ c targets) (TintIn hues c) (TintIn j c)) (sym marked_as)
              (subst (λ (t : tints.Tint). Turned (Memᴰ c targets) t (TintIn spreads c)) (away c o) (spread.tints c)));
          cells = λ c l. record { words = λ w. refl; bits = λ w. refl };
        }

    pub mark_shape : Shape (marked h)
    unfolding marked
    mark_shape =
        recoloured h p _ spreads marked_as spread.blocks refl refl (marked_kept h p.ready k first_grey_lem)
        (λ c l. spread.legal c (legal_black c l))
        (λ c l. by_eq c first (λ z. at_first c z) (λ o. (λ e. sym (away c o) ∙ was_free (spread.tints c) e, λ e. stays_free (spread.tints c) (away c o ∙ e))))
        (spread.list (linked.black_greys hues fitting first_block p.greys))
      where
        legal_black : (c : ℕ) → Block m c → colour_in blackening c ≢ Outside
        legal_black c l =
            by_eq c first
            (λ z q. let e : Black ≡ Outside = sym (linked.black_here hues fitting first_block) ∙ ap (colour_in blackening) (sym z) ∙ q in never (cc))
            (λ o q. p.colours c l (sym (linked.black_there hues c first_block o) ∙ q))

        at_first : (c : ℕ) → c ≡ first → (TintIn spreads c ≡ tints.Free) ↔ (tint_of (colour_of h c) ≡ tints.Free)
        at_first c z = (
          λ e. let q : tints.Black ≡ tints.Free = sym black_after ∙ ap (TintIn spreads) (sym z) ∙ e in never (cc),
          λ e. let q : tints.Grey ≡ tints.Free = sym (ap tint_of first_grey_lem) ∙ ap (λ (x : ℕ). tint_of (colour_of h x)) (sym z) ∙ e in never (cc),
        )

  module _ (k : h.regs.phase ≡ marking) (o : h.regs.grey ≡ 1) where
    ended_as : coloured (turned_regs h.regs).blocks (turned_regs h.regs).grey h.colours ≡ hues
    ended_as = turned_colours h.regs h.colours refl refl

    turning : Turning (view h) (view (turned h))
    unfolding turned turned_regs
    turning =
        by_eq h.regs.mark 1
        (λ e. skipping e (rw (eq-eqb h.regs.mark 1 e) refl))
        (λ n. entering n (rw (ne_eqb h.regs.mark 1 n) refl) (rw (ne_eqb h.regs.mark 1 n) refl))

    pub turn_move : Turn m (view h) (view (turned h))
    unfolding turned
    turn_move =
        record {
          before = k;
          turning = turning;
          root = turned_same (λ r. r.root) h.regs (λ x y r. refl);
          mark = turned_same (λ r. r.mark) h.regs (λ x y r. refl);
          none = λ b l e. linked.empty hues b p.greys o (tinted h Grey l e (λ z. never (cc))).colour;
          tints = λ b l. ap (λ (j : Colouring). TintIn j b) ended_as;
          cells = λ b l. record { words = λ w. refl; bits = λ w. refl };
        }

    pub turn_shape : Shape (turned h)
    unfolding turned
    turn_shape =
        recoloured h p _ hues ended_as refl
        (turned_same (λ r. r.free) h.regs (λ x y r. refl))
        (turned_same (λ r. r.count) h.regs (λ x y r. refl))
        (turned_kept h p.ready o) p.colours (λ c l. (λ e. e, λ e. e)) p.greys
