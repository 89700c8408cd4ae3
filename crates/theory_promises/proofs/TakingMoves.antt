-- An allocation, once its units are done, is a move: the first free block is taken, for a holder or for the root. It keeps the heap's shape.
--     first_in, none_long      a list that isn't at its end has its first, and one that is has none
--     first_free, next_free_lem    the free head, and the link of the first free block, are 0 or free blocks
--     head_count, count_head   the free head is 0 exactly where the free count is
--     list_emptied, list_first, list_seven, list_sound     the free list is refused by 7 exactly where the free count is 0, and never by 8
--     holder_sound, target_sound, take_sound     no block is refused by 8, and no allocation after its units
--     new_neither              the new block's colour is white or black
--     taken_after              a block taken, and then a step in which the mark, its words and bits, and all colours stay
--     take_held_lem, take_root_lem     the move
--     take_shape               the shape afterwards
--     take_count, take_next    the free count falls by one, and the next free block is the head
--     take_links               the other free blocks keep their links
-- Assumes nothing.
use Prim.Native.Nat.{ℕ, ◌+◌, ◌-◌, ◌≤◌}
use mathlib.Core.Path.{◌≡◌, refl, sym, ◌∙◌, ap, subst}
use mathlib.Core.Logic.{◌≢◌, ◌↔◌, ◌⊎◌, inl, inr}
use mathlib.Core.Bool.{true}
use mathlib.Core.List.{List, Memᴰ}
use native.Mathlib.Omega.{arith}
use lib.Dec.{eqb}
use lib.ListN.{length, set, length-set}
use borrow.Author.Tests.{eq-eqb, ne_eqb}
use Rattle.machine.specs.declared.Colour.{Colour}
use Rattle.machine.specs.declared.Colour.TheVariants.{White, Grey, Black, Free, Outside}
use Rattle.std.specs.Prelude.{if◌then◌else◌}
use Rattle.machine.specs.Tests.{◌▷◌}
use Rattle.machine.specs.Registers.{idle, marking, sweeping, with_free, with_count, with_root, raised}
use Rattle.machine.specs.Block.{place, word_of, byte_of, with_bit}
use Rattle.machine.specs.Colouring.{free_colour, painted}
use Rattle.machine.specs.Heap.{Heap, heap, colouring, with_regs, colour_of}
use Rattle.machine.specs.State.{holder_refusal, target_refusal, may_be_black, new_colour}
use Rattle.machine.specs.Store.{put_reference}
use Rattle.machine.specs.Allocate.{first_fits, list_refusal, taken, held, take_refusal}
use Rattle.machine.specs.WellFormed.{Block, Coloured, Live, Listed, ends, goes}
use Rattle.machine.specs.Ready.{Ready}
use Rattle.machine.specs.Layout.{Plain}
use Rattle.machine.proofs.Tests.{by_test, by_eq, both, if_ind}
use Rattle.machine.proofs.Bytes.{set_here, set_there}
use Rattle.machine.proofs.Steps.{never}
use Rattle.machine.proofs.Setting.{ready_words, ready_colours, ready_count, ready_free, ready_root, ready_raised}
use Rattle.machine.proofs.Entering.{first_zero, block_or_none}
use Rattle.machine.proofs.Refusals.{holder_live, within_layout, holder_undamaged, target_undamaged}
use Rattle.machine.proofs.States.{black_ahead, black_not_idle, may_be_black_lem}
use Rattle.machine.proofs.Kept.{colouring_fits}
use Rattle.machine.proofs.Linked.{linked}
use Rattle.machine.proofs.Allocating.{new_black, new_white, list_none, list_good, list_zero, take_zero, held_root, held_word}
use Rattle.theory_reach.proofs.Splits.{by_le}
use Rattle.theory_moves.specs.Heaps.{Abs}
use Rattle.theory_moves.specs.Moves.{SameCells, Fresh, new_marking, new_ahead, new_behind, new_idle, Taken, TakeHeld, TakeRoot}
use Rattle.theory_reach.specs.Sums as sums
use Rattle.theory_moves.specs.Tints as tints
use Rattle.theory_promises.specs.View.{tint_of, view, Shape}
use Rattle.theory_promises.proofs.Viewing.{here, there, live_view}
use Rattle.machine.proofs.Chains.{chain_pop, pop_length}
use Rattle.theory_promises.proofs.Buffers.{word_set, word_kept}
use Rattle.theory_promises.proofs.Recolouring.{recoloured}
use Rattle.theory_promises.proofs.StoringMoves.{word_as, cells_join, holds_after, written_shape, written_holds, written_others, live_taken}

-- the first of a list, and the next
module _ {next : ℕ → ℕ} {end : ℕ} where
  pub first_in : {a : ℕ} {l : List ℕ} → Listed next end a l → a ≢ end → Memᴰ a l
  first_in (ends e) n = absurd (n e)
  first_in (goes o d) n = Memᴰ.head refl

  next_in : {a : ℕ} {l : List ℕ} → Listed next end a l → a ≢ end → next a ≢ end → Memᴰ (next a) l
  next_in (ends e) n o = absurd (n e)
  next_in (goes m d) n o = Memᴰ.tail (first_in d o)

  pub none_long : {a : ℕ} {l : List ℕ} → Listed next end a l → a ≡ end → length l ≡ 0
  none_long (ends e) z = refl
  none_long (goes n d) z = absurd (n z)

  some_long : {a : ℕ} {l : List ℕ} → Listed next end a l → a ≢ end → length l ≢ 0
  some_long (ends e) n z = n e
  some_long (goes m d) n z = absurd (omega arith)

pub taken_after : {m x : ℕ} {h k j : Abs} → Taken m x h k → j.mark ≡ k.mark → ((c : ℕ) → j.tint c ≡ k.tint c) → SameCells k j x → Taken m x h j
taken_after {x} {h} d e t s =
    record {
      block = d.block;
      free = d.free;
      fresh = subst (Fresh h x) (sym (t x)) d.fresh;
      mark = e ∙ d.mark;
      tints = λ c l n. t c ∙ d.tints c l n;
      emptied = s.words 0 ∙ d.emptied;
      words = λ u n. s.words u ∙ d.words u n;
      bits = λ u. s.bits u ∙ d.bits u;
    }

module _ (h : Heap) (p : Shape h) where
  abbrev m : ℕ
  m = h.regs.blocks

  abbrev x : ℕ
  x = h.regs.free

  abbrev link : ℕ
  link = word_of h.words x 0

  pub first_free : x ≢ 0 → Coloured h Free x
  first_free n = (p.frees.members x).0 (first_in p.frees.listed n)

  pub next_free_lem : x ≢ 0 → link ≢ 0 → Coloured h Free link
  next_free_lem n o = (p.frees.members link).0 (next_in p.frees.listed n o)

  pub head_count : x ≡ 0 → h.regs.count ≡ 0
  head_count z = sym p.counted ∙ none_long p.frees.listed z

  pub count_head : h.regs.count ≡ 0 → x ≡ 0
  count_head z = by_eq x 0 (λ e. e) (λ n. absurd (some_long p.frees.listed n (p.counted ∙ z)))

  -- the tests of the free list
  pub list_emptied : h.regs.count ≡ 0 → list_refusal h ≡ 7
  list_emptied z = sym (list_none h (count_head z) z)

  fits_first : x ≢ 0 → true ≡ first_fits h
  unfolding first_fits
  fits_first n = sym (both (ap free_colour (first_free n).colour) (block_or_none m link (λ o. (next_free_lem n o).block)))

  pub list_first : h.regs.count ≢ 0 → list_refusal h ≡ 0
  list_first c = let n : x ≢ 0 = λ z. c (head_count z) in sym (list_good h n c (fits_first n) refl)

  pub list_seven : (list_refusal h ≡ 7) ↔ (h.regs.count ≡ 0)
  list_seven = (λ e. by_eq h.regs.count 0 (λ z. z) (λ c. absurd (omega (arith, list_first c))), list_emptied)

  pub list_sound : list_refusal h ≢ 8
  list_sound e = by_eq h.regs.count 0 (λ z. absurd (omega (arith, list_emptied z))) (λ c. absurd (omega (arith, list_first c)))

  -- colours are legal, so no block is refused by 8
  pub holder_sound : (b : ℕ) → Block m b → holder_refusal h b ≢ 8
  holder_sound b l = holder_undamaged h b (within_layout h.regs (colouring h) b (p.colours b l))

  pub target_sound : (t : ℕ) → (t ≢ 0 → Block m t) → target_refusal h t ≢ 8
  target_sound t l = target_undamaged h t (λ n. within_layout h.regs (colouring h) t (p.colours t (l n)))

  pub take_sound : (b : ℕ) → (b ≢ 0 → Block m b) → take_refusal b h ≢ 8
  unfolding take_refusal ◌▷◌
  take_sound b l =
      if_ind (λ (n : ℕ). n ≢ 8) (eqb (if eqb b 0 then 0 else holder_refusal h b) 0) (λ t. list_sound)
      (λ t. by_eq b 0 (λ z e. absurd (omega (arith, simp (eq-eqb b 0 z) at e))) (λ n. simp (ne_eqb b 0 n) (holder_sound b (l n))))

  -- the colour of the new block: white or black
  abbrev hue : Colour
  hue = new_colour h.regs x

  pub new_neither : (c : Colour) → c ≢ White → c ≢ Black → hue ≢ c
  unfolding new_colour
  new_neither c w k = if_ind (λ (d : Colour). d ≢ c) (may_be_black h.regs x) (λ t e. k (sym e)) (λ t e. w (sym e))

  new_plain : Plain hue
  unfolding new_colour
  new_plain = if_ind Plain (may_be_black h.regs x) (λ t. tt) (λ t. tt)

  new_fresh : Fresh (view h) x (tint_of hue)
  new_fresh =
      by_eq h.regs.phase marking
      (λ k. new_marking k (blackly (may_be_black_lem h.regs x p.ready.phase (λ i. absurd (omega arith)) (λ s. absurd (omega arith)))))
      (λ k. by_eq h.regs.phase sweeping
      (λ s. by_le h.regs.position x
      (λ l. new_ahead s l (blackly (may_be_black_lem h.regs x p.ready.phase (λ i. absurd (omega arith)) (λ z. l))))
      (λ l. new_behind s l (whitely (λ t. let q = black_ahead h.regs x t s in omega arith))))
      (λ s. let f = p.ready.phase in let i : h.regs.phase ≡ idle = omega arith in new_idle i (whitely (λ t. black_not_idle h.regs x t i))))
    where
      blackly : may_be_black h.regs x ≡ true → tint_of hue ≡ tints.Black
      blackly t = ap tint_of (sym (new_black h.regs x t))

      whitely : (may_be_black h.regs x ≡ true → ⊥) → tint_of hue ≡ tints.White
      whitely n = by_test (may_be_black h.regs x) (λ t. absurd (n t)) (λ t. ap tint_of (sym (new_white h.regs x t)))

  -- the first free block is taken
  module _ (n : x ≢ 0) where
    abbrev popped : Heap
    popped =
        heap
        (raised x (with_count (h.regs.count - 1) (with_free link h.regs)))
        (set h.words (place x 0) 0)
        (painted x hue (colouring h)).cells
        h.bytes

    block : Block m x
    block = (first_free n).block

    colour_there : (c : ℕ) → c ≢ x → colour_of popped c ≡ colour_of h c
    colour_there c o = linked.paint_there (colouring h) x hue c block o

    colour_here : colour_of popped x ≡ hue
    colour_here = linked.paint_here (colouring h) x hue new_plain (colouring_fits h p.ready) block

    -- no longer free
    taken_out : Coloured popped Free x → ⊥
    taken_out f = new_neither Free (λ z. never (cc)) (λ z. never (cc)) (sym colour_here ∙ f.colour)

    left : (c : ℕ) → Coloured popped Free c → c ≢ x
    left c f z = taken_out (subst (Coloured popped Free) z f)

    free_as : (c : ℕ) → c ≢ x → Coloured popped Free c ↔ Coloured h Free c
    free_as c o = (
      λ f. record { block = f.block; colour = sym (colour_there c o) ∙ f.colour },
      λ f. record { block = f.block; colour = colour_there c o ∙ f.colour },
    )

    word_there : (c u : ℕ) → Block m c → u ≤ 7 → (c ≢ x) ⊎ (u ≢ 0) → word_of popped.words c u ≡ word_of h.words c u
    word_there c u l o a = word_kept block h.words 0 0 c u (omega arith) o l a

    link_there : (c : ℕ) → Coloured h Free c → c ≢ x → word_of popped.words c 0 ≡ word_of h.words c 0
    link_there c f o = word_there c 0 f.block (omega arith) (inl o)

    popped_ready : Ready popped
    popped_ready =
        let d = p.ready in
        let c = d.count in
        let counted = ready_count (ready_free d link (λ o. (next_free_lem n o).block)) (h.regs.count - 1) (omega arith) in
        ready_words
        (ready_colours (ready_raised counted x block) (painted x hue (colouring h)).cells
        ((linked.paint_keeps (colouring h) x hue (colouring_fits h d)).cells ∙ sym d.colours))
        (set h.words (place x 0) 0) (simp length-set)

    popped_shape : Shape popped
    popped_shape =
        record {
          ready = popped_ready;
          colours = λ c l. by_eq c x
              (λ z e. new_neither Outside (λ y. never (cc)) (λ y. never (cc)) (sym colour_here ∙ ap (λ (y : ℕ). colour_of popped y) (sym z) ∙ e))
              (λ o e. p.colours c l (sym (colour_there c o) ∙ e));
          greys =
              linked.paint_greys (colouring h) x hue (colouring_fits h p.ready) block
              (λ e. let q : Free ≡ Grey = sym (first_free n).colour ∙ e in never (cc)) p.greys;
          frees = chain_pop p.frees n link_there taken_out free_as;
          laid = λ c f.
              let o = left c f in
              let d = p.laid c ((free_as c o).0 f) in
              record { byte = d.byte; words = λ u s q. word_there c u f.block q (inl o) ∙ d.words u s q };
          counted = let e = pop_length p.frees n link_there taken_out free_as in let c = p.counted in omega arith;
        }

    popped_cells : (c : ℕ) → sums.Block m c → c ≢ x → SameCells (view h) (view popped) c
    popped_cells c l o =
        record { words = λ u. word_as u (word_of popped.words c u) (word_of h.words c u) (λ q. word_there c u (here l) q (inl o)); bits = λ u. refl }

    popped_taken : Taken m x (view h) (view popped)
    popped_taken =
        record {
          block = there block;
          free = ap tint_of (first_free n).colour;
          fresh = subst (Fresh (view h) x) (ap tint_of (sym colour_here)) new_fresh;
          mark = refl;
          tints = λ c l o. ap tint_of (colour_there c o);
          emptied = word_set block h.words 0 0 p.ready.words (omega arith);
          words = λ u o. word_as u (word_of popped.words x u) (word_of h.words x u) (λ q. word_there x u block q (inr o));
          bits = λ u. refl;
        }

  -- what is stored is a reference to it
  module _ (b w : ℕ) (z : take_refusal b h ≡ 0) where
    some : x ≢ 0
    some = (list_zero h (take_zero h b z)).0

    rooted : b ≡ 0 → held b w x (taken h) ≡ with_regs (with_root x (taken h).regs) (taken h)
    rooted e = sym (held_root (taken h) b w x e)

    -- for the root
    module _ (e : b ≡ 0) where
      pub take_root_lem : TakeRoot m x (view h) (view (held b w x (taken h)))
      unfolding taken
      take_root_lem =
          rw (rooted e)
          (record {
            steady = record { phase = refl; position = refl };
            root = refl;
            taken = taken_after (popped_taken some) refl (λ c. refl) (record { words = λ u. refl; bits = λ u. refl });
            others = λ c l o. let k = popped_cells some c l o in record { words = k.words; bits = k.bits };
          })

      root_taken_shape : Shape (held b w x (taken h))
      unfolding taken
      root_taken_shape =
          let s = popped_shape some in
          rw (rooted e)
          (recoloured (popped some) s (with_root x (popped some).regs) (colouring (popped some)) refl refl refl refl
          (ready_root s.ready x (λ o. block some))
          s.colours (λ c l. (λ f. f, λ f. f)) s.greys)

    stored : b ≢ 0 → held b w x (taken h) ≡ put_reference b w x (taken h)
    stored e = sym (held_word (taken h) b w x e refl)

    -- for a holder
    module _ (e : b ≢ 0) (l : Block m b) (low : w ≤ 7) where
      holder : Live h b
      unfolding take_refusal
      holder = record { block = l; live = holder_live h b (simp (ne_eqb b 0 e) at (first_zero (if eqb b 0 then 0 else holder_refusal h b) (list_refusal h) z).0) }

      apart : b ≢ x
      apart o = live_taken holder (ap (λ (y : ℕ). colour_of h y) o ∙ (first_free some).colour)

      byte : ℕ
      byte = with_bit (byte_of h.bytes b) w

      pub take_held_lem : TakeHeld m x b w (view h) (view (held b w x (taken h)))
      unfolding taken put_reference byte
      take_held_lem =
          let g = popped some in
          let s = popped_shape some in
          rw (stored e)
          (record {
            steady = record { phase = refl; position = refl };
            root = refl;
            live = live_view h holder;
            taken = taken_after (popped_taken some) refl (λ c. refl) (written_others g s b w x byte l low x (there (block some)) (λ o. apart (sym o)));
            holds = holds_after (popped_cells some b (there l) apart) (written_holds g s b w x byte l low true (set_here _ w) (set_there _ w));
            others = λ c i o q. cells_join (popped_cells some c i q) (written_others g s b w x byte l low c i o);
          })

      held_taken_shape : Shape (held b w x (taken h))
      unfolding taken put_reference byte
      held_taken_shape =
          rw (stored e)
          (written_shape (popped some) (popped_shape some) b w x byte l low
          (λ o. live_taken holder (sym (colour_there some b apart) ∙ o)))

    pub take_shape : (b ≢ 0 → Block m b × (w ≤ 7)) → Shape (held b w x (taken h))
    take_shape i = by_eq b 0 root_taken_shape (λ e. held_taken_shape e (i e).0 (i e).1)

    pub take_count : (held b w x (taken h)).regs.count + 1 ≡ h.regs.count
    unfolding taken put_reference
    take_count =
        let c = (list_zero h (take_zero h b z)).1 in
        by_eq b 0 (λ e. rw (rooted e) (omega arith)) (λ e. rw (stored e) (omega arith))

    pub take_next : (held b w x (taken h)).regs.free ≡ link
    unfolding taken put_reference
    take_next = by_eq b 0 (λ e. rw (rooted e) refl) (λ e. rw (stored e) refl)

    pub take_links : (b ≢ 0 → Block m b × (w ≤ 7)) → (y : ℕ) → Coloured h Free y → y ≢ x → word_of (held b w x (taken h)).words y 0 ≡ word_of h.words y 0
    take_links i y f n =
        by_eq b 0
        (λ e. ((take_root_lem e).others y (there f.block) n).words 0)
        (λ e. ((take_held_lem e (i e).0 (i e).1).others y (there f.block)
        (λ o. live_taken (holder e (i e).0 (i e).1) (ap (λ (z : ℕ). colour_of h z) (sym o) ∙ f.colour)) n).words 0)
