-- The stores and Set root are moves. Each keeps the heap's shape.
--     written b w v byte h     h with one word and the reference byte of one block written
--     word_as                  a word as the view shows it
--     cells_join, holds_after  cells that stay the same twice; a word written after a step in which the block's cells stayed the same
--     written_shape, written_holds, written_others     a write into a block that isn't free: the shape, the word, and all other words
--     live_taken               a live block isn't free
--     Writable h b w           b is live and w at most 7
--     read_writable, store_writable, root_target     what refusals that are 0 say of the word to write and of the target
--     barred t h               the colouring that the barrier leaves
--     barrier_as               the barrier changes the colouring alone
--     number_move, number_shape        Store number
--     reference_move, reference_shape  Store reference
--     root_move, root_shape            Set root
-- Assumes nothing.
use Prim.Native.Nat.{ℕ, ◌≤◌}
use mathlib.Core.Path.{◌≡◌, refl, sym, ◌∙◌, ap, subst}
use mathlib.Core.Logic.{◌≢◌, ◌↔◌, inl, inr}
use mathlib.Core.Bool.{Bool, true, false, ◌&&◌}
use native.Mathlib.Omega.{arith}
use lib.Dec.{eqb, leb}
use lib.ListN.{length, set, length-set}
use borrow.Author.Tests.{le-leb, leb-true, eqb-true, eqb-false}
use Rattle.machine.specs.declared.Colour.{Colour}
use Rattle.machine.specs.declared.Colour.TheVariants.{Free}
use Rattle.std.specs.Prelude.{if◌then◌else◌}
use Rattle.machine.specs.Tests.{◌▷◌}
use Rattle.machine.specs.Registers.{marking, with_grey, with_root}
use Rattle.machine.specs.Block.{index, place, word_of, byte_of, bit, with_bit, without_bit}
use Rattle.machine.specs.Colouring.{Colouring, grey_white, head_legal}
use Rattle.machine.specs.Heap.{Heap, heap, colouring, with_regs, with_colouring, colour_of}
use Rattle.machine.specs.State.{holder_refusal, target_refusal}
use Rattle.machine.specs.Entry.{entry, word_refusal, target_place}
use Rattle.machine.specs.Read.{read_refusal}
use Rattle.machine.specs.Store.{barrier, put_number, put_reference, store_refusal, root_refusal}
use Rattle.machine.specs.WellFormed.{Block, Coloured, Live}
use Rattle.machine.specs.Ready.{Ready}
use Rattle.machine.proofs.Tests.{by_test, if_ind}
use Rattle.machine.proofs.Bytes.{set_here, set_there, clear_here, clear_there}
use Rattle.machine.proofs.Entering.{first_zero, none_or_block}
use Rattle.machine.proofs.Refusals.{word_zero, target_zero, holder_live, target_live}
use Rattle.machine.proofs.Setting.{ready_words, ready_colours, ready_bytes, ready_grey, ready_root}
use Rattle.machine.proofs.Kept.{recolouring, colouring_fits}
use Rattle.theory_moves.specs.Tints.{Turned, stayed}
use Rattle.theory_moves.specs.Heaps.{Abs}
use Rattle.theory_moves.specs.Moves.{SameCells, Holds, Barred, WriteNumber, WriteRef, SetRoot}
use Rattle.theory_moves.proofs.Tints.{stays_free, was_free}
use Rattle.theory_reach.specs.Sums as sums
use Rattle.theory_promises.specs.View.{tint_of, view, Shape}
use Rattle.theory_promises.proofs.Viewing.{here, live_view}
use Rattle.machine.proofs.Chains.{chain_same, same_blocks}
use Rattle.theory_promises.proofs.Buffers.{byte_set, byte_kept, word_set, word_kept}
use Rattle.theory_promises.proofs.Greys.{TintIn, Greying, turned_as, greying_white}
use Rattle.theory_promises.proofs.Recolouring.{recoloured}

-- the view shows words up to 7 alone
pub word_as : (u x y : ℕ) → (u ≤ 7 → x ≡ y) → (if leb u 7 then x else 0) ≡ (if leb u 7 then y else 0)
word_as u x y e = by_test (leb u 7) (λ t. simp t (e (leb-true u 7 t))) (λ t. simp t)

pub cells_join : {h k j : Abs} {b : ℕ} → SameCells h k b → SameCells k j b → SameCells h j b
cells_join s r = record { words = λ w. r.words w ∙ s.words w; bits = λ w. r.bits w ∙ s.bits w }

pub holds_after : {h k j : Abs} {b w v : ℕ} {t : Bool} → SameCells h k b → Holds k j b w v t → Holds h j b w v t
holds_after s d = record { word = d.word; bit = d.bit; words = λ u n. d.words u n ∙ s.words u; bits = λ u n. d.bits u n ∙ s.bits u }

abbrev pub written : ℕ → ℕ → ℕ → ℕ → Heap → Heap
written b w v byte h = heap h.regs (set h.words (place b w) v) h.colours (set h.bytes (index b) byte)

-- a word of a block that isn't free is written, and the block's byte
module _ (h : Heap) (p : Shape h) (b w v byte : ℕ) (l : Block h.regs.blocks b) (low : w ≤ 7) where
  abbrev next : Heap
  next = written b w v byte h

  word_away : (c u : ℕ) → Block h.regs.blocks c → c ≢ b → u ≤ 7 → word_of next.words c u ≡ word_of h.words c u
  word_away c u k n o = word_kept l h.words w v c u low o k (inl n)

  byte_away : (c : ℕ) → Block h.regs.blocks c → c ≢ b → byte_of next.bytes c ≡ byte_of h.bytes c
  byte_away c k n = byte_kept l h.bytes byte c k n

  -- colours stay
  same_colour : (k : Colour) (c : ℕ) → Coloured next k c ↔ Coloured h k c
  same_colour k c = (λ f. record { block = f.block; colour = f.colour }, λ f. record { block = f.block; colour = f.colour })

  written_ready : Ready next
  written_ready =
      ready_bytes (ready_words p.ready (set h.words (place b w) v) (simp length-set)) (set h.bytes (index b) byte) (simp length-set)

  module _ (taken : colour_of h b ≢ Free) where
    apart : (c : ℕ) → Coloured h Free c → c ≢ b
    apart c f z = taken (ap (λ (x : ℕ). colour_of h x) (sym z) ∙ f.colour)

    link_kept : (c : ℕ) → Coloured h Free c → word_of next.words c 0 ≡ word_of h.words c 0
    link_kept c f = word_away c 0 f.block (apart c f) (omega arith)

    pub written_shape : Shape next
    written_shape =
        record {
          ready = written_ready;
          colours = p.colours;
          greys = p.greys;
          frees = chain_same p.frees link_kept (same_colour Free) refl;
          laid = λ c f.
              let g = (same_colour Free c).0 f in
              let d = p.laid c g in
              record {
                byte = byte_away c f.block (apart c g) ∙ d.byte;
                words = λ u s o. word_away c u f.block (apart c g) o ∙ d.words u s o;
              };
          counted = ap length (same_blocks p.frees link_kept (same_colour Free) refl) ∙ p.counted;
        }

  pub written_others : (c : ℕ) → sums.Block h.regs.blocks c → c ≢ b → SameCells (view h) (view next) c
  written_others c k n =
      record {
        words = λ u. word_as u (word_of next.words c u) (word_of h.words c u) (λ o. word_away c u (here k) n o);
        bits = λ u. ap (λ (x : ℕ). leb u 7 && bit x u) (byte_away c (here k) n);
      }

  pub written_holds : (t : Bool) → bit byte w ≡ t → ((u : ℕ) → u ≢ w → bit byte u ≡ bit (byte_of h.bytes b) u) → Holds (view h) (view next) b w v t
  written_holds t e same =
      record {
        word = simp (le-leb w 7 low) (word_set l h.words w v p.ready.words low);
        bit = simp (le-leb w 7 low) (ap (λ (x : ℕ). bit x w) now ∙ e);
        words = λ u n. word_as u (word_of next.words b u) (word_of h.words b u) (λ o. word_kept l h.words w v b u low o l (inr n));
        bits = λ u n. ap (λ (x : Bool). leb u 7 && x) (ap (λ (x : ℕ). bit x u) now ∙ same u n);
      }
    where
      now : byte_of next.bytes b ≡ byte
      now = byte_set l h.bytes byte p.ready.bytes

-- a live block isn't free
pub live_taken : {h : Heap} {b : ℕ} → Live h b → colour_of h b ≢ Free
live_taken {h} s e = (live_view h s).allocated (ap tint_of e)

-- what refusals that are 0 say of the word to write and of the target
pub record Writable (h : Heap) (b w : ℕ) : Type 0 where
  pub live : Live h b
  pub low : w ≤ 7

module _ (h : Heap) where
  pub read_writable : (b w : ℕ) → read_refusal b w h ≡ 0 → Writable h b w
  unfolding read_refusal
  read_writable b w z =
      let m = h.regs.blocks in
      let a = first_zero (entry h) (word_refusal m b w ▷ holder_refusal h b) z in
      let o = first_zero (word_refusal m b w) (holder_refusal h b) a.1 in
      let q = word_zero m b w o.0 in
      record { live = record { block = q.0; live = holder_live h b o.1 }; low = q.1 }

  target_is : (t : ℕ) → target_place h.regs.blocks t ≡ 0 → target_refusal h t ≡ 0 → t ≢ 0 → Live h t
  target_is t e s n = record { block = none_or_block h.regs.blocks t (target_zero h.regs.blocks t e) n; live = target_live h t s n }

  pub store_writable : (b w t : ℕ) → store_refusal b w t h ≡ 0 → Writable h b w × (t ≢ 0 → Live h t)
  unfolding store_refusal
  store_writable b w t z =
      let m = h.regs.blocks in
      let a = first_zero (entry h) (word_refusal m b w ▷ target_place m t ▷ holder_refusal h b ▷ target_refusal h t) z in
      let o = first_zero (word_refusal m b w) (target_place m t ▷ holder_refusal h b ▷ target_refusal h t) a.1 in
      let e = first_zero (target_place m t) (holder_refusal h b ▷ target_refusal h t) o.1 in
      let s = first_zero (holder_refusal h b) (target_refusal h t) e.1 in
      let q = word_zero m b w o.0 in
      (record { live = record { block = q.0; live = holder_live h b s.0 }; low = q.1 }, target_is t e.0 s.1)

  pub root_target : (t : ℕ) → root_refusal t h ≡ 0 → t ≢ 0 → Live h t
  unfolding root_refusal
  root_target t z =
      let a = first_zero (entry h) (target_place h.regs.blocks t ▷ target_refusal h t) z in
      let e = first_zero (target_place h.regs.blocks t) (target_refusal h t) a.1 in
      target_is t e.0 e.1

-- what the barrier leaves of the colouring
abbrev pub barred : ℕ → Heap → Colouring
barred t h = if eqb h.regs.phase marking then grey_white t (colouring h) else colouring h

pub barrier_as : (t : ℕ) (h : Heap) → barrier t h ≡ with_colouring (barred t h) h
unfolding barrier
barrier_as t h = by_test (eqb h.regs.phase marking) (λ e. simp e) (λ e. simp e)

record Guarded (h : Heap) (t : ℕ) (k : Colouring) : Type 0 where
  greying : Greying (Barred (view h) t) (colouring h) k
  legal : head_legal h.regs.blocks h.regs.phase k.head ≡ true

module _ (h : Heap) (p : Shape h) where
  abbrev m : ℕ
  m = h.regs.blocks

  module _ (b w v : ℕ) (z : read_refusal b w h ≡ 0) where
    cleared : ℕ
    cleared = without_bit (byte_of h.bytes b) w

    into : Writable h b w
    into = read_writable h b w z

    pub number_move : WriteNumber m b w v (view h) (view (put_number b w v h))
    unfolding put_number cleared
    number_move =
        record {
          steady = record { phase = refl; position = refl };
          root = refl;
          mark = refl;
          live = live_view h into.live;
          tints = λ c k. refl;
          holds = written_holds h p b w v cleared into.live.block into.low false (clear_here _ w) (clear_there _ w);
          others = written_others h p b w v cleared into.live.block into.low;
        }

    pub number_shape : Shape (put_number b w v h)
    unfolding put_number cleared
    number_shape = written_shape h p b w v cleared into.live.block into.low (live_taken into.live)

  module _ (t : ℕ) where
    guarded : Guarded h t (barred t h)
    guarded =
        if_ind (Guarded h t) (eqb h.regs.phase marking)
        (λ e.
        let s = eqb-true h.regs.phase marking e in
        let f = greying_white t (colouring h) (colouring_fits h p.ready) in
        record {
          greying = record {
            blocks = f.blocks;
            kept = f.kept;
            tints = λ c. turned_as (λ z. record { phase = s; target = z }) (λ d. d.target) (f.tints c);
            legal = f.legal;
            list = f.list;
          };
          legal = rw s (subst (λ (x : ℕ). head_legal x marking (grey_white t (colouring h)).head ≡ true) f.blocks f.kept.head);
        })
        (λ e.
        let n = eqb-false h.regs.phase marking e in
        record {
          greying = record {
            blocks = refl;
            kept = colouring_fits h p.ready;
            tints = λ c. stayed (λ d. absurd (n d.phase)) refl;
            legal = λ c o. o;
            list = λ x. x;
          };
          legal = p.ready.grey;
        })

    guarded_as : colouring (with_colouring (barred t h) h) ≡ barred t h
    guarded_as = recolouring h (barred t h) guarded.greying.blocks

    guarded_tints : (c : ℕ) → Turned (Barred (view h) t c) (TintIn (colouring h) c) (TintIn (colouring (with_colouring (barred t h) h)) c)
    guarded_tints c = subst (λ (j : Colouring). Turned (Barred (view h) t c) (TintIn (colouring h) c) (TintIn j c)) (sym guarded_as) (guarded.greying.tints c)

    -- the heap after the barrier, with a root that is 0 or a block
    module _ (x : ℕ) (named : x ≢ 0 → Block m x) where
      guarded_ready : Ready (heap (with_root x (with_grey (barred t h).head h.regs)) h.words (barred t h).cells h.bytes)
      guarded_ready =
          let g = guarded in
          ready_colours (ready_root (ready_grey p.ready (barred t h).head g.legal) x named) (barred t h).cells
          (g.greying.kept.cells ∙ g.greying.blocks ∙ sym p.ready.colours)

      guarded_shape : Shape (heap (with_root x (with_grey (barred t h).head h.regs)) h.words (barred t h).cells h.bytes)
      guarded_shape =
          let g = guarded.greying in
          recoloured h p (with_root x (with_grey (barred t h).head h.regs)) (barred t h) guarded_as g.blocks refl refl guarded_ready
          (λ c l. g.legal c (p.colours c l))
          (λ c l. (was_free (g.tints c), stays_free (g.tints c)))
          (g.list p.greys)

    module _ (b w : ℕ) (z : store_refusal b w t h ≡ 0) where
      abbrev guard : Heap
      guard = with_colouring (barred t h) h

      guard_shape : Shape guard
      guard_shape = guarded_shape h.regs.root p.ready.root

      guard_cells : (c : ℕ) → SameCells (view h) (view guard) c
      guard_cells c = record { words = λ u. refl; bits = λ u. refl }

      marked : ℕ
      marked = with_bit (byte_of h.bytes b) w

      onto : Writable h b w
      onto = (store_writable h b w t z).0

      still_taken : colour_of guard b ≢ Free
      still_taken e = (live_view h onto.live).allocated (was_free (guarded_tints b) (ap tint_of e))

      pub reference_move : WriteRef m b w t (view h) (view (put_reference b w t (barrier t h)))
      unfolding put_reference marked
      reference_move =
          rw (barrier_as t h)
          (record {
            steady = record { phase = refl; position = refl };
            root = refl;
            mark = refl;
            live = live_view h onto.live;
            target = λ n. live_view h ((store_writable h b w t z).1 n);
            tints = λ c k. guarded_tints c;
            holds = holds_after (guard_cells b) (written_holds guard guard_shape b w t marked onto.live.block onto.low true (set_here _ w) (set_there _ w));
            others = λ c k n. cells_join (guard_cells c) (written_others guard guard_shape b w t marked onto.live.block onto.low c k n);
          })

      pub reference_shape : Shape (put_reference b w t (barrier t h))
      unfolding put_reference marked
      reference_shape = rw (barrier_as t h) (written_shape guard guard_shape b w t marked onto.live.block onto.low still_taken)

    module _ (z : root_refusal t h ≡ 0) where
      pub root_move : SetRoot m t (view h) (view (with_regs (with_root t (barrier t h).regs) (barrier t h)))
      root_move =
          rw (barrier_as t h)
          (record {
            steady = record { phase = refl; position = refl };
            root = refl;
            mark = refl;
            target = λ n. live_view h (root_target h t z n);
            tints = λ c k. guarded_tints c;
            cells = λ c k. record { words = λ u. refl; bits = λ u. refl };
          })

      pub root_shape : Shape (with_regs (with_root t (barrier t h).regs) (barrier t h))
      root_shape = rw (barrier_as t h) (guarded_shape t (λ n. (root_target h t z n).block))
