-- The units of the sweep are moves: the block at the position is freed, whitened or passed. Each keeps the heap's shape.
--     onward                   the position goes on, or the sweep ends
--     reclaim_move, reclaim_link, reclaim_shape     a white block is freed, and linked to the one that was the first
--     whiten_move, whiten_shape       a black block becomes white
--     pass_move, pass_shape           a free block is passed
-- Assumes nothing.
use Prim.Native.Nat.{ℕ, suc, ◌+◌, ◌≤◌}
use mathlib.Core.Path.{◌≡◌, refl, sym, ◌∙◌, ap, subst}
use mathlib.Core.Logic.{◌≢◌, ◌↔◌}
use mathlib.Core.Bool.{false, ◌&&◌}
use mathlib.Core.List.{List}
use native.Mathlib.Nat.{zero-div}
use native.Mathlib.Numerals.{add-one}
use native.Mathlib.Omega.{arith}
use lib.Dec.{leb}
use lib.ListN.{length, get_or}
use borrow.Author.Tests.{eq-eqb, ne_eqb, leb-true}
use Rattle.machine.specs.declared.Regs.{Regs}
use Rattle.machine.specs.declared.Colour.{Colour}
use Rattle.machine.specs.declared.Colour.TheVariants.{White, Grey, Black, Free, Outside}
use Rattle.machine.specs.Registers.{sweeping, with_free, with_count, sweep_end}
use Rattle.machine.specs.Block.{word_of, byte_of, bit, with_eight, free_words, clear_byte}
use Rattle.machine.specs.Colouring.{Colouring, coloured, colour_in, painted, GreysOf}
use Rattle.machine.specs.Heap.{Heap, heap, colouring, colour_of}
use Rattle.machine.specs.WellFormed.{Block, Coloured, LaidOut, Exactly}
use Rattle.machine.specs.Ready.{Ready}
use Rattle.machine.specs.Layout.{Plain, Fitting}
use Rattle.machine.specs.OneUnit.{advance, reclaimed, whitened, passed}
use Rattle.machine.proofs.Tests.{by_eq, by_test}
use Rattle.machine.proofs.Bytes.{free_rest}
use Rattle.machine.proofs.Steps.{never}
use Rattle.machine.proofs.Running.{sweeps_block}
use Rattle.machine.proofs.Kept.{colouring_fits, advance_kept, reclaimed_kept, whitened_kept}
use Rattle.machine.proofs.Linked.{linked}
use Rattle.theory_moves.specs.Moves.{SameCells, freeing, whitening, passing, Onward, going, ending, Sweep}
use Rattle.theory_moves.specs.Tints as tints
use Rattle.theory_promises.specs.View.{tint_of, view, Shape}
use Rattle.theory_promises.proofs.Viewing.{here, there}
use Rattle.machine.proofs.Chains.{chain_same, same_blocks, chain_push, push_length}
use Rattle.theory_promises.proofs.Buffers.{byte_set, byte_kept, eight_set, eight_kept}
use Rattle.theory_promises.proofs.Greys.{TintIn}
use Rattle.theory_promises.proofs.Recolouring.{recoloured}
use Rattle.theory_promises.proofs.Coursing.{colours_same, advance_same, advance_colours}

module _ (h : Heap) (p : Shape h) (s : h.regs.phase ≡ sweeping) where
  abbrev m : ℕ
  m = h.regs.blocks

  abbrev at : ℕ
  at = h.regs.position

  abbrev hues : Colouring
  hues = colouring h

  fitting : Fitting hues
  fitting = colouring_fits h p.ready

  pub position_block : Block m at
  position_block = sweeps_block h p.ready s

  -- a heap whose registers are those of advance, whatever its buffers and other registers
  pub onward : (r : Regs) → r.phase ≡ h.regs.phase → r.position ≡ at → r.mark ≡ h.regs.mark → (ws cs bs : List ℕ) → Onward (view h) (view (heap (advance r) ws cs bs)) h.regs.mark
  unfolding advance
  onward r f q k ws cs bs =
      by_eq r.position (sweep_end r)
      (λ e. ending (sym q ∙ e ∙ k) (rw (eq-eqb r.position (sweep_end r) e) refl))
      (λ e. going (λ z. e (q ∙ z ∙ sym k))
      (rw (ne_eqb r.position (sweep_end r) e) (f ∙ s)) (rw (ne_eqb r.position (sweep_end r) e) (ap (λ (n : ℕ). n + 1) q)))

  short : at ≤ h.regs.mark
  short = (p.ready.placed s).1

  -- the block at the position painted
  module _ (d : Colour) (plain : Plain d) where
    abbrev after : Colouring
    after = painted at d hues

    there_kept : (c : ℕ) → c ≢ at → colour_in after c ≡ colour_in hues c
    there_kept c n = linked.paint_there hues at d c position_block n

    here_is : colour_in after at ≡ d
    here_is = linked.paint_here hues at d plain fitting position_block

    legal_after : d ≢ Outside → (c : ℕ) → Block m c → colour_in after c ≢ Outside
    legal_after o c l =
        by_eq c at
        (λ z q. o (sym here_is ∙ ap (colour_in after) (sym z) ∙ q))
        (λ n q. p.colours c l (sym (there_kept c n) ∙ q))

    greys_after : colour_of h at ≢ Grey → GreysOf after
    greys_after n = linked.paint_greys hues at d fitting position_block n p.greys

  -- a black block becomes white
  module _ (k : colour_of h at ≡ Black) where
    abbrev whiter : Colouring
    whiter = painted at White hues

    as_whiter : coloured (advance h.regs).blocks (advance h.regs).grey whiter.cells ≡ whiter
    as_whiter = advance_colours h.regs whiter.cells refl refl

    tint_whiter : (c : ℕ) → (view (heap (advance h.regs) h.words whiter.cells h.bytes)).tint c ≡ TintIn whiter c
    tint_whiter c = ap (λ (j : Colouring). TintIn j c) as_whiter

    pub whiten_move : Sweep m (view h) (view (whitened h))
    unfolding whitened
    whiten_move =
        record {
          before = s;
          block = there position_block;
          short = short;
          onward = onward h.regs refl refl refl h.words whiter.cells h.bytes;
          root = advance_same (λ r. r.root) h.regs (λ x y r. refl);
          mark = advance_same (λ r. r.mark) h.regs (λ x y r. refl);
          here = whitening (ap tint_of k) (tint_whiter at ∙ ap tint_of (here_is White tt)) (record { words = λ u. refl; bits = λ u. refl });
          tints = λ c l n. tint_whiter c ∙ ap tint_of (there_kept White tt c n);
          cells = λ c l n. record { words = λ u. refl; bits = λ u. refl };
        }

    pub whiten_shape : Shape (whitened h)
    unfolding whitened
    whiten_shape =
        recoloured h p _ whiter as_whiter refl
        (advance_same (λ r. r.free) h.regs (λ x y r. refl))
        (advance_same (λ r. r.count) h.regs (λ x y r. refl))
        (whitened_kept h p.ready s)
        (legal_after White tt (λ z. never (cc)))
        free_iff
        (greys_after White tt (λ z. never (cc)))
      where
        free_iff : (c : ℕ) → Block m c → (TintIn whiter c ≡ tints.Free) ↔ (tint_of (colour_of h c) ≡ tints.Free)
        free_iff c l =
            by_eq c at
            (λ z. (
              λ e. let q : tints.White ≡ tints.Free = sym (ap tint_of (here_is White tt)) ∙ ap (TintIn whiter) (sym z) ∙ e in never (cc),
              λ e. let q : tints.Black ≡ tints.Free = sym (ap tint_of k) ∙ ap (λ (x : ℕ). tint_of (colour_of h x)) (sym z) ∙ e in never (cc),
            ))
            (λ n. let t = ap tint_of (there_kept White tt c n) in (λ e. sym t ∙ e, λ e. t ∙ e))

  -- a free block is passed
  module _ (k : colour_of h at ≡ Free) where
    as_before : coloured (advance h.regs).blocks (advance h.regs).grey h.colours ≡ hues
    as_before = advance_colours h.regs h.colours refl refl

    tint_same : (c : ℕ) → (view (heap (advance h.regs) h.words h.colours h.bytes)).tint c ≡ TintIn hues c
    tint_same c = ap (λ (j : Colouring). TintIn j c) as_before

    pub pass_move : Sweep m (view h) (view (passed h))
    unfolding passed
    pass_move =
        record {
          before = s;
          block = there position_block;
          short = short;
          onward = onward h.regs refl refl refl h.words h.colours h.bytes;
          root = advance_same (λ r. r.root) h.regs (λ x y r. refl);
          mark = advance_same (λ r. r.mark) h.regs (λ x y r. refl);
          here = passing (ap tint_of k) (tint_same at ∙ ap tint_of k) (record { words = λ u. refl; bits = λ u. refl });
          tints = λ c l n. tint_same c;
          cells = λ c l n. record { words = λ u. refl; bits = λ u. refl };
        }

    pub pass_shape : Shape (passed h)
    unfolding passed
    pass_shape =
        recoloured h p _ hues as_before refl
        (advance_same (λ r. r.free) h.regs (λ x y r. refl))
        (advance_same (λ r. r.count) h.regs (λ x y r. refl))
        (advance_kept h p.ready s)
        p.colours
        (λ c l. (λ e. e, λ e. e))
        p.greys

  -- a white block is freed
  module _ (k : colour_of h at ≡ White) where
    abbrev words' : List ℕ
    words' = with_eight h.words at (free_words h.regs.free)

    abbrev freer : Colouring
    freer = painted at Free hues

    abbrev bytes' : List ℕ
    bytes' = clear_byte h.bytes at

    -- the words and bits of other blocks stay, the freed block's bits are clear and its words are those of a free block
    words_kept : (c u : ℕ) → u ≤ 7 → Block m c → c ≢ at → word_of words' c u ≡ word_of h.words c u
    words_kept c u o l n = eight_kept position_block h.words (free_words h.regs.free) p.ready.words refl c u o l n

    words_here : (u : ℕ) → u ≤ 7 → word_of words' at u ≡ get_or (free_words h.regs.free) u 0
    words_here u o = eight_set position_block h.words (free_words h.regs.free) p.ready.words refl u o

    byte_there : (c : ℕ) → Block m c → c ≢ at → byte_of bytes' c ≡ byte_of h.bytes c
    byte_there c l n = byte_kept position_block h.bytes 0 c l n

    byte_here : byte_of bytes' at ≡ 0
    byte_here = byte_set position_block h.bytes 0 p.ready.bytes

    cells_kept : (r : Regs) (c : ℕ) → Block m c → c ≢ at → SameCells (view h) (view (heap r words' freer.cells bytes')) c
    cells_kept r c l n =
        record {
          words = λ u. by_test (leb u 7) (λ t. simp t (words_kept c u (leb-true u 7 t) l n)) (λ t. simp t);
          bits = λ u. ap (λ (x : ℕ). leb u 7 && bit x u) (byte_there c l n);
        }

    bits_clear : (u : ℕ) → (leb u 7 && bit (byte_of bytes' at) u) ≡ false
    unfolding bit
    bits_clear u = rw byte_here (by_test (leb u 7) (λ t. simp (t, zero-div)) (λ t. simp t))

    -- the registers afterwards: the position has gone on, the block is the free head, and the count is one more
    module _ (r : Regs) (blocks : r.blocks ≡ m) (free : r.free ≡ at) (count : r.count ≡ h.regs.count + 1) (grey : r.grey ≡ h.regs.grey)
        (ready : Ready (heap r words' freer.cells bytes')) where
      abbrev next : Heap
      next = heap r words' freer.cells bytes'

      kept_as : coloured r.blocks r.grey freer.cells ≡ freer
      kept_as = colours_same freer.cells blocks grey

      tint_there : (c : ℕ) → c ≢ at → colour_of next c ≡ colour_of h c
      tint_there c n = ap (λ (j : Colouring). colour_in j c) kept_as ∙ there_kept Free tt c n

      tint_here : colour_of next at ≡ Free
      tint_here = ap (λ (j : Colouring). colour_in j at) kept_as ∙ here_is Free tt

      block_back : {c : ℕ} → Block r.blocks c → Block m c
      block_back {c} l = subst (λ (x : ℕ). Block x c) blocks l

      block_on : {c : ℕ} → Block m c → Block r.blocks c
      block_on {c} l = subst (λ (x : ℕ). Block x c) (sym blocks) l

      free_iff : (c : ℕ) → c ≢ at → Coloured next Free c ↔ Coloured h Free c
      free_iff c n = (
        λ f. record { block = block_back f.block; colour = sym (tint_there c n) ∙ f.colour },
        λ f. record { block = block_on f.block; colour = tint_there c n ∙ f.colour },
      )

      not_free : Coloured h Free at → ⊥
      not_free f = let q : White ≡ Free = sym k ∙ f.colour in never (cc)

      pushed : Exactly (Coloured next Free) (λ b. word_of words' b 0) 0 at
      pushed =
          chain_push p.frees at (λ z. let l = position_block in absurd (omega arith)) not_free (words_here 0 (omega arith))
          (λ x f. words_kept x 0 (omega arith) f.block (λ z. not_free (subst (Coloured h Free) z f)))
          (record { block = block_on position_block; colour = tint_here }) free_iff

      pushed_length : length pushed.blocks ≡ suc (length p.frees.blocks)
      unfolding pushed
      pushed_length =
          push_length p.frees at (λ z. let l = position_block in absurd (omega arith)) not_free (words_here 0 (omega arith))
          (λ x f. words_kept x 0 (omega arith) f.block (λ z. not_free (subst (Coloured h Free) z f)))
          (record { block = block_on position_block; colour = tint_here }) free_iff

      laid_out : (b : ℕ) → Coloured next Free b → LaidOut next b
      laid_out b f =
          by_eq b at
          (λ z.
          record {
            byte = ap (byte_of bytes') z ∙ byte_here;
            words = λ u o q. ap (λ (x : ℕ). word_of words' x u) z ∙ words_here u q ∙ free_rest h.regs.free u o q;
          })
          (λ n.
          let d = p.laid b ((free_iff b n).0 f) in
          let l = block_back f.block in
          record { byte = byte_there b l n ∙ d.byte; words = λ u o q. words_kept b u q l n ∙ d.words u o q })

      pub freed_shape : Shape next
      freed_shape =
          record {
            ready = ready;
            colours = λ c l. by_eq c at
                (λ z q. let e : Free ≡ Outside = sym tint_here ∙ ap (colour_of next) (sym z) ∙ q in never (cc))
                (λ n q. p.colours c (block_back l) (sym (tint_there c n) ∙ q));
            greys = subst GreysOf (sym kept_as) (greys_after Free tt (λ z. never (cc)));
            frees = chain_same pushed (λ x f. refl) (λ x. (λ f. f, λ f. f)) free;
            laid = laid_out;
            counted = ap length (same_blocks pushed (λ x f. refl) (λ x. (λ f. f, λ f. f)) free) ∙ pushed_length ∙ ap suc p.counted ∙ sym (add-one h.regs.count) ∙ sym count;
          }

    abbrev counted_up : Regs
    counted_up = with_count (h.regs.count + 1) (with_free at h.regs)

    pub reclaim_move : Sweep m (view h) (view (reclaimed h))
    unfolding reclaimed
    reclaim_move =
        record {
          before = s;
          block = there position_block;
          short = short;
          onward = onward counted_up refl refl refl words' freer.cells bytes';
          root = advance_same (λ r. r.root) counted_up (λ x y r. refl);
          mark = advance_same (λ r. r.mark) counted_up (λ x y r. refl);
          here = freeing (ap tint_of k) (tint_on at ∙ ap tint_of (here_is Free tt)) bits_clear;
          tints = λ c l n. tint_on c ∙ ap tint_of (there_kept Free tt c n);
          cells = λ c l n. cells_kept (advance counted_up) c (here l) n;
        }
      where
        tint_on : (c : ℕ) → (view (heap (advance counted_up) words' freer.cells bytes')).tint c ≡ TintIn freer c
        tint_on c = ap (λ (j : Colouring). TintIn j c) (advance_colours counted_up freer.cells refl refl)

    -- the block freed is linked to the one that was the first
    pub reclaim_link : word_of (reclaimed h).words at 0 ≡ h.regs.free
    unfolding reclaimed
    reclaim_link = words_here 0 (omega arith)

    pub reclaim_shape : h.regs.count ≢ m → Shape (reclaimed h)
    unfolding reclaimed
    reclaim_shape n =
        freed_shape (advance counted_up)
        (advance_same (λ r. r.blocks) counted_up (λ x y r. refl))
        (advance_same (λ r. r.free) counted_up (λ x y r. refl))
        (advance_same (λ r. r.count) counted_up (λ x y r. refl))
        (advance_same (λ r. r.grey) counted_up (λ x y r. refl))
        (subst Ready refl (reclaimed_kept h p.ready s n))
