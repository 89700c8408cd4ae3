-- A unit keeps what tests 1 and 2 ask: legal registers and buffers that fit.
--     grey_white_blocks, grey_all_blocks, grey_white_kept, grey_all_kept     greying a white block, and all white ones of a list, keeps a layout that fits
--     recoloured_kept, recolouring, colouring_fits     a heap with another colouring, and the colouring of a heap
--     advance_kept, begun_kept, marked_kept, turned_kept, reclaimed_kept, whitened_kept     each step keeps Ready
--     met_grey                 while marking, the block met is the grey head
--     unit_kept, done_kept, run_kept, ran_kept     a unit, and units in a row, leave a Ready heap Ready
-- Assumes nothing.
use Prim.Native.Nat.{ℕ, zero, suc, ◌+◌, ◌*◌}
use mathlib.Core.Path.{◌≡◌, refl, sym, ◌∙◌, ap, subst}
use mathlib.Core.Logic.{◌≢◌}
use mathlib.Core.Bool.{true}
use mathlib.Core.List.{List, [], ◌∷◌}
use native.Mathlib.Omega.{arith}
use lib.Dec.{eqb}
use lib.ListN.{length, length-set, length-append, length-take, length-drop}
use borrow.Author.Tests.{eq-eqb, ne_eqb, eqb-false}
use Rattle.machine.specs.declared.Regs.{Regs}
use Rattle.machine.specs.declared.Colour.{Colour}
use Rattle.machine.specs.declared.Colour.TheVariants.{White, Grey, Free}
use Rattle.std.specs.Prelude.{Result, Ok}
use Rattle.machine.specs.declared.Damaged.{Damaged}
use Rattle.machine.specs.Registers.{idle, marking, sweeping, with_phase, with_cycle, next_cycle, sweep_end}
use Rattle.machine.specs.Block.{with_eight, free_words, clear_byte}
use Rattle.machine.specs.Colouring.{Colouring, colour, colour_in, white_colour, painted, to_grey, to_black, first_grey, grey_white, grey_all, head_legal}
use Rattle.machine.specs.Heap.{Heap, heap, colouring, colour_of, with_regs, with_colouring, references_of}
use Rattle.machine.specs.WellFormed.{Block}
use Rattle.machine.specs.Ready.{Ready}
use Rattle.machine.specs.Layout.{Fitting}
use Rattle.machine.specs.OneUnit.{UnitEnd, met_block, met_word, begun, marked, all_sound, turned_regs, turned, advance, reclaimed, whitened, passed, act, unit, ended}
use Rattle.machine.specs.Units.{RunEnd, run}
use Rattle.machine.proofs.Tests.{by_eq, if_ind, clash}
use Rattle.machine.proofs.Blocks.{block_is_block}
use Rattle.machine.proofs.Linked.{linked}
use Rattle.machine.proofs.Steps.{step_cases}
use Rattle.machine.proofs.Running.{sweeps_block}
use Rattle.machine.proofs.Setting.{ready_words, ready_colours, ready_bytes, ready_grey, ready_free, ready_count, ready_cycle, ready_course}

pub grey_white_blocks : (b : ℕ) (k : Colouring) → (grey_white b k).blocks ≡ k.blocks
unfolding grey_white
grey_white_blocks b k = if_ind (λ (j : Colouring). j.blocks ≡ k.blocks) (white_colour (colour_in k b)) (λ e. refl) (λ e. refl)

pub grey_white_kept : (b : ℕ) (k : Colouring) → Fitting k → Fitting (grey_white b k)
unfolding grey_white
grey_white_kept b k d =
    if_ind Fitting (white_colour (colour_in k b))
    (λ e. linked.grey_keeps k b d (linked.inside k b (λ o. clash e (rw o refl))))
    (λ e. d)

pub grey_all_blocks : (bs : List ℕ) (k : Colouring) → (grey_all bs k).blocks ≡ k.blocks
unfolding grey_all
grey_all_blocks [] k = refl
grey_all_blocks (b ∷ bs) k = grey_all_blocks bs (grey_white b k) ∙ grey_white_blocks b k

pub grey_all_kept : (bs : List ℕ) (k : Colouring) → Fitting k → Fitting (grey_all bs k)
unfolding grey_all
grey_all_kept [] k d = d
grey_all_kept (b ∷ bs) k d = grey_all_kept bs (grey_white b k) (grey_white_kept b k d)

-- a heap with another colouring of as many blocks
pub recoloured_kept : (h : Heap) → Ready h → (k : Colouring) → h.regs.phase ≡ marking → k.blocks ≡ h.regs.blocks → Fitting k → Ready (with_colouring k h)
recoloured_kept h d k s e f =
    ready_colours (ready_grey d k.head (rw (s, ← e) f.head)) k.cells (f.cells ∙ e ∙ sym d.colours)

-- its colouring is then that one
pub recolouring : (h : Heap) (k : Colouring) → k.blocks ≡ h.regs.blocks → colouring (with_colouring k h) ≡ k
recolouring h k e = rw (← e) refl

-- the layout of a heap fits; away from marking the grey head is 1, which is legal while marking too
pub colouring_fits : (h : Heap) → Ready h → Fitting (colouring h)
colouring_fits h d = record { most = d.most; cells = d.colours; head = head }
  where
    head : head_legal h.regs.blocks marking h.regs.grey ≡ true
    head = by_eq h.regs.phase marking (λ s. rw (← s) d.grey) (λ n. rw (linked.rest _ _ _ n d.grey) (linked.one h.regs.blocks marking))

-- painting keeps the length of the colour buffer
cells_kept : (h : Heap) → Ready h → (b : ℕ) (c : Colour) → length (painted b c (colouring h)).cells ≡ length h.colours
cells_kept h d b c = (linked.paint_keeps (colouring h) b c (colouring_fits h d)).cells ∙ sym d.colours

-- the buffer with a block's eight words replaced is as long as it was
length_eight : (m : ℕ) (ws : List ℕ) (b x : ℕ) → Block m b → length ws ≡ 8 * m → length (with_eight ws b (free_words x)) ≡ length ws
unfolding with_eight
length_eight m ws b x l e = simp (length-append, length-take, length-drop) (omega arith)

-- the sweep's position goes on, or the sweep ends
pub advance_kept : (h : Heap) → Ready h → h.regs.phase ≡ sweeping → Ready (with_regs (advance h.regs) h)
unfolding advance
advance_kept h d s =
    let off : h.regs.phase ≢ marking = λ z. absurd (omega arith) in
    if_ind (λ (r : Regs). Ready (with_regs r h)) (eqb h.regs.position (sweep_end h.regs))
    (λ e.
    ready_course d idle 0
    (record { phase = omega arith; grey = rw (linked.rest _ _ _ off d.grey) (linked.one _ _); placed = λ z. absurd (omega arith); parked = λ z. refl }))
    (λ e.
    let n : h.regs.position ≢ sweep_end h.regs = eqb-false _ _ e in
    let p = d.placed s in
    ready_course d h.regs.phase (h.regs.position + 1)
    (record { phase = d.phase; grey = d.grey; placed = λ z. (omega arith, omega arith); parked = λ z. absurd (z s) }))

pub begun_kept : (h : Heap) → Ready h → h.regs.phase ≡ idle → Ready (begun h)
unfolding begun
begun_kept h d i =
    let off : h.regs.phase ≢ marking = λ z. absurd (omega arith) in
    let still : h.regs.phase ≢ sweeping = λ z. absurd (omega arith) in
    let c : Ready (with_regs (with_phase marking (with_cycle (next_cycle h.regs.cycle) h.regs)) h) =
    ready_course (ready_cycle d (next_cycle h.regs.cycle)) marking h.regs.position
    (record { phase = omega arith; grey = rw (linked.rest _ _ _ off d.grey) (linked.one _ _); placed = λ z. absurd (omega arith); parked = λ z. d.parked still }) in
    if_ind (λ (k : Colouring). Ready (with_colouring k (with_regs (with_phase marking (with_cycle (next_cycle h.regs.cycle) h.regs)) h))) (eqb h.regs.root 0)
    (λ e. c)
    (λ e.
    recoloured_kept _ c (to_grey h.regs.root (colouring h)) refl refl
    (linked.grey_keeps (colouring h) h.regs.root (colouring_fits h d) (d.root (eqb-false _ _ e))))

pub marked_kept : (h : Heap) → Ready h → h.regs.phase ≡ marking → colour_of h (first_grey (colouring h)) ≡ Grey → Ready (marked h)
unfolding marked
marked_kept h d s g =
    recoloured_kept h d (grey_all (references_of h (first_grey (colouring h))) (to_black (colouring h))) s
    (grey_all_blocks (references_of h (first_grey (colouring h))) (to_black (colouring h)))
    (grey_all_kept _ _ (linked.black_keeps (colouring h) (colouring_fits h d) g))

-- while marking, the block met is the first grey one
pub met_grey : (h : Heap) → h.regs.phase ≡ marking → Block h.regs.blocks (first_grey (colouring h)) → colour_of h (first_grey (colouring h)) ≡ colour h.regs.blocks (met_word h)
unfolding met_word met_block
met_grey h k b =
    (linked.word (colouring h) (first_grey (colouring h)) b
    ∙ simp (ne_eqb h.regs.phase idle (λ z. absurd (omega arith)), eq-eqb h.regs.phase marking k, block_is_block _ _ b))

pub turned_kept : (h : Heap) → Ready h → h.regs.grey ≡ 1 → Ready (turned h)
unfolding turned turned_regs
turned_kept h d g =
    let k = d.marked in
    if_ind (λ (r : Regs). Ready (with_regs r h)) (eqb (sweep_end h.regs) 1)
    (λ e.
    ready_course d idle 0
    (record { phase = omega arith; grey = rw g (linked.one _ _); placed = λ z. absurd (omega arith); parked = λ z. refl }))
    (λ e.
    let n : sweep_end h.regs ≢ 1 = eqb-false _ _ e in
    ready_course d sweeping 2
    (record { phase = omega arith; grey = rw g (linked.one _ _); placed = λ z. (omega arith, omega arith); parked = λ z. absurd (z refl) }))

pub reclaimed_kept : (h : Heap) → Ready h → h.regs.phase ≡ sweeping → h.regs.count ≢ h.regs.blocks → Ready (reclaimed h)
unfolding reclaimed
reclaimed_kept h d s n =
    let b = sweeps_block h d s in
    let c = d.count in
    advance_kept _
    (ready_words
    (ready_colours
    (ready_bytes (ready_count (ready_free d h.regs.position (λ z. b)) (h.regs.count + 1) (omega arith))
    (clear_byte h.bytes h.regs.position) (simp length-set))
    (painted h.regs.position Free (colouring h)).cells (cells_kept h d h.regs.position Free))
    (with_eight h.words h.regs.position (free_words h.regs.free)) (length_eight _ _ _ _ b d.words))
    s

pub whitened_kept : (h : Heap) → Ready h → h.regs.phase ≡ sweeping → Ready (whitened h)
unfolding whitened
whitened_kept h d s = advance_kept _ (ready_colours d (painted h.regs.position White (colouring h)).cells (cells_kept h d h.regs.position White)) s

pub unit_kept : (h : Heap) → Ready h → Ready (unit h).heap
unfolding unit act passed
unit_kept h d =
    step_cases (λ s. Ready (act s h).heap) h.regs.blocks h.regs.phase h.regs.grey (met_word h)
    (λ i w. begun_kept h d i)
    (λ k o. turned_kept h d o)
    (λ k o c.
    let b = linked.first_block (colouring h) (colouring_fits h d) o in
    if_ind (λ (e : UnitEnd). Ready e.heap) (all_sound (colouring h) (references_of h (first_grey (colouring h))))
    (λ a. marked_kept h d k (met_grey h k b ∙ c))
    (λ a. d))
    (λ s c.
    if_ind (λ (e : UnitEnd). Ready e.heap) (eqb h.regs.count h.regs.blocks)
    (λ a. d)
    (λ a. reclaimed_kept h d s (eqb-false _ _ a)))
    (λ s c. whitened_kept h d s)
    (λ s c. advance_kept h d s)
    d

-- the same of a unit that answered
pub done_kept : (h : Heap) → Ready h → (r s : Regs) (ws cs bs : List ℕ) (p : Result Regs Damaged) → ended r p ws cs bs ≡ unit h → p ≡ Ok s → Ready (heap s ws cs bs)
unfolding ended
done_kept h d r s ws cs bs p e q =
    subst (λ (u : UnitEnd). Ready u.heap) (sym e ∙ ap (λ (x : Result Regs Damaged). ended r x ws cs bs) q) (unit_kept h d)

-- units in a row keep it too
pub run_kept : (n i : ℕ) (h : Heap) → Ready h → Ready (run n i h).heap
unfolding run
run_kept zero i h d = d
run_kept (suc n) i h d =
    if_ind (λ (e : RunEnd). Ready e.heap) (unit h).finished
    (λ f. run_kept n (i + 1) (unit h).heap (unit_kept h d))
    (λ f. unit_kept h d)

pub ran_kept : {e : RunEnd} (n i : ℕ) (h : Heap) → e ≡ run n i h → Ready h → Ready e.heap
ran_kept n i h q d = rw q (run_kept n i h d)
