-- Tests 1 and 2 and the facts that they establish.
--     entry_ready, ready_entry     refusals 1 and 2 are not given exactly where the heap is Ready
--     first_zero                   the first of two refusals is none exactly where both are
--     choose_zero                  a choice of refusal that refused nothing
--     none-or-block, block-or-none the test is_block_or_none and the fact Block
--     none_or_high                 the same test by two comparisons
--     legal_idle, legal_marking, legal_sweeping, legal_nowhere     the phase, the grey head and the position, phase by phase
--     fits-lengths, unfit-lengths  what fits, the lengths tested first
--     legal_as, illegal_phase, illegal_free, illegal_count, illegal_mark     legal registers, the tests in another order
-- Assumes nothing.
use Prim.Native.Nat.{ℕ, ◌+◌, ◌*◌, ◌≤◌, ◌<◌}
use mathlib.Core.Path.{◌≡◌, refl, sym, ◌∙◌}
use mathlib.Core.Logic.{◌≢◌, ⊎_elim}
use mathlib.Core.Bool.{Bool, true, false, ◌&&◌, ◌||◌, not}
use native.Mathlib.Omega.{arith}
use lib.Dec.{leb, eqb}
use lib.ListN.{length}
use borrow.Author.Tests.{leb-true, eqb-true, le-leb, lt-leb, eq-eqb, ne_eqb}
use Rattle.machine.specs.declared.Regs.{Regs}
use Rattle.std.specs.Prelude.{if◌then◌else◌}
use Rattle.machine.specs.Tests.{◌▷◌}
use Rattle.machine.specs.Registers.{idle, marking, sweeping, sweep_end}
use Rattle.machine.specs.Block.{is_block}
use Rattle.machine.specs.Colouring.{colours_fit, head_legal}
use Rattle.machine.specs.Heap.{Heap}
use Rattle.machine.specs.Entry.{numbers_fit, lengths_fit, fits, heap_fits, is_block_or_none, mark_legal, position_legal, legal, entry}
use Rattle.machine.specs.WellFormed.{Block}
use Rattle.machine.specs.Ready.{Ready}
use Rattle.machine.proofs.Tests.{both_true, both, either_true, by_test, by_eq, clash}
use Rattle.machine.proofs.Blocks.{is_block_block, block_is_block}

-- the first of two refusals is 0 exactly where both are
pub first_zero : (a b : ℕ) → a ▷ b ≡ 0 → (a ≡ 0) × (b ≡ 0)
unfolding ◌▷◌
first_zero a b = go (eqb a 0) refl
  where
    go : (t : Bool) → eqb a 0 ≡ t → (if t then b else a) ≡ 0 → (a ≡ 0) × (b ≡ 0)
    go true e z = (eqb-true a 0 e, z)
    go false e z = clash (eq-eqb a 0 z) e

pub choose_zero : (t : Bool) (n : ℕ) → n ≢ 0 → (if t then 0 else n) ≡ 0 → t ≡ true
choose_zero true n ne e = refl
choose_zero false n ne e = absurd (ne e)

pub none_or_block : (m b : ℕ) → is_block_or_none m b ≡ true → b ≢ 0 → Block m b
unfolding is_block_or_none
none_or_block m b e n = ⊎_elim (λ z. absurd (n (eqb-true b 0 z))) (λ i. is_block_block m b i) (either_true (eqb b 0) (is_block m b) e)

pub block_or_none : (m b : ℕ) → (b ≢ 0 → Block m b) → is_block_or_none m b ≡ true
unfolding is_block_or_none
block_or_none m b f = by_eq b 0 (λ z. simp (eq-eqb b 0 z)) (λ n. simp (ne_eqb b 0 n, block_is_block m b (f n)))

pub none_or_high : (m b : ℕ) → b ≤ m + 1 → (not (eqb b 1)) ≡ is_block_or_none m b
unfolding is_block_or_none is_block
none_or_high m b l = by_eq b 1
    (λ e. rw e refl)
    (λ n. by_eq b 0 (λ z. rw z refl) (λ z. simp (ne_eqb b 1 n, ne_eqb b 0 z, le-leb 2 b (omega arith), le-leb b (m + 1) l)))

pub none_above : (m b : ℕ) → m + 1 < b → false ≡ is_block_or_none m b
unfolding is_block_or_none is_block
none_above m b l = simp (ne_eqb b 0 (λ z. absurd (omega arith)), le-leb 2 b (omega arith), lt-leb b (m + 1) l)

marked_of : (r : Regs) → mark_legal r ≡ true → (1 ≤ r.mark) × (r.mark ≤ r.blocks + 1)
unfolding mark_legal
marked_of r e =
    let l = both_true (leb 1 r.mark) (leb r.mark (r.blocks + 1)) e in
    (leb-true _ _ l.0, leb-true _ _ l.1)

mark_of : (r : Regs) → (1 ≤ r.mark) × (r.mark ≤ r.blocks + 1) → mark_legal r ≡ true
unfolding mark_legal
mark_of r l = both (le-leb _ _ l.0) (le-leb _ _ l.1)

placed_of : (r : Regs) → position_legal r ≡ true → r.phase ≡ sweeping → (2 ≤ r.position) × (r.position ≤ sweep_end r)
unfolding position_legal
placed_of r e s =
    let l = both_true (leb 2 r.position) (leb r.position (sweep_end r)) (simp (eq-eqb r.phase sweeping s) at e) in
    (leb-true _ _ l.0, leb-true _ _ l.1)

parked_of : (r : Regs) → position_legal r ≡ true → r.phase ≢ sweeping → r.position ≡ 0
unfolding position_legal
parked_of r e s = eqb-true r.position 0 (simp (ne_eqb r.phase sweeping s) at e)

position_of : (r : Regs) → (r.phase ≡ sweeping → (2 ≤ r.position) × (r.position ≤ sweep_end r)) → (r.phase ≢ sweeping → r.position ≡ 0) → position_legal r ≡ true
unfolding position_legal
position_of r p q =
    by_eq r.phase sweeping
    (λ s. simp (eq-eqb r.phase sweeping s, le-leb 2 r.position (p s).0, le-leb r.position (sweep_end r) (p s).1))
    (λ s. simp (ne_eqb r.phase sweeping s, eq-eqb r.position 0 (q s)))

and_true : (t : Bool) → (t && true) ≡ t
and_true true = refl
and_true false = refl

and_swap : (t u : Bool) → (t && u) ≡ (u && t)
and_swap true true = refl
and_swap true false = refl
and_swap false true = refl
and_swap false false = refl

-- the phase, and in it the grey head and the position, phase by phase
module _ (r : Regs) where
  abbrev phase_legal : Bool
  phase_legal = leb r.phase 2 && (head_legal r.blocks r.phase r.grey && position_legal r)

  pub legal_idle : {x : Bool} → r.phase ≡ idle → x ≡ (eqb r.grey 1 && eqb r.position 0) → x ≡ phase_legal
  unfolding head_legal position_legal
  legal_idle p e = e ∙ rw p (go (eqb r.grey 1))
    where
      go : (t : Bool) → (t && eqb r.position 0) ≡ ((t || false) && eqb r.position 0)
      go true = refl
      go false = refl

  pub legal_marking : {x : Bool} → r.phase ≡ marking → x ≡ (eqb r.position 0 && (eqb r.grey 1 || is_block r.blocks r.grey)) → x ≡ phase_legal
  unfolding head_legal position_legal
  legal_marking p e = e ∙ rw p (and_swap (eqb r.position 0) (eqb r.grey 1 || is_block r.blocks r.grey))

  pub legal_sweeping : {x : Bool} → r.phase ≡ sweeping → x ≡ (eqb r.grey 1 && (leb 2 r.position && leb r.position (sweep_end r))) → x ≡ phase_legal
  unfolding head_legal position_legal
  legal_sweeping p e = e ∙ rw p (go (eqb r.grey 1))
    where
      go : (t : Bool) → (t && (leb 2 r.position && leb r.position (sweep_end r))) ≡ ((t || false) && (leb 2 r.position && leb r.position (sweep_end r)))
      go true = refl
      go false = refl

  pub legal_nowhere : r.phase ≢ idle → r.phase ≢ marking → r.phase ≢ sweeping → false ≡ phase_legal
  legal_nowhere i k s = simp (lt-leb r.phase 2 (omega arith))

  -- the tests of the registers, one by one
  record Legal : Type 0 where
    phase : leb r.phase 2 ≡ true
    grey : head_legal r.blocks r.phase r.grey ≡ true
    free : is_block_or_none r.blocks r.free ≡ true
    root : is_block_or_none r.blocks r.root ≡ true
    count : leb r.count r.blocks ≡ true
    mark : mark_legal r ≡ true
    position : position_legal r ≡ true

  legal_parts : legal r ≡ true → Legal
  unfolding legal
  legal_parts e =
      let c6 = mark_legal r && position_legal r in
      let c5 = leb r.count r.blocks && c6 in
      let c4 = is_block_or_none r.blocks r.root && c5 in
      let c3 = is_block_or_none r.blocks r.free && c4 in
      let l1 = both_true (leb r.phase 2) (head_legal r.blocks r.phase r.grey && c3) e in
      let l2 = both_true (head_legal r.blocks r.phase r.grey) c3 l1.1 in
      let l3 = both_true (is_block_or_none r.blocks r.free) c4 l2.1 in
      let l4 = both_true (is_block_or_none r.blocks r.root) c5 l3.1 in
      let l5 = both_true (leb r.count r.blocks) c6 l4.1 in
      let l6 = both_true (mark_legal r) (position_legal r) l5.1 in
      record { phase = l1.0; grey = l2.0; free = l3.0; root = l4.0; count = l5.0; mark = l6.0; position = l6.1 }

  -- the order of the tests is free
  pub legal_as : leb r.count r.blocks ≡ true → mark_legal r ≡ true → phase_legal ≡ true → is_block_or_none r.blocks r.free ≡ true
      → {x : Bool} → x ≡ is_block_or_none r.blocks r.root → x ≡ legal r
  unfolding legal
  legal_as c k p f e =
      let (l, q) = both_true (leb r.phase 2) (head_legal r.blocks r.phase r.grey && position_legal r) p in
      let (g, o) = both_true (head_legal r.blocks r.phase r.grey) (position_legal r) q in
      simp (l, g, f, c, k, o) (e ∙ sym (and_true (is_block_or_none r.blocks r.root)))

  -- a test that fails makes the whole fail
  fails : {t : Bool} → (Legal → t ≡ true) → t ≡ false → false ≡ legal r
  fails f e = by_test (legal r) (λ l. clash (f (legal_parts l)) e) (λ l. sym l)

  pub illegal_phase : phase_legal ≡ false → false ≡ legal r
  illegal_phase e = fails (λ l. both l.phase (both l.grey l.position)) e

  pub illegal_free : is_block_or_none r.blocks r.free ≡ false → false ≡ legal r
  illegal_free e = fails (λ l. l.free) e

  pub illegal_count : leb r.count r.blocks ≡ false → false ≡ legal r
  illegal_count e = fails (λ l. l.count) e

  pub illegal_mark : mark_legal r ≡ false → false ≡ legal r
  illegal_mark e = fails (λ l. l.mark) e

-- the lengths are tested first
pub fits_lengths : (m u lw lc lb : ℕ) → lengths_fit m lw lc lb ≡ true → {x : Bool} → x ≡ numbers_fit m u → x ≡ fits m u lw lc lb
unfolding fits
fits_lengths m u lw lc lb l e = e ∙ sym (simp l (and_true (numbers_fit m u)))

pub unfit_lengths : (m u lw lc lb : ℕ) → lengths_fit m lw lc lb ≡ false → false ≡ fits m u lw lc lb
unfolding fits
unfit_lengths m u lw lc lb l = simp l (sym (and_swap (numbers_fit m u) false))

-- the parts of what fits, one by one
record Fit (h : Heap) : Type 0 where
  some : leb 1 h.regs.blocks ≡ true
  most : leb h.regs.blocks 16384 ≡ true
  pace : leb h.regs.pace 65535 ≡ true
  words : eqb (length h.words) (8 * h.regs.blocks) ≡ true
  colours : colours_fit h.regs.blocks (length h.colours) ≡ true
  bytes : eqb (length h.bytes) h.regs.blocks ≡ true

fit_parts : (h : Heap) → heap_fits h ≡ true → Fit h
unfolding fits numbers_fit lengths_fit
fit_parts h f =
    let r = h.regs in
    let m = r.blocks in
    let a = both_true (numbers_fit m r.pace) (lengths_fit m (length h.words) (length h.colours) (length h.bytes)) f in
    let a1 = both_true (leb 1 m) (leb m 16384 && leb r.pace 65535) a.0 in
    let a2 = both_true (leb m 16384) (leb r.pace 65535) a1.1 in
    let b1 = both_true (eqb (length h.words) (8 * m)) (colours_fit m (length h.colours) && eqb (length h.bytes) m) a.1 in
    let b2 = both_true (colours_fit m (length h.colours)) (eqb (length h.bytes) m) b1.1 in
    record { some = a1.0; most = a2.0; pace = a2.1; words = b1.0; colours = b2.0; bytes = b2.1 }

pub tests_ready : (h : Heap) → heap_fits h ≡ true → legal h.regs ≡ true → Ready h
tests_ready h f l =
    let p = fit_parts h f in
    let q = legal_parts h.regs l in
    record {
      some = leb-true _ _ p.some;
      most = leb-true _ _ p.most;
      pace = leb-true _ _ p.pace;
      words = eqb-true _ _ p.words;
      colours = eqb-true _ _ p.colours;
      bytes = eqb-true _ _ p.bytes;
      phase = leb-true _ _ q.phase;
      grey = q.grey;
      free = none_or_block _ _ q.free;
      root = none_or_block _ _ q.root;
      count = leb-true _ _ q.count;
      marked = marked_of _ q.mark;
      placed = placed_of _ q.position;
      parked = parked_of _ q.position;
    }

pub ready_fits : (h : Heap) → Ready h → heap_fits h ≡ true
unfolding fits numbers_fit lengths_fit
ready_fits h d =
    both (both (le-leb _ _ d.some) (both (le-leb _ _ d.most) (le-leb _ _ d.pace)))
    (both (eq-eqb _ _ d.words) (both (eq-eqb _ _ d.colours) (eq-eqb _ _ d.bytes)))

pub ready_legal : (h : Heap) → Ready h → legal h.regs ≡ true
unfolding legal
ready_legal h d =
    both (le-leb _ _ d.phase)
    (both d.grey
    (both (block_or_none _ _ d.free)
    (both (block_or_none _ _ d.root)
    (both (le-leb _ _ d.count) (both (mark_of h.regs d.marked) (position_of h.regs d.placed d.parked))))))

pub entry_ready : (h : Heap) → entry h ≡ 0 → Ready h
unfolding entry
entry_ready h e =
    let z = first_zero (if heap_fits h then 0 else 1) (if legal h.regs then 0 else 2) e in
    tests_ready h (choose_zero (heap_fits h) 1 (omega arith) z.0) (choose_zero (legal h.regs) 2 (omega arith) z.1)

pub ready_entry : (h : Heap) → Ready h → entry h ≡ 0
unfolding entry ◌▷◌
ready_entry h d = simp (ready_fits h d, ready_legal h d)
