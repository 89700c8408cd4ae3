-- Laws of Allocate, one for each way through the code.
--     due_pace, due_share      the units due
--     due_ceil                 the same at pace 0, by the library's `div_ceil` of the free count, 0 counted as 1
--     list_none, list_uncounted, list_counted, list_bad, list_good     the tests of the free list
--     new_black, new_white              the new block's colour
--     taken_as, held_root, held_word    the taking and the storing
--     after_refused, after_done         what follows the units
--     list_zero, take_zero, holder_zero     what tests that refuse nothing establish
--     damaged_ends, ended_so            units that met damage, and units whose refusal number is known
--     allocate_refused, allocate_goes     the call
-- Assumes nothing.
use Prim.Native.Nat.{ℕ, ◌+◌, ◌-◌, ◌*◌, ◌/◌, ◌%◌, min, max, ◌≤◌}
use mathlib.Core.Path.{◌≡◌, refl, sym, ◌∙◌, ap}
use mathlib.Core.Logic.{◌≢◌}
use mathlib.Core.Bool.{Bool, true, false}
use mathlib.Core.List.{List}
use native.Mathlib.Nat.{add-zero}
use native.Mathlib.Omega.{arith}
use lib.ListN.{get_or, set}
use borrow.Author.Tests.{eq-eqb, ne_eqb}
use Rattle.machine.specs.declared.Regs.{Regs}
use Rattle.machine.specs.declared.Colour.{Colour}
use Rattle.machine.specs.declared.Colour.TheVariants.{White, Black}
use Rattle.machine.specs.Tests.{◌▷◌}
use Rattle.machine.specs.Rounding.{rounded_up}
use Rattle.machine.specs.Registers.{with_free, with_count, with_root, with_mark}
use Rattle.machine.specs.Block.{base}
use Rattle.machine.specs.Colouring.{painted}
use Rattle.machine.specs.Heap.{Heap, heap, colouring, with_regs}
use Rattle.machine.specs.State.{may_be_black, new_colour}
use Rattle.machine.specs.Entry.{entry, holder_place}
use Rattle.machine.specs.Answers.{Given, answering, refuse}
use Rattle.machine.specs.Units.{RunEnd, stopped, run}
use Rattle.machine.specs.WellFormed.{Block}
use Rattle.machine.specs.Store.{put_reference}
use Rattle.machine.specs.Allocate.{units_due, first_fits, list_refusal, taken, held, take_refusal, allocated, allocate}
use Rattle.machine.proofs.Tests.{by_eq}
use Rattle.machine.proofs.Rounding.{ceil_rounds}
use Rattle.machine.proofs.Blocks.{block_as}
use Rattle.machine.proofs.Entering.{first_zero}
use Rattle.machine.proofs.Refusals.{stops, word_zero}
use Rattle.machine.proofs.Storing.{unless_stops, unless_passes}

module _ (r : Regs) where
  pub due_pace : r.pace ≢ 0 → r.pace ≡ units_due r
  unfolding units_due
  due_pace n = simp (ne_eqb r.pace 0 n)

  pub due_share : r.pace ≡ 0 → r.count ≢ 0 → 2 * rounded_up r.blocks r.count ≡ units_due r
  unfolding units_due
  due_share p n =
      let e : max 1 r.count ≡ r.count = omega arith in
      simp (eq-eqb r.pace 0 p) (rw e refl)

  pub due_ceil : r.pace ≡ 0 → (d : ℕ) → d ≡ max r.count 1 → 2 * (r.blocks / d + min 1 (r.blocks % d)) ≡ units_due r
  unfolding units_due
  due_ceil p d e =
      let a : max 1 r.count ≡ d = omega arith in
      simp (eq-eqb r.pace 0 p) (rw (a, ceil_rounds r.blocks d (omega arith)) refl)

  pub new_black : (b : ℕ) → may_be_black r b ≡ true → Black ≡ new_colour r b
  unfolding new_colour
  new_black b e = simp e

  pub new_white : (b : ℕ) → may_be_black r b ≡ false → White ≡ new_colour r b
  unfolding new_colour
  new_white b e = simp e

module _ (h : Heap) where
  pub list_none : h.regs.free ≡ 0 → h.regs.count ≡ 0 → 7 ≡ list_refusal h
  unfolding list_refusal
  list_none f c = simp (eq-eqb h.regs.free 0 f, eq-eqb h.regs.count 0 c)

  pub list_uncounted : h.regs.free ≡ 0 → h.regs.count ≢ 0 → 8 ≡ list_refusal h
  unfolding list_refusal
  list_uncounted f c = simp (eq-eqb h.regs.free 0 f, ne_eqb h.regs.count 0 c)

  pub list_counted : h.regs.free ≢ 0 → h.regs.count ≡ 0 → 8 ≡ list_refusal h
  unfolding list_refusal
  list_counted f c = simp (ne_eqb h.regs.free 0 f, eq-eqb h.regs.count 0 c)

  pub list_good : {x : Bool} → h.regs.free ≢ 0 → h.regs.count ≢ 0 → x ≡ first_fits h → x ≡ true → 0 ≡ list_refusal h
  unfolding list_refusal
  list_good f c e t = simp (ne_eqb h.regs.free 0 f, ne_eqb h.regs.count 0 c, sym e ∙ t)

  pub list_bad : {x : Bool} → h.regs.free ≢ 0 → h.regs.count ≢ 0 → x ≡ first_fits h → x ≡ false → 8 ≡ list_refusal h
  unfolding list_refusal
  list_bad f c e t = simp (ne_eqb h.regs.free 0 f, ne_eqb h.regs.count 0 c, sym e ∙ t)

  -- a free list that is not refused has a first block
  pub list_zero : list_refusal h ≡ 0 → (h.regs.free ≢ 0) × (h.regs.count ≢ 0)
  list_zero e = (
    λ f. by_eq h.regs.count 0 (λ c. absurd (omega (arith, list_none f c))) (λ c. absurd (omega (arith, list_uncounted f c))),
    λ c. by_eq h.regs.free 0 (λ f. absurd (omega (arith, list_none f c))) (λ f. absurd (omega (arith, list_counted f c))),
  )

  pub taken_as : {link mark : ℕ} {x : Colour} (ws cs : List ℕ) → link ≡ get_or h.words (base h.regs.free) 0 → ws ≡ set h.words (base h.regs.free) 0
      → x ≡ new_colour h.regs h.regs.free → cs ≡ (painted h.regs.free x (colouring h)).cells
      → mark ≡ max h.regs.mark h.regs.free
      → heap (with_mark mark (with_count (h.regs.count - 1) (with_free link h.regs))) ws cs h.bytes ≡ taken h
  unfolding taken
  taken_as ws cs l w x c k = rw (l, w, c, x, k, add-zero (base h.regs.free)) refl

  pub held_root : (b w x : ℕ) → b ≡ 0 → with_regs (with_root x h.regs) h ≡ held b w x h
  unfolding held
  held_root b w x z = simp (eq-eqb b 0 z)

  pub held_word : (b w x : ℕ) {y : Heap} → b ≢ 0 → y ≡ put_reference b w x h → y ≡ held b w x h
  unfolding held
  held_word b w x n e = simp (ne_eqb b 0 n) e

  -- an allocation that is not refused after its units takes from a free list that is not refused
  pub take_zero : (b : ℕ) → take_refusal b h ≡ 0 → list_refusal h ≡ 0
  unfolding take_refusal
  take_zero b e = (first_zero _ _ e).1

  module _ (b w units : ℕ) {g : Given} {n : ℕ} where
    pub after_refused : n ≡ take_refusal b h → n ≢ 0 → g ≡ answering n 0 units h → g ≡ allocated b w (stopped 0 units h)
    unfolding allocated ◌▷◌
    after_refused e z a = simp (ne_eqb (take_refusal b h) 0 (λ y. z (e ∙ y))) (rw (← e) a)

    pub after_done : {x : Heap} → n ≡ take_refusal b h → n ≡ 0 → x ≡ held b w h.regs.free (taken h) → g ≡ answering 0 h.regs.free units x → g ≡ allocated b w (stopped 0 units h)
    unfolding allocated ◌▷◌
    after_done e z t a = simp (eq-eqb (take_refusal b h) 0 (sym e ∙ z)) (rw (← t) a)

  module _ (b w : ℕ) {g : Given} {n : ℕ} where
    pub allocate_refused : n ≡ entry h ▷ holder_place h.regs.blocks b w → n ≢ 0 → g ≡ refuse n h → g ≡ allocate b w h
    unfolding allocate
    allocate_refused e z a = unless_stops _ e z a

    pub allocate_goes : {units : ℕ} {e : RunEnd} → n ≡ entry h ▷ holder_place h.regs.blocks b w → n ≡ 0
        → units ≡ units_due h.regs → e ≡ run units 0 h → g ≡ allocated b w e → g ≡ allocate b w h
    unfolding allocate
    allocate_goes x z u d a = unless_passes h x z (a ∙ ap (allocated b w) (d ∙ ap (λ (k : ℕ). run k 0 h) u))

-- a holder that is no refusal 3 is the root or a word of a block
pub holder_zero : {m n : ℕ} (b w : ℕ) → n ≡ m → holder_place m b w ≡ 0 → b ≢ 0 → Block n b × (w ≤ 7)
unfolding holder_place
holder_zero {m} b w e p z =
    let q = word_zero m b w (simp (ne_eqb b 0 z) at p) in
    (block_as e q.0, q.1)

-- units that met damage end the call
pub damaged_ends : (b w : ℕ) (e : RunEnd) {g : Given} → e.refusal ≢ 0 → g ≡ answering e.refusal 0 e.units e.heap → g ≡ allocated b w e
unfolding allocated
damaged_ends b w e n a =
    let s : e.refusal ≡ e.refusal ▷ take_refusal b e.heap = stops (take_refusal b e.heap) refl n in
    simp (← s, ne_eqb e.refusal 0 n) a

-- units whose refusal number is known
pub ended_so : {n : ℕ} (k i : ℕ) (h : Heap) {e : RunEnd} → stopped n i h ≡ e → n ≡ k → stopped k i h ≡ e
ended_so k i h q z = rw z at q
