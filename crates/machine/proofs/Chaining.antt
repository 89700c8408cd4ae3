-- Laws of Allocate chain, one for each way through the code.
--     chain_hangs              each block of a chain is named by the one before it
--     chain_filled, chain_parent, chain_word     what is filled in, and the holder of the next block
--     length_fits, length_none, length_high     the test of the length
--     place-stops, place-passes     refusal 3 for the holder, then for the length;     place-zero: what it establishes
--     chain-units              the units due fit
--     chain_refused, chain_goes     the call
-- Assumes nothing.
use Prim.Native.Nat.{ℕ, ◌+◌, ◌-◌, ◌*◌, max, ◌≤◌, ◌<◌}
use mathlib.Core.Path.{◌≡◌, sym, ◌∙◌, ap}
use mathlib.Core.Logic.{◌≢◌}
use mathlib.Core.Bool.{◌&&◌}
use native.Mathlib.Omega.{arith}
use lib.Dec.{leb, eqb}
use borrow.Author.Tests.{ne_eqb, le-leb, lt-leb, leb-true}
use Rattle.machine.specs.declared.Regs.{Regs}
use Rattle.machine.specs.Tests.{◌▷◌}
use Rattle.machine.specs.Heap.{Heap}
use Rattle.machine.specs.Entry.{entry, holder_place}
use Rattle.machine.specs.Answers.{Given, refuse}
use Rattle.machine.specs.Units.{RunEnd, run}
use Rattle.machine.specs.Store.{put_reference}
use Rattle.machine.specs.Allocate.{units_due}
use Rattle.machine.specs.Several.{nulled, zeroed, filled, first_frees, holder_of, by_word, several_taken}
use Rattle.machine.specs.Chain.{link, chain, chain_length, allocate_chain}
use Rattle.machine.proofs.Tests.{both_true, if_ind}
use Rattle.machine.proofs.Rounding.{round_most}
use Rattle.machine.proofs.Entering.{first_zero, choose_zero}
use Rattle.machine.proofs.Storing.{unless_stops, unless_passes}
use Rattle.machine.proofs.Walking.{at_frees}
use Rattle.machine.proofs.Serving.{Hanging, block_of}

pub chain_hangs : (n : ℕ) → Hanging chain n
chain_hangs n =
    record { earlier = λ i z l. omega arith; low = λ i l. omega arith; nulls = λ i l. (omega arith, tt); zeros = λ i l. tt }

pub chain_filled : (i x : ℕ) (h : Heap) {y : Heap} → y ≡ put_reference x link 0 h → y ≡ filled chain i x h
unfolding nulled zeroed
chain_filled i x h e = e

-- the block that was taken holds the next one
pub chain_parent : (b n i : ℕ) (h : Heap) {x : ℕ} → i < n → x ≡ block_of h i → x ≡ holder_of chain b (first_frees n h) (i + 1)
unfolding first_frees
chain_parent b n i h l e =
    let o : i + 1 - 1 ≡ i = omega arith in
    simp (ne_eqb (i + 1) 0 (λ z. absurd (omega arith))) (rw o (e ∙ sym (at_frees h n h.regs.free i l)))

pub chain_word : (w i : ℕ) → link ≡ by_word chain w (i + 1)
chain_word w i = simp (ne_eqb (i + 1) 0 (λ z. absurd (omega arith)))

module _ (n : ℕ) where
  pub length_fits : 1 ≤ n → n ≤ 256 → 0 ≡ chain_length n
  unfolding chain_length
  length_fits l h = simp (le-leb 1 n l, le-leb n 256 h)

  pub length_none : n < 1 → 3 ≡ chain_length n
  unfolding chain_length
  length_none l = simp (lt-leb 1 n l)

  pub length_high : 1 ≤ n → 256 < n → 3 ≡ chain_length n
  unfolding chain_length
  length_high l h = simp (le-leb 1 n l, lt-leb n 256 h)

  length_zero : chain_length n ≡ 0 → (1 ≤ n) × (n ≤ 256)
  unfolding chain_length
  length_zero e =
      let a = both_true (leb 1 n) (leb n 256) (choose_zero (leb 1 n && leb n 256) 3 (omega arith) e) in
      (leb-true 1 n a.0, leb-true n 256 a.1)

pub place_zero : (m b w n : ℕ) {e : ℕ} → e ≡ holder_place m b w ▷ chain_length n → e ≡ 0 → (holder_place m b w ≡ 0) × (1 ≤ n) × (n ≤ 256)
place_zero m b w n q z =
    let a = first_zero (holder_place m b w) (chain_length n) (sym q ∙ z) in
    let l = length_zero n a.1 in
    (a.0, l.0, l.1)

-- the units due are at most 65,535
pub due_most : (r : Regs) → r.blocks ≤ 16384 → r.pace ≤ 65535 → units_due r ≤ 65535
unfolding units_due
due_most r m p =
    if_ind (λ (x : ℕ). x ≤ 65535) (eqb r.pace 0)
    (λ e. omega (arith, round_most r.blocks (max 1 r.count) (omega arith)))
    (λ e. p)

module _ (h : Heap) (b w n : ℕ) {g : Given} {e : ℕ} where
  pub chain_refused : e ≡ entry h ▷ (holder_place h.regs.blocks b w ▷ chain_length n) → e ≢ 0 → g ≡ refuse e h → g ≡ allocate_chain b w n h
  unfolding allocate_chain
  chain_refused q z a = unless_stops _ q z a

  pub chain_goes : {units : ℕ} {u : RunEnd} → e ≡ entry h ▷ (holder_place h.regs.blocks b w ▷ chain_length n) → e ≡ 0
      → units ≡ units_due h.regs → u ≡ run (n * units) 0 h → g ≡ several_taken chain n b w u → g ≡ allocate_chain b w n h
  unfolding allocate_chain
  chain_goes q z k d a = unless_passes h q z (a ∙ ap (several_taken chain n b w) (d ∙ ap (λ (y : ℕ). run (n * y) 0 h) k))
