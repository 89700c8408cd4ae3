-- Laws of marking: the loops over a block's references, and the unit that marks. A loop keeps the rest of the reference byte, takes the
-- word of its lowest set bit, and ends when the rest is 0.
--     sound_on, sound_off, sound_end     whether the references are sound, over one word and at the end
--     grey_on, grey_end             what was greyed, likewise
--     named_here, named_on          references that are 0 or blocks, likewise
--     mark_done, mark_damaged       the two ways of a unit that marks
-- Assumes nothing.
use Prim.Native.Nat.{ℕ, ◌-◌, ◌*◌, ◌%◌, ◌^◌, ◌<◌}
use mathlib.Core.Path.{◌≡◌, refl, subst}
use mathlib.Core.Logic.{◌≢◌}
use mathlib.Core.Bool.{true, false}
use mathlib.Core.List.{List}
use lib.Count.{count_trailing_zeros}
use lib.ListN.{get_or}
use Rattle.machine.specs.declared.Regs.{Regs}
use Rattle.machine.specs.declared.Step.TheVariants.{Mark}
use Rattle.std.specs.Prelude.{Ok, Err}
use Rattle.machine.specs.declared.Damaged.{Damaged}
use Rattle.machine.specs.Registers.{with_grey}
use Rattle.machine.specs.Block.{byte_of, eight_words, references}
use Rattle.machine.specs.Colouring.{Colouring, coloured, to_black, grey_white, grey_all}
use Rattle.machine.specs.Heap.{heap}
use Rattle.machine.specs.WellFormed.{Block}
use Rattle.machine.specs.OneUnit.{sound, all_sound, marked, act, ended}
use Rattle.machine.specs.Seen.{Named}
use Rattle.machine.proofs.LowestBit.{word_first, none_left}

-- the rest of a byte, and the number t of its lowest set bit
module _ (part : List ℕ) (rest t : ℕ) (f : rest < 256) (n : rest ≢ 0) (e : t ≡ count_trailing_zeros 32 rest) where
  abbrev left : List ℕ
  left = references part (rest - 1 * 2 ^ t % 4294967296)

  pub sound_on : (k : Colouring) → sound k (get_or part t 0) ≡ true → all_sound k (references part rest) ≡ all_sound k left
  unfolding all_sound
  sound_on k s = rw (word_first part rest t f n e, s) refl

  pub sound_off : (k : Colouring) → sound k (get_or part t 0) ≡ false → all_sound k (references part rest) ≡ false
  unfolding all_sound
  sound_off k s = rw (word_first part rest t f n e, s) refl

  pub grey_on : (k : Colouring) {j : Colouring} → j ≡ grey_white (get_or part t 0) k → grey_all (references part rest) k ≡ grey_all left j
  unfolding grey_all
  grey_on k {j} s = rw (word_first part rest t f n e, s) refl

  pub named_here : (m : ℕ) → Named m (references part rest) → get_or part t 0 ≢ 0 → Block m (get_or part t 0)
  named_here m a = (subst (Named m) (word_first part rest t f n e) a).0

  pub named_on : (m : ℕ) → Named m (references part rest) → Named m left
  named_on m a = (subst (Named m) (word_first part rest t f n e) a).1

module _ (part : List ℕ) (rest : ℕ) (z : rest ≡ 0) where
  pub sound_end : (k : Colouring) → all_sound k (references part rest) ≡ true
  unfolding all_sound
  sound_end k = rw (none_left part rest z) refl

  pub grey_end : (k : Colouring) → k ≡ grey_all (references part rest) k
  unfolding grey_all
  grey_end k = rw (none_left part rest z) refl

module _ (r : Regs) (ws cs bs part : List ℕ) (same : part ≡ eight_words ws r.grey) where
  abbrev refs : List ℕ
  refs = references part (byte_of bs r.grey)

  abbrev here : Colouring
  here = coloured r.blocks r.grey cs

  -- the code greys over some of the references, which changes as much as greying over all of them
  pub mark_done : {k j : Colouring} {s : Regs} → all_sound here refs ≡ true
      → k ≡ to_black here → j ≡ grey_all refs k → s ≡ with_grey j.head r
      → ended r (Ok s) ws j.cells bs ≡ act Mark (heap r ws cs bs)
  unfolding act ended marked
  mark_done a b g q = simp (rw same at a) (rw (q, g, b, same) refl)

  pub mark_damaged : (d : Damaged) → all_sound here refs ≡ false → ended r (Err d) ws cs bs ≡ act Mark (heap r ws cs bs)
  unfolding act ended
  mark_damaged d a = simp (rw same at a)
