-- Laws of the colour layout, one for each way through the code.
--     is_white, is_black, is_free, is_grey_lem, is_outside     what a colour word means
--     head_block                                           a legal grey head that isn't 1 is a block, while marking
--     colour_word_lem, colour_block, colour_none, colour_as    the colour of a number, by its word
--     inside_block                                         what has a colour of the layout is a block
--     repaint_length                                       painting keeps the buffer's length
--     white_word                                           what is white has the white word
--     not_a_block, not_white, was_white                    the three ways of grey_white
--     plain_passes                                         the layout's test where no block is grey
-- Assumes nothing.
use Prim.Native.Nat.{ℕ, ◌+◌, ◌≤◌, ◌<◌}
use mathlib.Core.Path.{◌≡◌, refl, sym, ◌∙◌, ap}
use mathlib.Core.Logic.{◌≢◌, ⊎_elim}
use mathlib.Core.Bool.{true, false, ◌&&◌}
use mathlib.Core.List.{List}
use lib.Dec.{eqb, leb}
use lib.ListN.{length, length-set}
use borrow.Author.Tests.{le-leb, lt-leb, eq-eqb, ne_eqb, eqb-true}
use Rattle.machine.specs.declared.Colour.{Colour}
use Rattle.machine.specs.declared.Colour.TheVariants.{White, Grey, Black, Free, Outside}
use Rattle.machine.specs.Registers.{marking}
use Rattle.machine.specs.Block.{is_block}
use Rattle.machine.specs.Lists.{count_from, walk}
use Rattle.machine.specs.Colouring.{Colouring, coloured, white, black, freed, colour, colour_word, word_in, colour_in, white_colour, repaint, to_grey, grey_white, head_legal, is_grey, greys_pass}
use Rattle.machine.specs.WellFormed.{Block}
use Rattle.machine.proofs.Tests.{both_true, either_true, by_test, by_eq, if_ind, clash}
use Rattle.machine.proofs.Blocks.{is_block_block, block_is_block}

module _ (m word : ℕ) where
  pub is_white : word ≡ white → White ≡ colour m word
  unfolding colour
  is_white e = simp (eq-eqb word white e)

  pub is_black : word ≡ black → Black ≡ colour m word
  unfolding colour
  is_black e = rw e refl

  pub is_free_lem : word ≡ freed → Free ≡ colour m word
  unfolding colour
  is_free_lem e = rw e refl

  module _ (w : word ≢ white) (k : word ≢ black) (f : word ≢ freed) where
    pub is_grey_lem : word ≤ m + 1 → Grey ≡ colour m word
    unfolding colour
    is_grey_lem l = simp (ne_eqb word white w, ne_eqb word black k, ne_eqb word freed f, le-leb word (m + 1) l)

    pub is_outside : m + 1 < word → Outside ≡ colour m word
    unfolding colour
    is_outside l = simp (ne_eqb word white w, ne_eqb word black k, ne_eqb word freed f, lt-leb word (m + 1) l)

pub head_block : (m p g : ℕ) → head_legal m p g ≡ true → g ≢ 1 → (p ≡ marking) × Block m g
unfolding head_legal
head_block m p g e n =
    ⊎_elim (λ z. absurd (n (eqb-true g 1 z)))
    (λ i. let b = both_true (eqb p marking) (is_block m g) i in (eqb-true p marking b.0, is_block_block m g b.1))
    (either_true (eqb g 1) (eqb p marking && is_block m g) e)

-- the colour of a block is what its word means
module _ (k : Colouring) (b : ℕ) where
  pub colour_word_lem : is_block k.blocks b ≡ true → colour k.blocks (word_in k b) ≡ colour_in k b
  unfolding colour_in
  colour_word_lem e = simp e

  pub colour_block : Block k.blocks b → colour_in k b ≡ colour k.blocks (word_in k b)
  unfolding colour_in
  colour_block l = simp (block_is_block k.blocks b l)

  pub colour_none : is_block k.blocks b ≡ false → Outside ≡ colour_in k b
  unfolding colour_in
  colour_none e = simp e

  -- what has a colour of the layout is a block
  pub inside_block : colour_in k b ≢ Outside → Block k.blocks b
  inside_block n = by_test (is_block k.blocks b) (λ e. is_block_block k.blocks b e) (λ e. absurd (n (sym (colour_none e))))

-- the same of M, a grey head and a buffer, by what was read
pub colour_as : (m g : ℕ) (cs : List ℕ) (b : ℕ) {word : ℕ} {c : Colour} → is_block m b ≡ true → word ≡ colour_word cs b → c ≡ colour m word → c ≡ colour_in (coloured m g cs) b
colour_as m g cs b i w e = e ∙ ap (colour m) w ∙ colour_word_lem (coloured m g cs) b i

-- painting keeps the buffer's length
pub repaint_length : (b : ℕ) (c : Colour) (cs : List ℕ) → length (repaint b c cs) ≡ length cs
repaint_length b White cs = simp length-set
repaint_length b Grey cs = refl
repaint_length b Black cs = simp length-set
repaint_length b Free cs = simp length-set
repaint_length b Outside cs = refl

other_white : (m word : ℕ) → word ≢ white → white_colour (colour m word) ≡ false
unfolding colour
other_white m word n =
    simp (ne_eqb word white n)
    (if_ind (λ (c : Colour). white_colour c ≡ false) (eqb word black)
    (λ e. refl)
    (λ e. if_ind (λ (c : Colour). white_colour c ≡ false) (eqb word freed)
    (λ f. refl)
    (λ f. if_ind (λ (c : Colour). white_colour c ≡ false) (leb word (m + 1)) (λ l. refl) (λ l. refl))))

-- what is white has the white word
pub white_word : (k : Colouring) (b : ℕ) → white_colour (colour_in k b) ≡ true → word_in k b ≡ white
white_word k b e = by_eq (word_in k b) white (λ z. z)
    (λ n. by_test (is_block k.blocks b)
    (λ i. clash e (rw (← colour_word_lem k b i) (other_white k.blocks (word_in k b) n)))
    (λ i. clash e (rw (← colour_none k b i) refl)))

module _ (b : ℕ) (k : Colouring) where
  pub not_a_block : is_block k.blocks b ≡ false → k ≡ grey_white b k
  unfolding grey_white
  not_a_block e = simp (← colour_none k b e)

  pub not_white : word_in k b ≢ white → k ≡ grey_white b k
  unfolding grey_white
  not_white n = by_test (is_block k.blocks b)
      (λ e. simp (← colour_word_lem k b e, other_white k.blocks (word_in k b) n))
      (λ e. simp (← colour_none k b e))

  pub was_white : is_block k.blocks b ≡ true → word_in k b ≡ white → to_grey b k ≡ grey_white b k
  unfolding grey_white
  was_white e w = simp (← colour_word_lem k b e, ← is_white k.blocks (word_in k b) w)

-- an empty grey list where no block is grey passes the layout's test
pub plain_passes : (k : Colouring) → k.head ≡ 1 → count_from (is_grey k) k.blocks 2 ≡ 0 → true ≡ greys_pass k
unfolding greys_pass walk
plain_passes k g e = rw (e, g) refl
