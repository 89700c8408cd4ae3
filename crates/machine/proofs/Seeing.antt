-- Laws of what marking sees of a block's references.
--     seen_white, seen_black, seen_grey, seen_damage     the four ways of seen for a block, by its colour word
--     sound_seen               seen unharmed is sound
--     white_block              only a block is seen white
--     Darker, darker_black, darker_grey     no cell turns white: not when the marked block becomes black, nor by greying
--     not_greyed               so what wasn't seen white is not greyed later
-- Assumes nothing.
use Prim.Native.Nat.{ℕ, ◌+◌, ◌-◌, ◌≤◌, ◌<◌}
use mathlib.Core.Path.{◌≡◌, refl, sym, ◌∙◌, ap}
use mathlib.Core.Logic.{◌≢◌}
use mathlib.Core.Bool.{true}
use native.Mathlib.Omega.{arith}
use lib.Dec.{eqb}
use lib.ListN.{length, get_or}
use lib.Seq.{get_or-set_same, get_or-set_other}
use borrow.Author.Tests.{ne_eqb}
use Rattle.machine.specs.declared.Colour.{Colour}
use Rattle.machine.specs.declared.Colour.TheVariants.{White, Grey, Black, Free, Outside}
use Rattle.machine.specs.declared.Seen.TheVariants.{Settled, ToGrey, Damaged}
use Rattle.machine.specs.Block.{is_block}
use Rattle.machine.specs.Colouring.{Colouring, white, black, freed, colour, word_in, colour_in, white_colour, to_black, first_grey, grey_white, allocated_colour}
use Rattle.machine.specs.OneUnit.{sound}
use Rattle.machine.specs.Seen.{seen_colour, seen, unharmed}
use Rattle.machine.proofs.Tests.{if_ind, by_test, by_eq}
use Rattle.machine.proofs.Blocks.{is_block_block}
use Rattle.machine.proofs.Colours.{is_white, is_black, is_free_lem, is_grey_lem, is_outside, colour_word_lem, colour_none, white_word, not_a_block, not_white}
use Rattle.machine.proofs.Steps.{never}

module _ (k : Colouring) (b : ℕ) {word : ℕ} (n : b ≢ 0) (i : is_block k.blocks b ≡ true) (w : word ≡ word_in k b) where
  abbrev m : ℕ
  m = k.blocks

  seen_as : {c : Colour} → c ≡ colour m word → seen_colour c ≡ seen k b
  unfolding seen
  seen_as e = simp (ne_eqb b 0 n) (ap seen_colour (e ∙ ap (colour m) w ∙ colour_word_lem k b i))

  pub seen_white : word ≡ white → ToGrey ≡ seen k b
  seen_white e = seen_as (is_white m word e)

  pub seen_black : word ≡ black → Settled ≡ seen k b
  seen_black e = seen_as (is_black m word e)

  module _ (x : word ≢ white) (y : word ≢ black) where
    -- the word of a free block is above every block number
    pub seen_grey : m ≤ 16384 → word ≤ m + 1 → Settled ≡ seen k b
    seen_grey h l = seen_as (is_grey_lem m word x y (λ f. absurd (omega arith)) l)

    pub seen_damage : m + 1 < word → Damaged ≡ seen k b
    seen_damage l = by_eq word freed (λ f. seen_as (is_free_lem m word f)) (λ f. seen_as (is_outside m word x y f l))

colour_unharmed : (c : Colour) → allocated_colour c ≡ unharmed (seen_colour c)
colour_unharmed White = refl
colour_unharmed Grey = refl
colour_unharmed Black = refl
colour_unharmed Free = refl
colour_unharmed Outside = refl

pub sound_seen : (k : Colouring) (b : ℕ) → sound k b ≡ unharmed (seen k b)
unfolding seen
sound_seen k b = by_test (eqb b 0) (λ e. simp e) (λ e. simp e (colour_unharmed (colour_in k b)))

-- only a block is seen white
pub white_block : (k : Colouring) (b : ℕ) → seen k b ≡ ToGrey → is_block k.blocks b ≡ true
unfolding seen
white_block k b e = by_test (eqb b 0)
    (λ z. never (cc (simp z at e)))
    (λ z. by_test (is_block k.blocks b) (λ i. i) (λ i. never (cc (simp (z, ← colour_none k b i) at e))))

-- no cell of k is white that isn't white in now
pub record Darker (now k : Colouring) : Type 0 where
  pub blocks : k.blocks ≡ now.blocks
  pub cells : (j : ℕ) → get_or k.cells j 0 ≡ white → get_or now.cells j 0 ≡ white

module _ (now : Colouring) where
  pub darker_black : first_grey now - 2 < length now.cells → Darker now (to_black now)
  darker_black l =
      record {
        blocks = refl;
        cells = λ j w. by_eq j (first_grey now - 2)
            (λ z. never (cc (get_or-set_same now.cells (first_grey now - 2) black 0 l)))
            (λ z. sym (get_or-set_other now.cells (first_grey now - 2) j black 0 z) ∙ w);
      }

  module _ (b : ℕ) (k : Colouring) (d : Darker now k) where
    pub darker_grey : Darker now (grey_white b k)
    unfolding grey_white
    darker_grey = if_ind (Darker now) (white_colour (colour_in k b))
        (λ t.
        record {
          blocks = d.blocks;
          cells = λ j w. by_eq j (b - 2) (λ z. d.cells j (rw z (white_word k b t))) (λ z. d.cells j (sym (get_or-set_other k.cells (b - 2) j k.head 0 z) ∙ w));
        })
        (λ t. d)

    -- what wasn't seen white is not greyed
    pub not_greyed : seen now b ≢ ToGrey → k ≡ grey_white b k
    not_greyed n = by_test (is_block now.blocks b)
        (λ i. not_white b k (λ w. n (sym (seen_white now b (λ z. let l = is_block_block now.blocks b i in absurd (omega (arith, l))) i refl (d.cells (b - 2) w)))))
        (λ i. not_a_block b k (rw d.blocks i))
