-- Today's colour layout keeps the laws of a layout: colour words, and the grey list linked through them.
--     word_here, word_there    the colour word of the block painted, and of any other
--     linked                   the record of laws
-- Of the proofs this file, Colours and Fits know how colours are kept and how the grey list is linked, and beside them only the laws of
-- code that reads colour words: Steps and Meeting (the unit's match), Running (the word met), Seeing (what a marked block names).
-- Assumes nothing.
use Prim.Native.Nat.{ℕ, ◌-◌, ◌≤◌}
use mathlib.Core.Path.{◌≡◌, refl, sym, ◌∙◌, ap, subst}
use mathlib.Core.Logic.{◌≢◌, ◌↔◌}
use mathlib.Core.Bool.{true}
use mathlib.Core.List.Memᴰ
use mathlib.Core.List.{[]}
use native.Mathlib.Omega.{arith}
use lib.ListN.{length-replicate, get_or-replicate}
use lib.Seq.{get_or-set_same, get_or-set_other}
use Rattle.machine.specs.declared.Colour.{Colour}
use Rattle.machine.specs.declared.Colour.TheVariants.{White, Grey, Black, Free, Outside}
use Rattle.machine.specs.Registers.{marking}
use Rattle.machine.specs.Block.{is_block}
use Rattle.machine.specs.Lists.{ends}
use Rattle.machine.specs.Colouring.{Colouring, coloured, white, black, freed, colour, colour_word, paint, word_in, colour_in, painted, to_grey, to_black, first_grey, is_grey, CellsFit, head_legal, fresh_colours, GreysOf, greys_pass}
use Rattle.machine.specs.WellFormed.{Block}
use Rattle.machine.specs.Layout.{Plain, Fitting, LayoutLaws}
use Rattle.machine.proofs.Tests.{by_test, by_eq}
use Rattle.machine.proofs.Hues.{tests_grey}
use Rattle.machine.proofs.Blocks.{is_block_block}
use Rattle.machine.proofs.Exact.{walk_exact, exact_walk}
use Rattle.machine.proofs.Chains.{chain_same, chain_push, chain_pop, none_listed, head_listed}
use Rattle.machine.proofs.Colours.{is_white, is_black, is_free_lem, is_grey_lem, head_block, colour_block, colour_none, inside_block}
use Rattle.machine.proofs.Steps.{never}
use Rattle.machine.proofs.Fits.{head_one, head_elsewhere, paint_fits, grey_fits, black_fits}

-- the word of a legal grey head is grey
grey_word : (m g : ℕ) → m ≤ 16384 → head_legal m marking g ≡ true → Grey ≡ colour m g
grey_word m g h l =
    by_eq g 1
    (λ o. is_grey_lem m g (omega arith) (omega arith) (omega arith) (omega arith))
    (λ o. let b = (head_block m marking g l o).1 in is_grey_lem m g (omega arith) (omega arith) (omega arith) b.high)

grey_inside : (k : Colouring) (b : ℕ) → colour_in k b ≡ Grey → Block k.blocks b
grey_inside k b g = inside_block k b (λ o. never (cc))

-- the word w painted on the block b, with any grey head
module _ (k : Colouring) (b w : ℕ) (l : Block k.blocks b) where
  abbrev after : ℕ → Colouring
  after g = coloured k.blocks g (paint b w k.cells)

  pub word_here : CellsFit k.blocks k.cells → colour_word (paint b w k.cells) b ≡ w
  word_here e = get_or-set_same k.cells (b - 2) w 0 (omega arith)

  pub word_there : (x : ℕ) → Block k.blocks x → x ≢ b → colour_word (paint b w k.cells) x ≡ word_in k x
  word_there x i n = get_or-set_other k.cells (b - 2) (x - 2) w 0 (omega arith)

  colour_here : (g : ℕ) → CellsFit k.blocks k.cells → colour_in (after g) b ≡ colour k.blocks w
  colour_here g e = colour_block (after g) b l ∙ ap (colour k.blocks) (word_here e)

  colour_there : (g x : ℕ) → x ≢ b → colour_in (after g) x ≡ colour_in k x
  colour_there g x n = by_test (is_block k.blocks x)
      (λ i.
      let j = is_block_block k.blocks x i in
      colour_block (after g) x j ∙ ap (colour k.blocks) (word_there x j n) ∙ sym (colour_block k x j))
      (λ i. sym (colour_none (after g) x i) ∙ colour_none k x i)

  -- a block that was not grey and isn't grey then
  plain_greys : CellsFit k.blocks k.cells → colour_in k b ≢ Grey → colour k.blocks w ≢ Grey → GreysOf k → GreysOf (after k.head)
  plain_greys d n o e =
      chain_same e (λ x g. word_there x (grey_inside k x g) (apart x g))
      (λ x. (λ g. sym (colour_there k.head x (apart' x g)) ∙ g, λ g. colour_there k.head x (apart x g) ∙ g))
      refl
    where
      apart : (x : ℕ) → colour_in k x ≡ Grey → x ≢ b
      apart x g z = n (subst (λ (y : ℕ). colour_in k y ≡ Grey) z g)

      apart' : (x : ℕ) → colour_in (after k.head) x ≡ Grey → x ≢ b
      apart' x g z = o (sym (colour_here k.head d) ∙ subst (λ (y : ℕ). colour_in (after k.head) y ≡ Grey) z g)

paint_here_lem : (k : Colouring) (b : ℕ) (c : Colour) → Plain c → Fitting k → Block k.blocks b → colour_in (painted b c k) b ≡ c
paint_here_lem k b White p d l = colour_here k b white l k.head d.cells ∙ sym (is_white k.blocks white refl)
paint_here_lem k b Grey p d l = absurd p
paint_here_lem k b Black p d l = colour_here k b black l k.head d.cells ∙ sym (is_black k.blocks black refl)
paint_here_lem k b Free p d l = colour_here k b freed l k.head d.cells ∙ sym (is_free_lem k.blocks freed refl)
paint_here_lem k b Outside p d l = absurd p

paint_there_lem : (k : Colouring) (b : ℕ) (c : Colour) (x : ℕ) → Block k.blocks b → x ≢ b → colour_in (painted b c k) x ≡ colour_in k x
paint_there_lem k b White x l n = colour_there k b white l k.head x n
paint_there_lem k b Grey x l n = refl
paint_there_lem k b Black x l n = colour_there k b black l k.head x n
paint_there_lem k b Free x l n = colour_there k b freed l k.head x n
paint_there_lem k b Outside x l n = refl

paint_greys_lem : (k : Colouring) (b : ℕ) (c : Colour) → Fitting k → Block k.blocks b → colour_in k b ≢ Grey → GreysOf k → GreysOf (painted b c k)
paint_greys_lem k b White d l n e = plain_greys k b white l d.cells n (λ z. let q = is_white k.blocks white refl in never (cc)) e
paint_greys_lem k b Grey d l n e = e
paint_greys_lem k b Black d l n e = plain_greys k b black l d.cells n (λ z. let q = is_black k.blocks black refl in never (cc)) e
paint_greys_lem k b Free d l n e = plain_greys k b freed l d.cells n (λ z. let q = is_free_lem k.blocks freed refl in never (cc)) e
paint_greys_lem k b Outside d l n e = e

module _ (k : Colouring) (b : ℕ) (d : Fitting k) (l : Block k.blocks b) where
  grey_here_lem : colour_in (to_grey b k) b ≡ Grey
  grey_here_lem = colour_here k b k.head l b d.cells ∙ sym (grey_word k.blocks k.head d.most d.head)

  grey_greys_lem : colour_in k b ≢ Grey → GreysOf k → GreysOf (to_grey b k)
  grey_greys_lem n e =
      chain_push e b (λ z. absurd (omega arith)) n (word_here k b k.head l d.cells)
      (λ x g. word_there k b k.head l x (grey_inside k x g) (λ z. n (subst (λ (y : ℕ). colour_in k y ≡ Grey) z g)))
      grey_here_lem
      (λ x z. (λ g. sym (colour_there k b k.head l b x z) ∙ g, λ g. colour_there k b k.head l b x z ∙ g))

module _ (k : Colouring) (l : Block k.blocks (first_grey k)) where
  black_here_lem : Fitting k → colour_in (to_black k) (first_grey k) ≡ Black
  black_here_lem d = colour_here k (first_grey k) black l (word_in k (first_grey k)) d.cells ∙ sym (is_black k.blocks black refl)

  black_there_lem : (x : ℕ) → x ≢ first_grey k → colour_in (to_black k) x ≡ colour_in k x
  black_there_lem x n = colour_there k (first_grey k) black l (word_in k (first_grey k)) x n

  black_greys_lem : Fitting k → GreysOf k → GreysOf (to_black k)
  black_greys_lem d e =
      chain_pop e (λ z. absurd (omega arith))
      (λ x g n. word_there k (first_grey k) black l x (grey_inside k x g) n)
      (λ g. let q = black_here_lem d in never (cc))
      (λ x n. (λ g. sym (black_there_lem x n) ∙ g, λ g. black_there_lem x n ∙ g))

fresh_free_lem : (m b : ℕ) → Block m b → colour_in (coloured m 1 (fresh_colours m)) b ≡ Free
fresh_free_lem m b l =
    (colour_block (coloured m 1 (fresh_colours m)) b l
    ∙ ap (colour m) (get_or-replicate m (b - 2) freed 0 (omega arith))
    ∙ sym (is_free_lem m freed refl))

none_grey : (k : Colouring) → k.head ≡ 1 → ((b : ℕ) → colour_in k b ≢ Grey) → GreysOf k
none_grey k z n = record { blocks = []; listed = ends z; members = λ b. (λ i. absurd (Memᴰ.not-nil i), λ g. absurd (n b g)) }

fresh_greys_lem : (m : ℕ) → GreysOf (coloured m 1 (fresh_colours m))
fresh_greys_lem m =
    none_grey (coloured m 1 (fresh_colours m)) refl
    (λ b g. let q = fresh_free_lem m b (grey_inside (coloured m 1 (fresh_colours m)) b g) in never (cc))

module _ (k : Colouring) where
  grey_tests : (b : ℕ) → (is_grey k b ≡ true) ↔ (colour_in k b ≡ Grey)
  grey_tests b = (λ e. tests_grey (colour_in k b) e, λ e. rw e refl)

  out : colour_in k 1 ≡ Grey → ⊥
  out g = let l = grey_inside k 1 g in omega arith

  tested : (greys_pass k ≡ true) ↔ GreysOf k
  unfolding greys_pass
  tested = (
    λ e. (walk_exact (λ (b : ℕ). colour_in k b ≡ Grey) (is_grey k) grey_tests (word_in k) 1 k.blocks (grey_inside k) out k.head e).0,
    λ e. exact_walk (λ (b : ℕ). colour_in k b ≡ Grey) (is_grey k) grey_tests (word_in k) 1 k.blocks (grey_inside k) out k.head e,
  )

pub linked : LayoutLaws
linked =
    record {
      inside = inside_block;
      word = colour_block;
      rest = head_elsewhere;
      one = head_one;
      empty = λ k b e z g. none_listed {x = b} e z g;
      none = none_grey;
      first = λ k e n. head_listed e n;
      first_block = λ k d n. (head_block k.blocks marking k.head d.head n).1;
      paint_keeps = paint_fits;
      paint_here = paint_here_lem;
      paint_there = paint_there_lem;
      paint_greys = paint_greys_lem;
      grey_keeps = grey_fits;
      grey_here = λ k b d l. grey_here_lem k b d l;
      grey_there = λ k b x l n. colour_there k b k.head l b x n;
      grey_greys = λ k b d l n e. grey_greys_lem k b d l n e;
      black_keeps = black_fits;
      black_here = λ k d l. black_here_lem k l d;
      black_there = λ k x l n. black_there_lem k l x n;
      black_greys = λ k d l e. black_greys_lem k l d e;
      fresh_fits = λ m l. record { most = l; cells = length-replicate m freed; head = head_one m marking };
      fresh_free = fresh_free_lem;
      fresh_greys = fresh_greys_lem;
      tested = tested;
    }
