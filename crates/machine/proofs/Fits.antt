-- Today's colour layout keeps what tests 1 and 2 ask of it: a buffer that fits and a legal grey head.
--     head_one, head_of_block, head_elsewhere     legal grey heads: 1, a block while marking, and 1 alone outside it
--     next_legal               the word of a grey block is a legal grey head
--     paint_fits, grey_fits, black_fits     painting, greying and blackening keep a layout that fits
-- Assumes nothing.
use Prim.Native.Nat.{ℕ, ◌+◌}
use mathlib.Core.Path.{◌≡◌, refl, sym, ◌∙◌}
use mathlib.Core.Logic.{◌≢◌}
use mathlib.Core.Bool.{Bool, true, false, ◌||◌}
use native.Mathlib.Omega.{arith}
use lib.Dec.{eqb, leb}
use lib.ListN.{length-set}
use borrow.Author.Tests.{eq-eqb, ne_eqb, le-leb}
use Rattle.machine.specs.declared.Colour.{Colour}
use Rattle.machine.specs.declared.Colour.TheVariants.{Grey}
use Rattle.machine.specs.Registers.{marking}
use Rattle.machine.specs.Block.{is_block}
use Rattle.machine.specs.Colouring.{Colouring, white, black, freed, colour, word_in, colour_in, painted, to_grey, to_black, first_grey, head_legal}
use Rattle.machine.specs.WellFormed.{Block}
use Rattle.machine.specs.Layout.{Fitting}
use Rattle.machine.proofs.Tests.{by_test, by_eq}
use Rattle.machine.proofs.Blocks.{block_is_block}
use Rattle.machine.proofs.Colours.{head_block, colour_block, inside_block, repaint_length}
use Rattle.machine.proofs.Steps.{never}

-- legal grey heads
pub head_one : (m p : ℕ) → head_legal m p 1 ≡ true
unfolding head_legal
head_one m p = refl

pub head_of_block : (m b : ℕ) → Block m b → head_legal m marking b ≡ true
unfolding head_legal
head_of_block m b l = go (eqb b 1)
  where
    go : (t : Bool) → (t || is_block m b) ≡ true
    go true = refl
    go false = block_is_block m b l

pub head_elsewhere : (m p g : ℕ) → p ≢ marking → head_legal m p g ≡ true → g ≡ 1
head_elsewhere m p g n e = by_eq g 1 (λ z. z) (λ o. absurd (n (head_block m p g e o).0))

-- the word of a grey block is a legal grey head
pub next_legal : (m word : ℕ) → colour m word ≡ Grey → head_legal m marking word ≡ true
unfolding colour head_legal is_block
next_legal m word e =
    by_eq word white (λ z. never (cc (simp (eq-eqb word white z) at e))) (λ w.
    by_eq word black (λ z. never (cc (rw z at e))) (λ k.
    by_eq word freed (λ z. never (cc (rw z at e))) (λ f.
    by_test (leb word (m + 1))
    (λ t. by_eq word 1 (λ o. simp (eq-eqb word 1 o)) (λ o. simp (ne_eqb word 1 o, t, le-leb 2 word (omega arith))))
    (λ t. never (cc (simp (ne_eqb word white w, ne_eqb word black k, ne_eqb word freed f, t) at e))))))

-- a layout that fits stays so: a block painted, a block greyed, the first grey block made black
pub paint_fits : (k : Colouring) (b : ℕ) (c : Colour) → Fitting k → Fitting (painted b c k)
paint_fits k b c d = record { most = d.most; cells = repaint_length b c k.cells ∙ d.cells; head = d.head }

pub grey_fits : (k : Colouring) (b : ℕ) → Fitting k → Block k.blocks b → Fitting (to_grey b k)
grey_fits k b d l = record { most = d.most; cells = simp length-set d.cells; head = head_of_block k.blocks b l }

pub black_fits : (k : Colouring) → Fitting k → colour_in k (first_grey k) ≡ Grey → Fitting (to_black k)
black_fits k d g =
    let l = inside_block k (first_grey k) (λ o. never (cc)) in
    record { most = d.most; cells = simp length-set d.cells; head = next_legal k.blocks (word_in k (first_grey k)) (sym (colour_block k (first_grey k) l) ∙ g) }
