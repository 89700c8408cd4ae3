-- The colour layout's own part of the audit's test: it says that colours are legal and that the grey list has exactly the grey blocks.
--     LegalColours h               "colours are legal"
--     layout_holds, hold_layout    layout_passes is true exactly where colours are legal and the grey list is right
-- How the grey list is kept and tested is the layout's: the record of its laws says what its test means.
-- Assumes nothing.
use Prim.Native.Nat.{ℕ}
use mathlib.Core.Path.{◌≡◌, refl}
use mathlib.Core.Logic.{◌≢◌}
use mathlib.Core.Bool.{true}
use native.Mathlib.Omega.{arith}
use Rattle.machine.specs.declared.Colour.{Colour}
use Rattle.machine.specs.declared.Colour.TheVariants.{White, Grey, Black, Free, Outside}
use Rattle.machine.specs.Colouring.{GreysOf, greys_pass}
use Rattle.machine.specs.Heap.{Heap, colouring, colour_of}
use Rattle.machine.specs.Audit.{all_from, legal_colour, is_legal, layout_passes}
use Rattle.machine.specs.WellFormed.{Block}
use Rattle.machine.proofs.Tests.{both_true, both, clash}
use Rattle.machine.proofs.Counting.{all_holds, holds_all}
use Rattle.machine.proofs.Linked.{linked}

legal_colour_lem : (c : Colour) → legal_colour c ≡ true → c ≢ Outside
legal_colour_lem c e o = clash e (rw o refl)

colour_legal : (c : Colour) → c ≢ Outside → legal_colour c ≡ true
colour_legal White n = refl
colour_legal Grey n = refl
colour_legal Black n = refl
colour_legal Free n = refl
colour_legal Outside n = absurd (n refl)

abbrev pub LegalColours : Heap → Type 0
LegalColours h = (b : ℕ) → Block h.regs.blocks b → colour_of h b ≢ Outside

module _ (h : Heap) where
  pub layout_holds : layout_passes (colouring h) ≡ true → LegalColours h × GreysOf (colouring h)
  unfolding layout_passes
  layout_holds e =
      let t = both_true (all_from (is_legal (colouring h)) h.regs.blocks 2) (greys_pass (colouring h)) e in (
        λ b l. legal_colour_lem (colour_of h b) (all_holds (is_legal (colouring h)) h.regs.blocks 2 t.0 b l.low (omega arith)),
        (linked.tested (colouring h)).0 t.1,
      )

  pub hold_layout : LegalColours h → GreysOf (colouring h) → layout_passes (colouring h) ≡ true
  unfolding layout_passes
  hold_layout f g =
      both
      (holds_all (is_legal (colouring h)) h.regs.blocks 2 (λ b l g. colour_legal (colour_of h b) (f b (record { low = l; high = omega arith }))))
      ((linked.tested (colouring h)).1 g)
