-- What the end of marking and a unit of the sweep keep of the registers: all but phase and position.
--     colours_same                     the same M and the same grey head make the same colouring
--     turned_same, advance_same        a register that doesn't depend on phase and position stays
--     turned_colours, advance_colours  so does the colouring
-- Assumes nothing.
use Prim.Native.Nat.{ℕ, ◌+◌}
use mathlib.Core.Path.{◌≡◌, refl, ◌∙◌}
use mathlib.Core.Bool.{Bool}
use mathlib.Core.List.{List}
use lib.Dec.{eqb}
use Rattle.machine.specs.declared.Regs.{Regs}
use Rattle.std.specs.Prelude.{if◌then◌else◌}
use Rattle.machine.specs.Registers.{idle, sweeping, with_phase, with_position, sweep_end}
use Rattle.machine.specs.Colouring.{coloured}
use Rattle.machine.specs.OneUnit.{turned_regs, advance}
use Rattle.machine.proofs.Tests.{if_ind}

pub colours_same : {a b c d : ℕ} (cs : List ℕ) → a ≡ b → c ≡ d → coloured a c cs ≡ coloured b d cs
colours_same cs p q = λ i. coloured (p i) (q i) cs

module _ {A : Type 0} (f : Regs → A) (r : Regs) (same : (p q : ℕ) (s : Regs) → f (with_position q (with_phase p s)) ≡ f s) where
  -- idle, or on with another phase and position
  course_same : (t : Bool) (p q : ℕ) → f (if t then with_position 0 (with_phase idle r) else with_position q (with_phase p r)) ≡ f r
  course_same t p q = if_ind (λ (s : Regs). f s ≡ f r) t (λ e. same idle 0 r) (λ e. same p q r)

  pub turned_same : f (turned_regs r) ≡ f r
  unfolding turned_regs
  turned_same = course_same (eqb (sweep_end r) 1) sweeping 2

  pub advance_same : f (advance r) ≡ f r
  unfolding advance
  advance_same = course_same (eqb r.position (sweep_end r)) r.phase (r.position + 1)

module _ {m g : ℕ} (r : Regs) (cs : List ℕ) (blocks : r.blocks ≡ m) (grey : r.grey ≡ g) where
  pub turned_colours : coloured (turned_regs r).blocks (turned_regs r).grey cs ≡ coloured m g cs
  turned_colours = colours_same cs (turned_same (λ s. s.blocks) r (λ p q s. refl) ∙ blocks) (turned_same (λ s. s.grey) r (λ p q s. refl) ∙ grey)

  pub advance_colours : coloured (advance r).blocks (advance r).grey cs ≡ coloured m g cs
  advance_colours = colours_same cs (advance_same (λ s. s.blocks) r (λ p q s. refl) ∙ blocks) (advance_same (λ s. s.grey) r (λ p q s. refl) ∙ grey)
