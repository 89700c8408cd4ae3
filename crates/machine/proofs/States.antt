-- Laws of states: what a live state says of the colour, and what a colour says of the state.
--     white_live, grey_live, black_live     a block of that colour is live: a white one where the sweep is past it or there is none
--     live_white, live_colour               a live white block is not ahead of the sweep; a live block is allocated
--     live_block, allocated_live            what is live is a block; what is allocated is live, where it is not doomed
--     Ahead, ahead_is, is_ahead             the test ahead, and what it says
--     black_not_idle, black_ahead, may_be_black_lem     where a block may be black
-- Assumes nothing.
use Prim.Native.Nat.{ℕ, ◌≤◌}
use mathlib.Core.Path.{◌≡◌, refl}
use mathlib.Core.Logic.{◌≢◌}
use mathlib.Core.Bool.{true, false}
use native.Mathlib.Omega.{arith}
use lib.Dec.{leb, eqb}
use borrow.Author.Tests.{leb-true, le-leb, eqb-true, eq-eqb}
use Rattle.machine.specs.declared.Regs.{Regs}
use Rattle.machine.specs.declared.Colour.{Colour}
use Rattle.machine.specs.declared.Colour.TheVariants.{White, Grey, Black, Free, Outside}
use Rattle.machine.specs.Registers.{idle, marking, sweeping}
use Rattle.machine.specs.Colouring.{Colouring, allocated_colour, colour_in, is_allocated}
use Rattle.machine.specs.State.{ahead, state_from, state_in, is_live, may_be_black}
use Rattle.machine.specs.WellFormed.{Block}
use Rattle.machine.proofs.Tests.{both_true, both, by_test, by_eq, clash}
use Rattle.machine.proofs.Linked.{linked}

pub record Ahead (r : Regs) (b : ℕ) : Type 0 where
  pub sweeps : r.phase ≡ sweeping
  pub reached : r.position ≤ b

module _ (r : Regs) (b : ℕ) where
  pub ahead_is : ahead r b ≡ true → Ahead r b
  unfolding ahead
  ahead_is e =
      let p = both_true (eqb r.phase sweeping) (leb r.position b) e in
      record { sweeps = eqb-true _ _ p.0; reached = leb-true _ _ p.1 }

  pub is_ahead : Ahead r b → ahead r b ≡ true
  unfolding ahead
  is_ahead d = both (eq-eqb _ _ d.sweeps) (le-leb _ _ d.reached)

  pub black_not_idle : may_be_black r b ≡ true → r.phase ≢ idle
  unfolding may_be_black ahead
  black_not_idle e z = clash e (rw z refl)

  pub black_ahead : may_be_black r b ≡ true → r.phase ≡ sweeping → r.position ≤ b
  unfolding may_be_black ahead
  black_ahead e z = leb-true r.position b (rw z at e)

  pub may_be_black_lem : r.phase ≤ 2 → r.phase ≢ idle → (r.phase ≡ sweeping → r.position ≤ b) → may_be_black r b ≡ true
  unfolding may_be_black ahead
  may_be_black_lem l n f =
      by_eq r.phase marking (λ m. rw m refl)
      (λ m. let s : r.phase ≡ sweeping = omega arith in rw s (le-leb r.position b (f s)))

module _ (r : Regs) (k : Colouring) (b : ℕ) where
  pub white_live : colour_in k b ≡ White → ahead r b ≡ false → is_live (state_in r k b) ≡ true
  unfolding state_in state_from
  white_live c e = rw (c, e) refl

  pub grey_live : colour_in k b ≡ Grey → is_live (state_in r k b) ≡ true
  unfolding state_in state_from
  grey_live c = rw c refl

  pub black_live : colour_in k b ≡ Black → is_live (state_in r k b) ≡ true
  unfolding state_in state_from
  black_live c = rw c refl

  pub live_white : is_live (state_in r k b) ≡ true → colour_in k b ≡ White → ahead r b ≡ false
  unfolding state_in state_from
  live_white e c = by_test (ahead r b) (λ t. clash e (rw (c, t) refl)) (λ t. t)

  pub live_colour : is_live (state_in r k b) ≡ true → is_allocated k b ≡ true
  unfolding state_in state_from
  live_colour e = go (colour_in k b) e
    where
      go : (c : Colour) → is_live (state_from r b c) ≡ true → allocated_colour c ≡ true
      go White e = refl
      go Grey e = refl
      go Black e = refl
      go Free e = e
      go Outside e = e

  pub live_block : is_live (state_in r k b) ≡ true → Block k.blocks b
  live_block e = linked.inside k b (λ o. clash (live_colour e) (rw o refl))

  -- an allocated block is live unless it is white and ahead of the sweep
  pub allocated_live : is_allocated k b ≡ true → (colour_in k b ≡ White → ahead r b ≡ false) → is_live (state_in r k b) ≡ true
  unfolding state_in state_from
  allocated_live a f = go (colour_in k b) refl a
    where
      go : (c : Colour) → colour_in k b ≡ c → allocated_colour c ≡ true → is_live (state_from r b c) ≡ true
      go White e a = rw (f e) refl
      go Grey e a = refl
      go Black e a = refl
      go Free e a = a
      go Outside e a = a
