-- The test of a block, colour by colour: what block_passes establishes of a block of each colour, and what it asks for.
--     NamesWell h b strict         all that b names may be named
--     white_holds, holds_white     white: ahead of the sweep, so doomed, or all that it names is 0 or live
--     grey_holds, holds_grey       grey: the phase is marking, and all that it names is 0 or live
--     black_holds, holds_black     black: it may be, and all that it names is 0 or live, and while marking not white
--     free_holds, holds_free       free: laid out as a free block
--     outside_fails                no colour outside the layout
--     mark_holds                   above the mark: free
-- A block is asked for its colour, and unless it is free for being at or below the mark.
-- Assumes nothing.
use Prim.Native.Nat.{ℕ, ◌≤◌, ◌<◌}
use mathlib.Core.Path.{◌≡◌, refl, sym, ◌∙◌, ap}
use mathlib.Core.Logic.{⊎_elim}
use mathlib.Core.Bool.{Bool, true, false}
use native.Mathlib.Omega.{arith}
use lib.Dec.{eqb, leb}
use borrow.Author.Tests.{eqb-true, eq-eqb, leb-true}
use Rattle.machine.specs.declared.Colour.{Colour}
use Rattle.machine.specs.declared.Colour.TheVariants.{White, Grey, Black, Free, Outside}
use Rattle.machine.specs.Registers.{marking}
use Rattle.machine.specs.Block.{byte_of, eight_words}
use Rattle.machine.specs.Colouring.{free_colour, is_free}
use Rattle.machine.specs.Heap.{Heap, colouring, colour_of, references_of}
use Rattle.machine.specs.State.{ahead, state_from, state_in, may_be_black}
use Rattle.machine.specs.Audit.{may_name_all, zero_from, state_passes, mark_passes, block_passes}
use Rattle.machine.specs.WellFormed.{Names, LaidOut}
use Rattle.machine.proofs.Tests.{both_true, both, either_true, by_test, clash}
use Rattle.machine.proofs.Hues.{tests_free}
use Rattle.machine.proofs.Passing.{mark_low_lem, mark_free}
use Rattle.theory_audit.proofs.Words.{part_word, zero_holds, holds_zero}
use Rattle.theory_audit.proofs.Naming.{MayName, names_hold, hold_names}

module _ (h : Heap) (b : ℕ) where
  -- the test of the block b if its colour were c
  abbrev test_as : Colour → Bool
  test_as c = state_passes h.regs (colouring h) (eight_words h.words b) (byte_of h.bytes b) b (state_from h.regs b c)

  as_coloured : (c : Colour) → colour_of h b ≡ c → block_passes h b ≡ true → test_as c ≡ true
  unfolding block_passes state_in
  as_coloured c e t = rw e at (both_true (mark_passes h.regs (colouring h) b) _ t).1

  abbrev Used : Type 0
  Used = b ≤ h.regs.mark

  coloured_used : (c : Colour) → colour_of h b ≡ c → Used → test_as c ≡ true → block_passes h b ≡ true
  unfolding block_passes state_in
  coloured_used c e u t = sym (mark_low_lem h.regs (colouring h) b _ u) ∙ rw e t

  coloured_free : colour_of h b ≡ Free → test_as Free ≡ true → block_passes h b ≡ true
  unfolding block_passes state_in
  coloured_free e t = sym (mark_free h.regs (colouring h) b _ (ap free_colour e)) ∙ rw e t

  pub mark_holds : block_passes h b ≡ true → h.regs.mark < b → colour_of h b ≡ Free
  unfolding block_passes mark_passes
  mark_holds t l =
      ⊎_elim (λ m. absurd (let g = leb-true b h.regs.mark m in omega arith)) (λ f. tests_free _ f)
      (either_true (leb b h.regs.mark) (is_free (colouring h) b) (both_true (mark_passes h.regs (colouring h) b) _ t).0)

  abbrev pub NamesWell : Bool → Type 0
  NamesWell strict = (x : ℕ) → Names h b x → MayName h strict x

  pub white_holds : colour_of h b ≡ White → block_passes h b ≡ true → ahead h.regs b ≡ false → NamesWell false
  unfolding state_passes state_from
  white_holds e t d = names_hold h false b (rw d at (as_coloured White e t))

  pub holds_white : colour_of h b ≡ White → Used → (ahead h.regs b ≡ false → NamesWell false) → block_passes h b ≡ true
  unfolding state_passes state_from
  holds_white e u f =
      coloured_used White e u (by_test (ahead h.regs b) (λ d. rw d refl) (λ d. rw d (hold_names h false b (f d))))

  pub grey_holds : colour_of h b ≡ Grey → block_passes h b ≡ true → (h.regs.phase ≡ marking) × NamesWell false
  unfolding state_passes state_from
  grey_holds e t =
      let s = both_true (eqb h.regs.phase marking) (may_name_all h.regs (colouring h) false (references_of h b)) (as_coloured Grey e t) in
      (eqb-true h.regs.phase marking s.0, names_hold h false b s.1)

  pub holds_grey : colour_of h b ≡ Grey → Used → h.regs.phase ≡ marking → NamesWell false → block_passes h b ≡ true
  unfolding state_passes state_from
  holds_grey e u m f = coloured_used Grey e u (both (eq-eqb h.regs.phase marking m) (hold_names h false b f))

  pub black_holds : colour_of h b ≡ Black → block_passes h b ≡ true → (may_be_black h.regs b ≡ true) × NamesWell (eqb h.regs.phase marking)
  unfolding state_passes state_from
  black_holds e t =
      let strict = eqb h.regs.phase marking in
      let s = both_true (may_be_black h.regs b) (may_name_all h.regs (colouring h) strict (references_of h b)) (as_coloured Black e t) in
      (s.0, names_hold h strict b s.1)

  pub holds_black : colour_of h b ≡ Black → Used → may_be_black h.regs b ≡ true → NamesWell (eqb h.regs.phase marking) → block_passes h b ≡ true
  unfolding state_passes state_from
  holds_black e u m f = coloured_used Black e u (both m (hold_names h (eqb h.regs.phase marking) b f))

  pub free_holds : colour_of h b ≡ Free → block_passes h b ≡ true → LaidOut h b
  unfolding state_passes state_from
  free_holds e t =
      let s = both_true (eqb (byte_of h.bytes b) 0) (zero_from 7 1 (eight_words h.words b)) (as_coloured Free e t) in
      record {
        byte = eqb-true (byte_of h.bytes b) 0 s.0;
        words = λ w l g. sym (part_word h.words b w g) ∙ zero_holds (eight_words h.words b) 7 1 s.1 w l (omega arith);
      }

  pub holds_free : colour_of h b ≡ Free → LaidOut h b → block_passes h b ≡ true
  unfolding state_passes state_from
  holds_free e l =
      coloured_free e
      (both (eq-eqb (byte_of h.bytes b) 0 l.byte)
      (holds_zero (eight_words h.words b) 7 1 (λ w k g. part_word h.words b w (omega arith) ∙ l.words w k (omega arith))))

  pub outside_fails : {A : Type 0} → colour_of h b ≡ Outside → block_passes h b ≡ true → A
  unfolding state_passes state_from
  outside_fails e t = clash (as_coloured Outside e t) refl
