-- Laws of the audit's tests, one for each way through the code.
--     grey_block, free_block                       a grey and a free number are blocks
--     frees_no, frees_as                           the two ways of frees_pass
--     name_none, name_as                           the two ways of may_name
--     white_as, doomed_as, grey_off, grey_named, black_off, black_as, freed_off, freed_as, outside_off     a block, state by state
--     free_state_lem                                   a block is free exactly where its state is
--     mark_low_lem, mark_free, mark_off                the mark's test: a block at or below it, a free one, any other
--     mark_state                                   that test before what the state asks
--     block_as                                     a block, by the mark and its state
--     block_state                                  what the state alone asks of a block that passes
--     layout_greys, layout_plain                   where every block passes: the layout's part is the grey list's, and holds outside marking
--     entry_no, blocks_fail, layout_off, root_off, passes_as     the five ways of passes
--     audit_one, audit_none                        the two ways of audit
-- Assumes nothing.
use Prim.Native.Nat.{ℕ, zero, suc, ◌+◌, ◌≤◌, ◌<◌}
use mathlib.Core.Path.{◌≡◌, refl, sym, ◌∙◌, ap}
use mathlib.Core.Logic.{◌≢◌}
use mathlib.Core.Bool.{Bool, true, false, ◌&&◌, or-false, or-true}
use mathlib.Core.List.{List}
use borrow.Author.Tests.{le-leb, lt-leb, eq-eqb, ne_eqb, eqb-true}
use lib.Dec.{eqb}
use Rattle.machine.specs.declared.Regs.{Regs}
use Rattle.machine.specs.declared.Colour.{Colour}
use Rattle.machine.specs.declared.Colour.TheVariants.{White, Grey, Black, Free, Outside}
use Rattle.machine.specs.declared.State.{State}
use Rattle.machine.specs.declared.State.TheVariants as states
use Rattle.machine.specs.Registers.{marking}
use Rattle.machine.specs.Block.{word_of, byte_of, eight_words, references}
use Rattle.machine.specs.Colouring.{Colouring, colour_in, free_colour, grey_colour, is_grey, is_free, greys_pass, head_legal}
use Rattle.machine.specs.Heap.{Heap, colouring, colour_of}
use Rattle.machine.specs.State.{ahead, state_from, state_in, state_of, may_be_black}
use Rattle.machine.specs.Entry.{entry}
use Rattle.machine.specs.Ready.{Ready}
use Rattle.machine.specs.Answers.{done}
use Rattle.machine.specs.WellFormed.{Block}
use Rattle.machine.specs.Audit.{all_from, count_from, walk, legal_colour, is_legal, layout_passes, may_be_named}
use Rattle.machine.specs.Audit.{may_name, may_name_all, zero_from, state_passes, mark_passes, block_passes, frees_pass, passes, audit}
use Rattle.machine.proofs.Tests.{both_true, both, if_ind, by_test, clash}
use Rattle.machine.proofs.Colours.{inside_block, plain_passes}

module _ (k : Colouring) (b : ℕ) where
  pub grey_block : is_grey k b ≡ true → Block k.blocks b
  grey_block e = inside_block k b (λ o. clash e (rw o refl))

  pub free_block : is_free k b ≡ true → Block k.blocks b
  free_block e = inside_block k b (λ o. clash e (rw o refl))

module _ (r : Regs) (ws : List ℕ) (k : Colouring) (n : ℕ) (c : n ≡ count_from (is_free k) r.blocks 2) where
  pub frees_no : n ≢ r.count → false ≡ frees_pass r ws k
  unfolding frees_pass
  frees_no e = rw (← c) (simp (ne_eqb n r.count e))

  pub frees_as : (t : Bool) → n ≡ r.count → t ≡ walk (is_free k) (λ b. word_of ws b 0) 0 r.count r.free → t ≡ frees_pass r ws k
  unfolding frees_pass
  frees_as t e w = rw (← c) (simp (eq-eqb n r.count e) w)

module _ (r : Regs) (k : Colouring) (strict : Bool) (x : ℕ) where
  pub name_none : x ≡ 0 → true ≡ may_name r k strict x
  unfolding may_name
  name_none e = simp (eq-eqb x 0 e)

  pub name_as : (t : Bool) (s : State) → x ≢ 0 → s ≡ state_in r k x → t ≡ may_be_named strict s → t ≡ may_name r k strict x
  unfolding may_name
  name_as t s n i a = rw (a, i) (simp (ne_eqb x 0 n))

module _ (r : Regs) (k : Colouring) (part : List ℕ) (byte b : ℕ) where
  pub white_as : (t : Bool) → t ≡ may_name_all r k false (references part byte) → t ≡ state_passes r k part byte b states.LiveWhite
  unfolding state_passes
  white_as t a = a

  pub doomed_as : true ≡ state_passes r k part byte b states.Doomed
  unfolding state_passes
  doomed_as = refl

  pub grey_off : r.phase ≢ marking → false ≡ state_passes r k part byte b states.Grey
  unfolding state_passes
  grey_off e = simp (ne_eqb r.phase marking e)

  pub grey_named : (t : Bool) → r.phase ≡ marking → t ≡ may_name_all r k false (references part byte) → t ≡ state_passes r k part byte b states.Grey
  unfolding state_passes
  grey_named t e a = rw (a, eq-eqb r.phase marking e) refl

  pub black_off : may_be_black r b ≡ false → false ≡ state_passes r k part byte b states.Black
  unfolding state_passes
  black_off e = simp e

  pub black_as : (t : Bool) → may_be_black r b ≡ true → t ≡ may_name_all r k (eqb r.phase marking) (references part byte) → t ≡ state_passes r k part byte b states.Black
  unfolding state_passes
  black_as t e a = rw (a, e) refl

  pub freed_off : byte ≢ 0 → false ≡ state_passes r k part byte b states.Free
  unfolding state_passes
  freed_off e = simp (ne_eqb byte 0 e)

  pub freed_as : (t : Bool) → byte ≡ 0 → t ≡ zero_from 7 1 part → t ≡ state_passes r k part byte b states.Free
  unfolding state_passes
  freed_as t e a = rw (a, eq-eqb byte 0 e) refl

  pub outside_off : false ≡ state_passes r k part byte b states.Outside
  unfolding state_passes
  outside_off = refl

abbrev pub free_state : State → Bool
free_state states.LiveWhite = false
free_state states.Doomed = false
free_state states.Grey = false
free_state states.Black = false
free_state states.Free = true
free_state states.Outside = false

-- a state is free exactly where the colour is
free_colour_lem : (r : Regs) (b : ℕ) (c : Colour) → free_state (state_from r b c) ≡ free_colour c
unfolding state_from
free_colour_lem r b White = if_ind (λ s. free_state s ≡ false) (ahead r b) (λ e. refl) (λ e. refl)
free_colour_lem r b Grey = refl
free_colour_lem r b Black = refl
free_colour_lem r b Free = refl
free_colour_lem r b Outside = refl

module _ (r : Regs) (k : Colouring) (b : ℕ) where
  pub free_state_lem : {s : State} {t : Bool} → s ≡ state_in r k b → free_state s ≡ t → is_free k b ≡ t
  unfolding state_in
  free_state_lem i e = sym (free_colour_lem r b (colour_in k b)) ∙ ap free_state (sym i) ∙ e

  pub mark_low_lem : (t : Bool) → b ≤ r.mark → t ≡ (mark_passes r k b && t)
  unfolding mark_passes
  mark_low_lem t l = simp (le-leb b r.mark l)

  pub mark_free : (t : Bool) → is_free k b ≡ true → t ≡ (mark_passes r k b && t)
  unfolding mark_passes
  mark_free t f = simp (f, or-true)

  pub mark_off : (t : Bool) → is_free k b ≡ false → r.mark < b → false ≡ (mark_passes r k b && t)
  unfolding mark_passes
  mark_off t f l = simp (f, lt-leb b r.mark l)

  -- with the state known
  pub mark_state : (part : List ℕ) (byte : ℕ) {s told : State} {x t : Bool} → s ≡ told → x ≡ (mark_passes r k b && t) → t ≡ state_passes r k part byte b told
      → x ≡ (mark_passes r k b && state_passes r k part byte b s)
  mark_state part byte e p q = p ∙ rw (q, e) refl

module _ (h : Heap) where
  pub block_as :
      (b : ℕ) (t : Bool) (s : State) (part : List ℕ) → s ≡ state_of h b → part ≡ eight_words h.words b
      → t ≡ (mark_passes h.regs (colouring h) b && state_passes h.regs (colouring h) part (byte_of h.bytes b) b s) → t ≡ block_passes h b
  unfolding block_passes
  block_as b t s part i p a = rw (a, i, p) refl

  -- what the state alone asks of a block that passes
  pub block_state : (b : ℕ) → block_passes h b ≡ true
      → state_passes h.regs (colouring h) (eight_words h.words b) (byte_of h.bytes b) b (state_of h b) ≡ true
  unfolding block_passes
  block_state b e = (both_true (mark_passes h.regs (colouring h) b) _ e).1

  -- a block that passes has a legal colour
  block_legal : (b : ℕ) → block_passes h b ≡ true → is_legal (colouring h) b ≡ true
  unfolding state_in state_from state_passes
  block_legal b p = go (colour_of h b) (block_state b p)
    where
      go : (c : Colour) → state_passes h.regs (colouring h) (eight_words h.words b) (byte_of h.bytes b) b (state_from h.regs b c) ≡ true → legal_colour c ≡ true
      go White e = refl
      go Grey e = refl
      go Black e = refl
      go Free e = refl
      go Outside e = clash e refl

  blocks_legal : (n b : ℕ) → all_from (block_passes h) n b ≡ true → all_from (is_legal (colouring h)) n b ≡ true
  unfolding all_from
  blocks_legal zero b e = refl
  blocks_legal (suc n) b e =
      let (p, q) = both_true (block_passes h b) (all_from (block_passes h) n (b + 1)) e in
      both (block_legal b p) (blocks_legal n (b + 1) q)

  -- so the layout's part is the grey list's alone
  pub layout_greys : all_from (block_passes h) h.regs.blocks 2 ≡ true → {t : Bool} → t ≡ greys_pass (colouring h) → t ≡ layout_passes (colouring h)
  unfolding layout_passes
  layout_greys a e = e ∙ simp (blocks_legal h.regs.blocks 2 a)

  module _ (o : h.regs.phase ≢ marking) where
    -- outside marking no block that passes is grey
    block_plain : (b : ℕ) → block_passes h b ≡ true → is_grey (colouring h) b ≡ false
    unfolding state_in state_from state_passes
    block_plain b p = go (colour_of h b) (block_state b p)
      where
        go : (c : Colour) → state_passes h.regs (colouring h) (eight_words h.words b) (byte_of h.bytes b) b (state_from h.regs b c) ≡ true → grey_colour c ≡ false
        go White e = refl
        go Grey e = clash e (simp (ne_eqb h.regs.phase marking o))
        go Black e = refl
        go Free e = refl
        go Outside e = refl

    blocks_plain : (n b : ℕ) → all_from (block_passes h) n b ≡ true → count_from (is_grey (colouring h)) n b ≡ 0
    unfolding all_from count_from
    blocks_plain zero b e = refl
    blocks_plain (suc n) b e =
        let (p, q) = both_true (block_passes h b) (all_from (block_passes h) n (b + 1)) e in
        simp (block_plain b p, blocks_plain n (b + 1) q)

    -- so the grey list is empty, as a legal grey head says, and the layout's part holds
    pub layout_plain : Ready h → all_from (block_passes h) h.regs.blocks 2 ≡ true → true ≡ layout_passes (colouring h)
    unfolding head_legal
    layout_plain d a =
        let g = eqb-true h.regs.grey 1 (simp (ne_eqb h.regs.phase marking o, or-false) at d.grey) in
        layout_greys a (plain_passes (colouring h) g (blocks_plain h.regs.blocks 2 a))

  pub entry_no : entry h ≢ 0 → false ≡ passes h
  unfolding passes
  entry_no e = simp (ne_eqb (entry h) 0 e)

  module _ (e : entry h ≡ 0) where
    pub layout_off : layout_passes (colouring h) ≡ false → false ≡ passes h
    unfolding passes
    layout_off l = simp (eq-eqb (entry h) 0 e, l)

    module _ (l : layout_passes (colouring h) ≡ true) where
      blocks_off : all_from (block_passes h) h.regs.blocks 2 ≡ false → false ≡ passes h
      unfolding passes
      blocks_off a = simp (eq-eqb (entry h) 0 e, l, a)

      module _ (a : all_from (block_passes h) h.regs.blocks 2 ≡ true) where
        pub root_off : may_name h.regs (colouring h) (eqb h.regs.phase marking) h.regs.root ≡ false → false ≡ passes h
        unfolding passes
        root_off n = simp (eq-eqb (entry h) 0 e, l, a, n)

        pub passes_as :
            (t : Bool) → may_name h.regs (colouring h) (eqb h.regs.phase marking) h.regs.root ≡ true
            → t ≡ frees_pass h.regs h.words (colouring h) → t ≡ passes h
        unfolding passes
        passes_as t n f = rw (f, eq-eqb (entry h) 0 e, l, a, n) refl

  pub blocks_fail : entry h ≡ 0 → all_from (block_passes h) h.regs.blocks 2 ≡ false → false ≡ passes h
  blocks_fail e a = by_test (layout_passes (colouring h)) (λ l. blocks_off e l a) (λ l. layout_off e l)

  pub audit_one : passes h ≡ true → done 1 h ≡ audit h
  unfolding audit
  audit_one e = simp e

  pub audit_none : passes h ≡ false → done 0 h ≡ audit h
  unfolding audit
  audit_none e = simp e
