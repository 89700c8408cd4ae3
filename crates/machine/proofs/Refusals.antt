-- Laws of the refusals: one for each way through the tests, and what a refusal number 0 establishes.
--     stops, passes            the two ways through a ▷ b
--     refuses, refused_so, unrefused     a refusal's number isn't 0; what a test that refused, and one that didn't, says of its number
--     told_refuses, told_so    the same of a number that is a refusal's
--     stops_by, passes_by      the two ways through a ▷ b, by what the test a answered
--     fits_most                where test 1 passes, M is at most 16,384
--     unfit, illegal, entered  the three ways of entry
--     word_fits, word_high, word_no_block     the three ways of word_refusal
--     no_holder, no_holder_word, holder_block     the three ways of holder_place: the root, no block but a word, a block
--     target_fits, target-off  the two ways of target_place
--     white_doomed, white_stays     the two ways of state_from for a white block
--     state_as, holder_as, target_none, target_as     the state of a number, and the refusals by it
--     Readable, readable       what a refusal number 0 of Read establishes
--     word_zero, target_zero     what a refusal number 0 of word_refusal and of target_place establishes
--     holder_live, target_live     what a refusal number 0 of holder_refusal and of target_refusal establishes
--     within_layout            the state of a block of legal colour is not Outside
--     holder_undamaged, target_undamaged     holder_refusal and target_refusal give 8 outside the layout only
-- Assumes nothing.
use Prim.Native.Nat.{ℕ, ◌≤◌, ◌<◌}
use mathlib.Core.Path.{◌≡◌, refl, sym, ◌∙◌, ap}
use mathlib.Core.Logic.{◌≢◌}
use mathlib.Core.Bool.{true, false, ◌&&◌}
use native.Mathlib.Omega.{arith}
use lib.Dec.{leb}
use borrow.Author.Tests.{leb-true, le-leb, lt-leb, eq-eqb, ne_eqb}
use Rattle.std.specs.Prelude.{Result, Ok, Err}
use Rattle.machine.specs.declared.Regs.{Regs}
use Rattle.machine.specs.declared.Refusal.{Refusal}
use Rattle.machine.specs.declared.Refusal.TheVariants as refusal
use Rattle.machine.specs.declared.Colour.{Colour}
use Rattle.machine.specs.declared.Colour.TheVariants as colours
use Rattle.machine.specs.declared.State.{State}
use Rattle.machine.specs.declared.State.TheVariants.{LiveWhite, Doomed, Grey, Black, Free, Outside}
use Rattle.machine.specs.Tests.{◌▷◌}
use Rattle.machine.specs.Refusal.{number, refused_by}
use Rattle.machine.specs.Block.{is_block}
use Rattle.machine.specs.Colouring.{Colouring, colour_in}
use Rattle.machine.specs.Heap.{Heap}
use Rattle.machine.specs.State.{ahead, state_from, state_in, state_of, is_live, refusal_of, holder_refusal, target_refusal}
use Rattle.machine.specs.Entry.{numbers_fit, lengths_fit, fits, heap_fits, is_block_or_none, legal, entry, word_refusal, holder_place, target_place}
use Rattle.machine.specs.Read.{read_refusal}
use Rattle.machine.specs.WellFormed.{Block}
use Rattle.machine.specs.Ready.{Ready}
use Rattle.machine.proofs.Tests.{both_true, by_eq, if_ind, clash}
use Rattle.machine.proofs.Blocks.{is_block_block}
use Rattle.machine.proofs.Steps.{never}
use Rattle.machine.proofs.Entering.{first_zero, choose_zero, entry_ready}

-- n is the number that the first test answered
pub stops : {n a : ℕ} (b : ℕ) → n ≡ a → n ≢ 0 → n ≡ a ▷ b
unfolding ◌▷◌
stops {n} {a} b e z = rw e (simp (ne_eqb a 0 (λ y. z (e ∙ y))))

pub passes : {n a b x : ℕ} → x ≡ a → x ≡ 0 → n ≡ b → n ≡ a ▷ b
unfolding ◌▷◌
passes {a} {b} e z g = simp (eq-eqb a 0 (sym e ∙ z)) g

pub refuses : (e : Refusal) → number e ≢ 0
refuses refusal.Unfit z = absurd (omega arith)
refuses refusal.Illegal z = absurd (omega arith)
refuses refusal.NoPlace z = absurd (omega arith)
refuses refusal.NoTarget z = absurd (omega arith)
refuses refusal.Gone z = absurd (omega arith)
refuses refusal.TargetGone z = absurd (omega arith)
refuses refusal.NoRoom z = absurd (omega arith)
refuses refusal.Damage z = absurd (omega arith)
refuses refusal.TooManyUnits z = absurd (omega arith)
refuses refusal.BadHeap z = absurd (omega arith)
refuses refusal.BadLength z = absurd (omega arith)

pub told_refuses : {n : ℕ} (e : Refusal) → n ≡ number e → n ≢ 0
told_refuses e k z = refuses e (sym k ∙ z)

module _ {A : Type 0} {t : Result A Refusal} {a : ℕ} (p : refused_by t ≡ a) where
  pub refused_so : {e : Refusal} → t ≡ Err e → number e ≡ a
  refused_so q = sym (ap refused_by q) ∙ p

  -- n is the refusal's number
  pub told_so : {n : ℕ} {e : Refusal} → n ≡ number e → t ≡ Err e → n ≡ a
  told_so k q = k ∙ refused_so q

  pub unrefused : {x : A} → t ≡ Ok x → a ≡ 0
  unrefused q = sym p ∙ ap refused_by q

  pub stops_by : {e : Refusal} (b : ℕ) → t ≡ Err e → number e ≡ a ▷ b
  stops_by {e} b q = stops b (refused_so q) (refuses e)

  pub passes_by : {x : A} {n b : ℕ} → t ≡ Ok x → n ≡ b → n ≡ a ▷ b
  passes_by q g = passes p (ap refused_by q) g

pub fits_most : (m u lw lc lb : ℕ) → fits m u lw lc lb ≡ true → m ≤ 16384
unfolding fits numbers_fit
fits_most m u lw lc lb e =
    let a = both_true (numbers_fit m u) (lengths_fit m lw lc lb) e in
    let b = both_true (leb 1 m) (leb m 16384 && leb u 65535) a.0 in
    leb-true m 16384 (both_true (leb m 16384) (leb u 65535) b.1).0

module _ (h : Heap) where
  pub unfit : heap_fits h ≡ false → 1 ≡ entry h
  unfolding entry ◌▷◌
  unfit e = simp e

  pub illegal : heap_fits h ≡ true → legal h.regs ≡ false → 2 ≡ entry h
  unfolding entry ◌▷◌
  illegal e l = simp (e, l)

  pub entered : heap_fits h ≡ true → legal h.regs ≡ true → 0 ≡ entry h
  unfolding entry ◌▷◌
  entered e l = simp (e, l)

module _ (m b w : ℕ) where
  pub word_fits : is_block m b ≡ true → w ≤ 7 → 0 ≡ word_refusal m b w
  unfolding word_refusal
  word_fits e l = simp (e, le-leb w 7 l)

  pub word_high : is_block m b ≡ true → 7 < w → 3 ≡ word_refusal m b w
  unfolding word_refusal
  word_high e l = simp (e, lt-leb w 7 l)

  pub word_no_block : is_block m b ≡ false → 3 ≡ word_refusal m b w
  unfolding word_refusal
  word_no_block e = simp e

  pub word_zero : word_refusal m b w ≡ 0 → Block m b × (w ≤ 7)
  unfolding word_refusal
  word_zero e =
      let a = both_true (is_block m b) (leb w 7) (choose_zero (is_block m b && leb w 7) 3 (omega arith) e) in
      (is_block_block m b a.0, leb-true w 7 a.1)

  pub no_holder : b ≡ 0 → w ≡ 0 → 0 ≡ holder_place m b w
  unfolding holder_place
  no_holder e f = simp (eq-eqb b 0 e, eq-eqb w 0 f)

  pub holder_block : (n : ℕ) → b ≢ 0 → n ≡ word_refusal m b w → n ≡ holder_place m b w
  unfolding holder_place
  holder_block n e f = simp (ne_eqb b 0 e) f

  pub no_holder_word : b ≡ 0 → w ≢ 0 → 3 ≡ holder_place m b w
  unfolding holder_place word_refusal is_block
  no_holder_word e z = rw e (simp (ne_eqb w 0 z))

module _ (m t : ℕ) where
  pub target_fits : is_block_or_none m t ≡ true → 0 ≡ target_place m t
  unfolding target_place
  target_fits e = simp e

  pub target_off : is_block_or_none m t ≡ false → 4 ≡ target_place m t
  unfolding target_place
  target_off e = simp e

  pub target_zero : target_place m t ≡ 0 → is_block_or_none m t ≡ true
  unfolding target_place
  target_zero e = choose_zero (is_block_or_none m t) 4 (omega arith) e

module _ (r : Regs) (b : ℕ) where
  pub white_doomed : ahead r b ≡ true → Doomed ≡ state_from r b colours.White
  unfolding state_from
  white_doomed e = simp e

  pub white_stays : ahead r b ≡ false → LiveWhite ≡ state_from r b colours.White
  unfolding state_from
  white_stays e = simp e

  pub state_as : (k : Colouring) (s : State) (c : Colour) → c ≡ colour_in k b → s ≡ state_from r b c → s ≡ state_in r k b
  unfolding state_in
  state_as k s c i e = rw (e, i) refl

module _ (h : Heap) (b : ℕ) where
  pub holder_as : (n : ℕ) (s : State) → s ≡ state_of h b → n ≡ refusal_of 5 s → n ≡ holder_refusal h b
  unfolding holder_refusal
  holder_as n s e f = rw (f, e) refl

  pub target_none : b ≡ 0 → 0 ≡ target_refusal h b
  unfolding target_refusal
  target_none z = simp (eq-eqb b 0 z)

  pub target_as : (n : ℕ) (s : State) → b ≢ 0 → s ≡ state_of h b → n ≡ refusal_of 6 s → n ≡ target_refusal h b
  unfolding target_refusal
  target_as n s z e f = rw (f, e) (simp (ne_eqb b 0 z))

-- what refusal number 0 of Read says of the heap, the block and the word
pub record Readable (h : Heap) (b w : ℕ) : Type 0 where
  pub ready : Ready h
  pub block : Block h.regs.blocks b
  pub low : w ≤ 7

pub readable : (h : Heap) (b w : ℕ) → read_refusal b w h ≡ 0 → Readable h b w
unfolding read_refusal
readable h b w e =
    let a = first_zero (entry h) (word_refusal h.regs.blocks b w ▷ holder_refusal h b) e in
    let p = first_zero (word_refusal h.regs.blocks b w) (holder_refusal h b) a.1 in
    let z = word_zero h.regs.blocks b w p.0 in
    record { ready = entry_ready h a.0; block = z.0; low = z.1 }

-- the refusal by a state
refused_not : (n : ℕ) (s : State) → n ≢ 0 → refusal_of n s ≡ 0 → is_live s ≡ true
refused_not n LiveWhite z e = refl
refused_not n Doomed z e = absurd (z e)
refused_not n Grey z e = refl
refused_not n Black z e = refl
refused_not n Free z e = absurd (z e)
refused_not n Outside z e = absurd (omega arith)

pub live_unrefused : (n : ℕ) (s : State) → is_live s ≡ true → refusal_of n s ≡ 0
live_unrefused n LiveWhite e = refl
live_unrefused n Doomed e = clash e refl
live_unrefused n Grey e = refl
live_unrefused n Black e = refl
live_unrefused n Free e = clash e refl
live_unrefused n Outside e = clash e refl

refused_8 : (n : ℕ) (s : State) → n ≢ 8 → s ≢ Outside → refusal_of n s ≢ 8
refused_8 n LiveWhite z d e = absurd (omega arith)
refused_8 n Doomed z d e = z e
refused_8 n Grey z d e = absurd (omega arith)
refused_8 n Black z d e = absurd (omega arith)
refused_8 n Free z d e = z e
refused_8 n Outside z d e = d refl

from_layout : (r : Regs) (b : ℕ) (c : Colour) → c ≢ colours.Outside → state_from r b c ≢ Outside
unfolding state_from
from_layout r b colours.White n = if_ind (λ (s : State). s ≢ Outside) (ahead r b) (λ t z. never (cc)) (λ t z. never (cc))
from_layout r b colours.Grey n = λ z. never (cc)
from_layout r b colours.Black n = λ z. never (cc)
from_layout r b colours.Free n = λ z. never (cc)
from_layout r b colours.Outside n = λ z. n refl

pub within_layout : (r : Regs) (k : Colouring) (b : ℕ) → colour_in k b ≢ colours.Outside → state_in r k b ≢ Outside
unfolding state_in
within_layout r k b n = from_layout r b (colour_in k b) n

module _ (h : Heap) (b : ℕ) where
  pub holder_live : holder_refusal h b ≡ 0 → is_live (state_of h b) ≡ true
  unfolding holder_refusal
  holder_live e = refused_not 5 (state_of h b) (omega arith) e

  pub target_live : target_refusal h b ≡ 0 → b ≢ 0 → is_live (state_of h b) ≡ true
  unfolding target_refusal
  target_live e z = refused_not 6 (state_of h b) (omega arith) (simp (ne_eqb b 0 z) at e)

  pub holder_undamaged : state_of h b ≢ Outside → holder_refusal h b ≢ 8
  unfolding holder_refusal
  holder_undamaged d = refused_8 5 (state_of h b) (omega arith) d

  pub target_undamaged : (b ≢ 0 → state_of h b ≢ Outside) → target_refusal h b ≢ 8
  unfolding target_refusal
  target_undamaged d =
      by_eq b 0
      (λ z e. absurd (omega (arith, simp (eq-eqb b 0 z) at e)))
      (λ z. simp (ne_eqb b 0 z) (refused_8 6 (state_of h b) (omega arith) (d z)))
