-- Laws of the stores and of Set root.
--     unless_stops, unless_passes     the two ways of unless
--     barrier_on, barrier_off         the two ways of the barrier.        barrier-grey     of the registers it changes the grey head alone
--     number_put, reference_put       a word and its bit written
--     number_refused, reference_refused, root_refused     the calls, refused
--     number_stored, reference_stored, root_set     the calls, where nothing refuses
--     root_ready, storable     what a refusal number 0 of Set root and of Store reference establishes
--     word_writable            what a write of a readable word asks for
--     reference_keeps, root_keeps     the registers that Store reference and Set root keep: all but the grey head, and but that and the root
-- Assumes nothing.
use Prim.Native.Nat.{ℕ, ◌*◌, ◌≤◌}
use mathlib.Core.Path.{◌≡◌, refl, sym, ap, ◌∙◌}
use mathlib.Core.Logic.{◌≢◌}
use mathlib.Core.Bool.{Bool, true, false}
use mathlib.Core.List.{List}
use native.Mathlib.Omega.{arith}
use lib.Dec.{eqb}
use lib.ListN.{length, set}
use borrow.Author.Tests.{eq-eqb, ne_eqb}
use Rattle.std.specs.Prelude.{if◌then◌else◌}
use Rattle.machine.specs.Tests.{◌▷◌}
use Rattle.machine.specs.Registers.{marking, with_grey, with_root}
use Rattle.machine.specs.Block.{place, set_bit, clear_bit}
use Rattle.machine.specs.Colouring.{Colouring, grey_white}
use Rattle.machine.specs.Heap.{Heap, heap, colouring, with_regs, with_colouring}
use Rattle.machine.specs.State.{holder_refusal, target_refusal}
use Rattle.machine.specs.Entry.{entry, word_refusal, target_place}
use Rattle.machine.specs.Answers.{Given, refuse, done, unless}
use Rattle.machine.specs.Read.{read_refusal}
use Rattle.machine.specs.Store.{barrier, put_number, put_reference, store_number, store_refusal, store_reference, root_refusal, set_root}
use Rattle.machine.specs.WellFormed.{Block}
use Rattle.machine.specs.Ready.{Ready}
use Rattle.machine.proofs.Entering.{first_zero, none_or_block, entry_ready}
use Rattle.machine.proofs.Refusals.{Readable, word_zero, target_zero}

-- n is the refusal number that the tests answered
pub unless_stops : {g : Given} {h : Heap} {n a : ℕ} (x : Given) → n ≡ a → n ≢ 0 → g ≡ refuse n h → g ≡ unless a h x
unfolding unless
unless_stops {g} {h} {n} {a} x e z f = rw f (rw e (simp (ne_eqb a 0 (λ y. z (e ∙ y)))))

pub unless_passes : {g x : Given} {n a : ℕ} (h : Heap) → n ≡ a → n ≡ 0 → g ≡ x → g ≡ unless a h x
unfolding unless
unless_passes {a} h e z f = simp (eq-eqb a 0 (sym e ∙ z)) f

module _ (h : Heap) (t : ℕ) where
  pub barrier_on : (k : Colouring) → h.regs.phase ≡ marking → k ≡ grey_white t (colouring h) → with_colouring k h ≡ barrier t h
  unfolding barrier
  barrier_on k e g = rw g (simp (eq-eqb h.regs.phase marking e))

  pub barrier_off : h.regs.phase ≢ marking → h ≡ barrier t h
  unfolding barrier
  barrier_off e = simp (ne_eqb h.regs.phase marking e)

module _ (h : Heap) (b w v : ℕ) (bs : List ℕ) where
  pub number_put : bs ≡ clear_bit h.bytes b w → heap h.regs (set h.words (place b w) v) h.colours bs ≡ put_number b w v h
  unfolding put_number
  number_put e = rw e refl

  pub reference_put : bs ≡ set_bit h.bytes b w → heap h.regs (set h.words (place b w) v) h.colours bs ≡ put_reference b w v h
  unfolding put_reference
  reference_put e = rw e refl

module _ (h : Heap) (b w v : ℕ) {g : Given} {n : ℕ} where
  pub number_refused : n ≡ read_refusal b w h → n ≢ 0 → g ≡ refuse n h → g ≡ store_number b w v h
  unfolding store_number
  number_refused e z f = unless_stops (done 0 (put_number b w v h)) e z f

  pub number_stored : (x : Heap) → n ≡ read_refusal b w h → n ≡ 0 → g ≡ done 0 x → x ≡ put_number b w v h → g ≡ store_number b w v h
  unfolding store_number
  number_stored x e z f p = unless_passes h e z (rw (f, p) refl)

  pub reference_refused : n ≡ store_refusal b w v h → n ≢ 0 → g ≡ refuse n h → g ≡ store_reference b w v h
  unfolding store_reference
  reference_refused e z f = unless_stops (done 0 (put_reference b w v (barrier v h))) e z f

  pub reference_stored : (x y : Heap) → n ≡ store_refusal b w v h → n ≡ 0 → g ≡ done 0 x → x ≡ put_reference b w v y → y ≡ barrier v h → g ≡ store_reference b w v h
  unfolding store_reference
  reference_stored x y e z f p q = unless_passes h e z (rw (f, p, q) refl)

module _ (h : Heap) (t : ℕ) {g : Given} {n : ℕ} where
  pub root_refused : n ≡ root_refusal t h → n ≢ 0 → g ≡ refuse n h → g ≡ set_root t h
  unfolding set_root
  root_refused e z f = unless_stops (done 0 (with_regs (with_root t (barrier t h).regs) (barrier t h))) e z f

  pub root_set : (y : Heap) → n ≡ root_refusal t h → n ≡ 0 → g ≡ done 0 (with_regs (with_root t y.regs) y) → y ≡ barrier t h → g ≡ set_root t h
  unfolding set_root
  root_set y e z f q = unless_passes h e z (rw (f, q) refl)

-- what refusal number 0 of Set root and of Store reference says
pub root_ready : (h : Heap) (t : ℕ) → root_refusal t h ≡ 0 → Ready h
unfolding root_refusal
root_ready h t e = entry_ready h (first_zero (entry h) (target_place h.regs.blocks t ▷ target_refusal h t) e).0

pub root_named : (h : Heap) (t : ℕ) → root_refusal t h ≡ 0 → t ≢ 0 → Block h.regs.blocks t
unfolding root_refusal
root_named h t e =
    let a = first_zero (entry h) (target_place h.regs.blocks t ▷ target_refusal h t) e in
    none_or_block h.regs.blocks t (target_zero h.regs.blocks t (first_zero (target_place h.regs.blocks t) (target_refusal h t) a.1).0)

pub store_named : (h : Heap) (b w t : ℕ) → store_refusal b w t h ≡ 0 → t ≢ 0 → Block h.regs.blocks t
unfolding store_refusal
store_named h b w t e =
    let m = h.regs.blocks in
    let a = first_zero (entry h) (word_refusal m b w ▷ target_place m t ▷ holder_refusal h b ▷ target_refusal h t) e in
    let p = first_zero (word_refusal m b w) (target_place m t ▷ holder_refusal h b ▷ target_refusal h t) a.1 in
    none_or_block m t (target_zero m t (first_zero (target_place m t) (holder_refusal h b ▷ target_refusal h t) p.1).0)

pub storable : (h : Heap) (b w t : ℕ) → store_refusal b w t h ≡ 0 → Readable h b w
unfolding store_refusal
storable h b w t e =
    let m = h.regs.blocks in
    let a = first_zero (entry h) (word_refusal m b w ▷ target_place m t ▷ holder_refusal h b ▷ target_refusal h t) e in
    let p = first_zero (word_refusal m b w) (target_place m t ▷ holder_refusal h b ▷ target_refusal h t) a.1 in
    let z = word_zero m b w p.0 in
    record { ready = entry_ready h a.0; block = z.0; low = z.1 }

pub word_writable : {h : Heap} {b w : ℕ} → Readable h b w → (length h.words ≡ 8 * length h.bytes) × Block (length h.bytes) b × (w ≤ 7)
word_writable d = (omega arith, record { low = d.block.low; high = omega arith }, d.low)

-- ---- what is kept of the registers
pub barrier_grey : (t : ℕ) (h : Heap) → with_grey (barrier t h).regs.grey h.regs ≡ (barrier t h).regs
unfolding barrier
barrier_grey t h = go (eqb h.regs.phase marking)
  where
    greyed : Heap
    greyed = with_colouring (grey_white t (colouring h)) h

    go : (x : Bool) → with_grey (if x then greyed else h).regs.grey h.regs ≡ (if x then greyed else h).regs
    go true = refl
    go false = refl

module _ (t : ℕ) (h : Heap) where
  pub reference_keeps : (b w : ℕ) → with_grey (store_reference b w t h).heap.regs.grey h.regs ≡ (store_reference b w t h).heap.regs
  unfolding store_reference put_reference unless
  reference_keeps b w = go (eqb (store_refusal b w t h) 0)
    where
      given : Bool → Given
      given x = if x then done 0 (put_reference b w t (barrier t h)) else refuse (store_refusal b w t h) h

      go : (x : Bool) → with_grey (given x).heap.regs.grey h.regs ≡ (given x).heap.regs
      go true = barrier_grey t h
      go false = refl

  pub root_keeps : with_root (set_root t h).heap.regs.root (with_grey (set_root t h).heap.regs.grey h.regs) ≡ (set_root t h).heap.regs
  unfolding set_root unless
  root_keeps = go (eqb (root_refusal t h) 0)
    where
      given : Bool → Given
      given x = if x then done 0 (with_regs (with_root t (barrier t h).regs) (barrier t h)) else refuse (root_refusal t h) h

      go : (x : Bool) → with_root (given x).heap.regs.root (with_grey (given x).heap.regs.grey h.regs) ≡ (given x).heap.regs
      go true = ap (with_root t) (barrier_grey t h)
      go false = refl
