-- What is known of each call: the one place that looks at which call it is.
--     format_known, load_known, work_known, allocate_known, chain_known     Format, Load, Work, Allocate and Allocate chain; the others go by their kind (`quiet`, `acts_once`)
--     load_formed              what Load loads is well-formed, over any heap
--     known                    each call
--     calls_are_deeds          a call that doesn't make the heap anew is exactly its deeds
--     deeds_allowed            each of them is allowed when it is done
-- Assumes nothing.
use Prim.Native.Nat.{ℕ, ◌*◌, ◌/◌, ◌%◌, ◌≤◌}
use mathlib.Core.Path.{◌≡◌, refl, sym, subst}
use mathlib.Core.Bool.{true, ◌&&◌}
use mathlib.Core.List.{List, [], ◌∷◌, map}
use native.Mathlib.Omega.{arith}
use lib.Dec.{eqb, leb}
use lib.ListN.{length, replicate}
use borrow.Author.Tests.{eqb-true, leb-true}
use Rattle.machine.specs.declared.ReadAnswer.{ReadAnswer}
use Rattle.machine.specs.Tests.{◌▷◌}
use Rattle.machine.specs.Heap.{Heap}
use Rattle.machine.specs.Entry.{numbers_fit, lengths_fit, fits, entry, holder_place}
use Rattle.machine.specs.Answers.{unless}
use Rattle.machine.specs.Units.{stopped}
use Rattle.machine.specs.Format.{formatted, format}
use Rattle.machine.specs.Read.{read_refusal, read_answer, read}
use Rattle.machine.specs.Store.{store_refusal, root_refusal, store_number, store_reference, set_root}
use Rattle.machine.specs.Allocate.{units_due, taken, held, take_refusal, allocated, allocate}
use Rattle.machine.specs.Several.{Form, first_frees, take_several_refusal, serve, several_taken}
use Rattle.machine.specs.Chain.{chain, chain_length, allocate_chain}
use Rattle.machine.specs.Field.{field_block, field_refusal, read_field, store_field_number, field_store_refusal, store_field_reference}
use Rattle.machine.specs.Work.{count_refusal, worked, work}
use Rattle.machine.specs.Audit.{audit}
use Rattle.machine.specs.Tell.{tell_state}
use Rattle.machine.specs.Image.{decode}
use Rattle.machine.specs.Save.{save}
use Rattle.machine.specs.Load.{load_refusal, load}
use Rattle.machine.specs.WellFormed.{WellFormed}
use Rattle.machine.specs.Session.{Call, plainly, does}
use Rattle.machine.specs.Session.Call.{Format, Read, Look, StoreNumber, StoreReference, SetRoot, Allocate, Work, Audit}
use Rattle.machine.specs.Session.Call.{AllocateChain, ReadField, StoreFieldNumber, StoreFieldReference, State, Save, Load}
use Rattle.machine.proofs.Tests.{both_true, if_ind}
use Rattle.machine.proofs.Entering.{first_zero}
use Rattle.machine.proofs.Allocating.{holder_zero}
use Rattle.machine.proofs.Images.{image_passes}
use Rattle.machine.proofs.Saving.{refusal_zero}
use Rattle.theory_audit.proofs.Audit.{audit_meaning}
use Rattle.theory_promises.specs.Deeds.{a_number, a_reference, a_root, a_take, acted, a_unit, an_act, deed, after, AllAllowed}
use Rattle.theory_promises.specs.Plans.{acting, nothing, acts_unless, form_acts, several_acts, plan, deeds, Resets}
use Rattle.theory_promises.specs.Known.{Keeps, Known}
use Rattle.theory_promises.proofs.Viewing.{wf_shape}
use Rattle.theory_promises.proofs.TakingMoves.{take_sound}
use Rattle.theory_promises.proofs.FreshHeap.{fresh_formed}
use Rattle.theory_promises.proofs.RunMoves.{units_worked}
use Rattle.theory_promises.proofs.Planning.{allowed_append, units_allowed, quiet, made_anew, acts_once, by_units, by_none, by_acts}
use Rattle.theory_promises.proofs.FirstFrees.{several}
use Rattle.theory_promises.proofs.Serving.{Orderly, served, form_takes, chain_orderly}
use Rattle.theory_promises.proofs.Fielding.{field_fine, field_allowed, field_store_fine, field_store_allowed}
use Rattle.theory_promises.proofs.Refusing.{length_fine, save_fine, load_fine, Fine, small, fine_then, entry_fine, place_fine, count_fine, read_fine, store_fine, root_fine, take_wants}

-- the numbers that fit
fit_numbers : (m u lw lc lb : ℕ) → fits m u lw lc lb ≡ true → (1 ≤ m) × (m ≤ 16384) × (u ≤ 65535)
unfolding fits numbers_fit
fit_numbers m u lw lc lb e =
    let a = (both_true (numbers_fit m u) (lengths_fit m lw lc lb) e).0 in
    let b = both_true (leb 1 m) (leb m 16384 && leb u 65535) a in
    let c = both_true (leb m 16384) (leb u 65535) b.1 in
    (leb-true 1 m b.0, leb-true m 16384 c.0, leb-true u 65535 c.1)

format_known : (m u : ℕ) (h : Heap) → Known (Format m u) h
unfolding plan does format
format_known m u h =
    made_anew (fits m u (length h.words) (length h.colours) (length h.bytes)) 1 h (formatted m u)
    (λ t. let n = fit_numbers m u _ _ _ t in fresh_formed m u n.0 n.1 n.2) (λ t. refl) (small 1 (omega arith))

-- "Loading accepts exactly the images of well-formed heaps": what is loaded passes the audit
load_known : (i : List ℕ) (h : Heap) → Known (Load i) h
unfolding plan does load unless
load_known i h =
    let r = load_refusal i h in
    made_anew (eqb r 0) r h (decode i)
    (λ t. (audit_meaning (decode i)).0 (image_passes i (refusal_zero i h (eqb-true r 0 t)).0)) (λ t. t) (load_fine i h)

pub load_formed : (i : List ℕ) (h : Heap) → (does (Load i) h).answer.refusal ≡ 0 → WellFormed (does (Load i) h).heap
unfolding plan does
load_formed i h e = (load_known i h).anew (rw e refl)

save_known : (out : List ℕ) (h : Heap) → Known (Save out) h
unfolding plan does save
save_known out h = quiet 0 h _ refl (save_fine (length out) h)

module _ (h : Heap) (f : WellFormed h) where
  read_answer_lem : (b w : ℕ) → Fine (read b w h).answer.refusal
  unfolding read read_answer
  read_answer_lem b w =
      if_ind (λ (x : ReadAnswer). Fine x.refusal) (eqb (read_refusal b w h) 0) (λ t. small 0 (omega arith)) (λ t. read_fine h (wf_shape h f) b w)

  work_known : (n : ℕ) → Known (Work n) h
  unfolding plan does work
  work_known n =
      by_units h f n (entry h ▷ count_refusal n) 0 (λ k. []) worked (fine_then _ _ (entry_fine h (wf_shape h f)) (λ e. count_fine n))
      (λ z. by_none h f n 0 0 0 (λ y. absurd (omega arith)) (λ y. absurd (omega arith)))

  module _ (b w : ℕ) where
    abbrev due : ℕ
    due = units_due h.regs

    abbrev j : Heap
    j = after (replicate due a_unit) h

    -- an allocation once its units are done
    take_known : holder_place h.regs.blocks b w ≡ 0
        → Keeps (acting 1 due (acts_unless (take_refusal b j) (a_take b w ∷ []))) h (allocated b w (stopped 0 due j))
    unfolding allocated ◌▷◌ after deed acted
    take_known l =
        let u = units_worked h.regs.blocks due h refl f in
        let s = wf_shape j u.formed in
        let place : holder_place j.regs.blocks b w ≡ 0 = subst (λ (m : ℕ). holder_place m b w ≡ 0) (sym u.blocks) l in
        by_acts h f due (take_refusal b j) 1 j.regs.free (a_take b w ∷ []) (held b w j.regs.free (taken j))
        (λ z. record { allowed = ((place, z), tt); whole = refl }) (omega arith) (omega arith)
        (take_sound j s b (λ z. (holder_zero b w refl place z).0))
        (λ y. (omega arith, let c = take_wants j s b y in omega arith))

    allocate_known : Known (Allocate b w) h
    unfolding plan does allocate
    allocate_known =
        by_units h f due (entry h ▷ holder_place h.regs.blocks b w) 1 (λ k. acts_unless (take_refusal b k) (a_take b w ∷ [])) (allocated b w)
        (fine_then _ _ (entry_fine h (wf_shape h f)) (λ e. place_fine h.regs.blocks b w))
        (λ z. take_known (first_zero (entry h) (holder_place h.regs.blocks b w) z).1)

  module _ (b w n : ℕ) where
    abbrev dues : ℕ
    dues = n * units_due h.regs

    abbrev i : Heap
    i = after (replicate dues a_unit) h

    -- several blocks taken in a form, once their units are done
    several_known : (g : Form) → Orderly g → holder_place h.regs.blocks b w ≡ 0
        → Keeps (acting n dues (several_acts g n b w i)) h (several_taken g n b w (stopped 0 dues i))
    unfolding several_taken ◌▷◌
    several_known g o l =
        let u = units_worked h.regs.blocks dues h refl f in
        let place : holder_place i.regs.blocks b w ≡ 0 = subst (λ (m : ℕ). holder_place m b w ≡ 0) (sym u.blocks) l in
        let s = several i (wf_shape i u.formed) n b (λ z. (holder_zero b w refl place z).0) in
        let xs = first_frees n i in
        let t = form_takes g b w xs n 0 in
        by_acts h f dues (take_several_refusal n b i) n i.regs.free (form_acts g b w xs n 0) (serve g b w xs n 0 i)
        (λ z. served g o b w n i u.formed (s.enough z) place (s.holder z)) (rw t (omega arith)) (omega (arith, t))
        s.undamaged (λ y. (omega arith, s.wanting y))

    chain_known : Known (AllocateChain b w n) h
    unfolding plan does allocate_chain
    chain_known =
        by_units h f dues (entry h ▷ holder_place h.regs.blocks b w ▷ chain_length n) n (several_acts chain n b w) (several_taken chain n b w)
        (fine_then _ _ (entry_fine h (wf_shape h f)) (λ e. fine_then _ _ (place_fine h.regs.blocks b w) (λ q. length_fine n)))
        (λ z.
        let p = (first_zero (entry h) (holder_place h.regs.blocks b w ▷ chain_length n) z).1 in
        several_known chain chain_orderly (first_zero (holder_place h.regs.blocks b w) (chain_length n) p).0)

  read_field_answer : (b k : ℕ) → Fine (read_field b k h).answer.refusal
  unfolding read_field read_answer
  read_field_answer b k =
      if_ind (λ (x : ReadAnswer). Fine x.refusal) (eqb (field_refusal b k h) 0) (λ t. small 0 (omega arith)) (λ t. field_fine h f b k)

  state_known : (b : ℕ) → Known (State b) h
  unfolding plan does tell_state unless
  state_known b = if_ind (Keeps (nothing 0) h) (eqb (entry h) 0) (λ t. quiet 0 h _ refl (small 0 (omega arith))) (λ t. quiet 0 h _ refl (entry_fine h (wf_shape h f)))

pub known : (c : Call) (h : Heap) → WellFormed h → Known c h
unfolding plan does read audit store_number store_reference set_root read_field store_field_number store_field_reference acted
known (Format m u) h f = format_known m u h
known (Read b w) h f = quiet 0 h (plainly (read b w h)) refl (read_answer_lem h f b w)
known (Look b) h f = quiet 0 h _ refl (small 0 (omega arith))
known (StoreNumber b w v) h f = acts_once (read_refusal b w h) (a_number b w v) h refl (λ z. z) (read_fine h (wf_shape h f) b w)
known (StoreReference b w t) h f = acts_once (store_refusal b w t h) (a_reference b w t) h refl (λ z. z) (store_fine h (wf_shape h f) b w t)
known (SetRoot t) h f = acts_once (root_refusal t h) (a_root t) h refl (λ z. z) (root_fine h (wf_shape h f) t)
known (Allocate b w) h f = allocate_known h f b w
known (AllocateChain b w n) h f = chain_known h f b w n
known (ReadField b k) h f = quiet 0 h (plainly (read_field b k h)) refl (read_field_answer h f b k)
known (StoreFieldNumber b k v) h f =
    acts_once (field_refusal b k h) (a_number (field_block (k / 7) b h) (k % 7) v) h refl (field_allowed h f b k) (field_fine h f b k)
known (StoreFieldReference b k t) h f =
    acts_once (field_store_refusal b k t h) (a_reference (field_block (k / 7) b h) (k % 7) t) h refl (field_store_allowed h f b k t) (field_store_fine h f b k t)
known (Work n) h f = work_known h f n
known Audit h f = quiet 0 h (audit h) refl (small 0 (omega arith))
known (State b) h f = state_known h f b
known (Save out) h f = save_known out h
known (Load i) h f = load_known i h

module _ (h : Heap) (f : WellFormed h) (c : Call) where
  pub calls_are_deeds : (Resets c h → ⊥) → (does c h).heap ≡ after (deeds c h) h
  calls_are_deeds n = (known c h f).whole n

  pub deeds_allowed : AllAllowed (deeds c h) h
  deeds_allowed =
      let p = plan c h in
      allowed_append (replicate p.units a_unit) (map an_act p.acts) h (units_allowed p.units h) (known c h f).allowed
