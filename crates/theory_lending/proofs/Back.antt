-- What an outer call writes back into the lent record, once its core has answered: the whole record, or those registers that the call can change.
--     Register, grey, root     a register as the machine has it in memory
--     Back                     code that writes back, the temporaries that it takes, what it takes for granted of the registers before and after, and that the
--                              record is then the core's
--     all                      *regs = o.regs
--     only fs                  regs.f = o.regs.f, for each register f of fs.        taken fs s r     r with those registers of s
--     nothing                  nothing at all, where the call changes no register
-- Each assignment goes by way of a temporary of its own. In a context the record's cell, the core's outcome, the local with the record's address and
-- the temporaries come first.
-- Assumes `Logic`.
use mathlib.Core.Path.{◌≡◌, refl, sym, ap, subst, ◌∙◌}
use Prim.Native.Nat.{ℕ, zero, suc, ◌<◌, ◌^◌}
use mathlib.Core.Option.{some}
use mathlib.Core.List.{List, [], ◌∷◌}
use lib.Dec.{T}
use lib.ListN.{get_or}
use seplogic.Ra.Ura.{Ura}
use base.Fraction.{full_share}
use mir.Syntax.{Ty, named, mut, w32, ty_int, ty_ref, deref, field, place, copy, rv_opd, Body, seq, assign}
use mir.Val.{Val, Vals, vcons, vnil, vint, vptr, vstruct, WT, has_ty}
use mir.Fields.{get_v, set_v}
use base.Fml.{fat}
use prog.Memory.{field_of}
use mir.Raw.{raw as raw_ty}
use prog.Wp.{Heap, Env, Calls, Loops, no_local}
use types.Logic.{Logic}
use types.Kit.{Item, ‵, Post, runs, Seq, ◌$◌, move, split, join, rewrite}
use types.Run.{look, init, forget, store_raw, stop, hop, fld, load, of_opd, assigns}
use types.Part.{whole, sub, look_in, store_in}
use denote.Memory.{pointee}
use denote.Laws.{Is}
use denote.Struct.Laws as LL
use Rattle.machine.specs.declared.Regs.{Regs}
use Rattle.machine.specs.declared.Outcome.{Outcome}
use Rattle.machine.specs.Registers.{with_grey, with_root}
use Rattle.machine.specs.contracts.Regs as R
use Rattle.machine.proofs.Regs.TheLaws as R'
use Rattle.machine.specs.contracts.Outcome as O
use Rattle.machine.proofs.Outcome.TheLaws as O'
use Rattle.theory_lending.proofs.Locals.{up, at_place, Homes, homes, Empty}

-- the local j past the record, the slices and the numbers: 0 what the core gives, 1 the registers, then a pointer and a slice for each buffer
abbrev pub tmp : ℕ → ℕ → ℕ
tmp k j = suc (suc (suc (suc (suc (up k j)))))

-- past those, the temporary i of what is written back
abbrev pub spare : ℕ → ℕ → ℕ
spare k i = tmp k (up 8 i)

abbrev word : ℕ → Vals → Vals
word n vs = vcons (vint w32 n) vs

abbrev cells : Regs → Vals
cells r =
    word r.blocks (word r.pace (word r.phase (word r.grey (word r.free (word r.count (word r.position
    (word r.root (word r.cycle (word r.mark vnil)))))))))

abbrev pub the_record : Regs → Val
the_record = LL.val R.the_type R'.the_laws

abbrev pub the_outcome : Outcome → Val
the_outcome = LL.val O.the_type O'.the_laws

abbrev pub record_ref : Ty
record_ref = ty_ref (named 0) mut (pointee (R.the_row).written)

-- ---- registers
pub record Register : Type 1 where
  pub index : ℕ
  pub from : ℕ
  pub get : Regs → ℕ
  pub put : ℕ → Regs → Regs
  pub place : field_of R'.mir index ≡ some (ty_int w32, from)
  pub has : (r : Regs) → get_v (cells r) index ≡ vint w32 (get r)
  pub sets : (n : ℕ) (r : Regs) → set_v (cells r) index (vint w32 n) ≡ cells (put n r)
  pub small : (r : Regs) → Is R.the_row r (the_record r ∷ []) → get r < 2 ^ 32

abbrev pub grey : Register
grey = record {
  index = 3;
  from = 12;
  get = λ r. r.grey;
  put = with_grey;
  place = refl;
  has = λ r. refl;
  sets = λ n r. refl;
  small = λ r is. (LL.owed R.the_type R'.the_laws r _ is).1.1.1.0.1;
}

abbrev pub root : Register
root = record {
  index = 7;
  from = 28;
  get = λ r. r.root;
  put = with_root;
  place = refl;
  has = λ r. refl;
  sets = λ n r. refl;
  small = λ r is. (LL.owed R.the_type R'.the_laws r _ is).1.1.1.1.1.1.1.0.1;
}

abbrev pub taken : List Register → Regs → Regs → Regs
taken [] s r = r
taken (f ∷ fs) s r = taken fs s (f.put (f.get s) r)

-- ---- what is written back
module _ {M : Type 1} {𝓤 : Ura M} where
  abbrev pub Four : (τs : List Ty) → Homes τs → (l m b o : ℕ) → Regs → Outcome → List (Item 𝓤) → List (Item 𝓤)
  Four τs bs l m b o r t Δ =
      ‵ (fat full_share (raw_ty R'.mir) b o (the_record r)) ∷ ‵ (fat full_share O'.mir m zero (the_outcome t))
      ∷ ‵ (fat full_share record_ref l zero (vptr b o)) ∷ Empty τs bs ∷ Δ

-- the temporaries stand in the environment at the locals that `at` gives
abbrev pub Stand : {M : Type 1} (𝓤 : Ura M) (H : Heap 𝓤) → Env 𝓤 H → (ℕ → ℕ) → (τs : List Ty) → Homes τs → Type 0
Stand 𝓤 H E at τs bs = (i : ℕ) → get_or E (at i) (no_local 𝓤 H) ≡ get_or (homes τs bs) i (no_local 𝓤 H)

pub record Back (k : ℕ) : Type 2 where
  pub temporaries : List Ty
  pub code : Body → Body
  pub Kept : Regs → Regs → Type 0
  pub writes : {M : Type 1} {𝓤 : Ura M} {𝓛 : Logic 𝓤} {K : Type 0} → K → {C : Calls 𝓤 𝓛.H} {Λ : Loops 𝓤 𝓛.H}
      {E : Env 𝓤 𝓛.H} {q : Post 𝓤 𝓛.H} {rest : Body} {Δ : List (Item 𝓤)} {l m b o : ℕ} {r : Regs} {t : Outcome} {w : Val} (bs : Homes temporaries)
      → get_or E 1 (no_local 𝓤 𝓛.H) ≡ (record_ref, l) → get_or E (tmp k 0) (no_local 𝓤 𝓛.H) ≡ (O'.mir, m) → Stand 𝓤 𝓛.H E (spare k) temporaries bs
      → Is O.the_row t (w ∷ []) → Kept r t.regs
      → Seq K 𝓛 (Four temporaries bs l m b o t.regs t Δ) (runs C Λ E rest q) → Seq K 𝓛 (Four temporaries bs l m b o r t Δ) (runs C Λ E (code rest) q)

abbrev pub whole_temporaries : List Ty
whole_temporaries = R'.mir ∷ []

abbrev pub fields_temporaries : List Register → List Ty
fields_temporaries [] = []
fields_temporaries (f ∷ fs) = ty_int w32 ∷ fields_temporaries fs

module _ (k : ℕ) where
  abbrev pub whole_code : Body → Body
  whole_code rest =
      seq (assign (place (spare k 0) []) (rv_opd (copy (place (tmp k 0) (field 0 ∷ [])))))
      (seq (assign (place 1 (deref R'.mir ∷ [])) (rv_opd (copy (place (spare k 0) [])))) rest)

  -- the temporary i of those that are left is the local `at i`
  abbrev pub fields_code : (ℕ → ℕ) → List Register → Body → Body
  fields_code at [] rest = rest
  fields_code at (f ∷ fs) rest =
      seq (assign (place (at 0) []) (rv_opd (copy (place (tmp k 0) (field 0 ∷ field f.index ∷ [])))))
      (seq (assign (place 1 (deref R'.mir ∷ field f.index ∷ [])) (rv_opd (copy (place (at 0) []))))
      (fields_code (λ i. at (suc i)) fs rest))

  module _ {M : Type 1} {𝓤 : Ura M} {𝓛 : Logic 𝓤} {K : Type 0} {C : Calls 𝓤 𝓛.H} {Λ : Loops 𝓤 𝓛.H} {E : Env 𝓤 𝓛.H}
      {q : Post 𝓤 𝓛.H} {rest : Body} {l m b o : ℕ} {t : Outcome} {w : Val}
      (at_record : get_or E 1 (no_local 𝓤 𝓛.H) ≡ (record_ref, l)) (at_outcome : get_or E (tmp k 0) (no_local 𝓤 𝓛.H) ≡ (O'.mir, m)) (is : Is O.the_row t (w ∷ [])) where
    open 𝓛 use {H}

    pub writes_whole : K → (bs : Homes whole_temporaries) → Stand 𝓤 H E (spare k) whole_temporaries bs → {r : Regs} {Δ : List (Item 𝓤)}
        → Seq K 𝓛 (Four whole_temporaries bs l m b o t.regs t Δ) (runs C Λ E rest q)
        → Seq K 𝓛 (Four whole_temporaries bs l m b o r t Δ) (runs C Λ E (whole_code rest) q)
    writes_whole e bs stand h =
        let typed = (LL.lawful R.the_type R'.the_laws 𝓛).typed t.regs _ (LL.owed O.the_type O'.the_laws t _ is).0 in
        move e (3 ∷ []) $ split e $ split e $
        -- [the temporary, in two entries; no more; the record's cell; what the core gave; the record's address]
        assigns e (of_opd e (load e (at_place e at_outcome (fld e refl (stop e))) (look_in e 4 (sub e 0 refl (whole e)))))
        (at_place e (stand 0) (stop e)) (init e 0 refl typed.0) $
        assigns e (of_opd e (load e (at_place e (stand 0) (stop e)) (look e 0 refl)))
        (at_place e at_record (hop e (look e 5 refl) (stop e))) (store_raw e 3 refl typed.0) $
        forget e 0 refl $ join e $ join e $ move e (1 ∷ 2 ∷ 3 ∷ []) $ h

    pub writes_fields : K → (at : ℕ → ℕ) (fs : List Register) (bs : Homes (fields_temporaries fs))
        → Stand 𝓤 H E at (fields_temporaries fs) bs → {r : Regs} {Δ : List (Item 𝓤)}
        → Seq K 𝓛 (Four (fields_temporaries fs) bs l m b o (taken fs t.regs r) t Δ) (runs C Λ E rest q)
        → Seq K 𝓛 (Four (fields_temporaries fs) bs l m b o r t Δ) (runs C Λ E (fields_code at fs rest) q)
    writes_fields e at [] bs stand h = h
    writes_fields e at (f ∷ fs) bs stand {r} h =
        let small = f.small t.regs (LL.owed O.the_type O'.the_laws t _ is).0 in
        let typed = subst (λ (u : Val). T (has_ty (ty_int w32) u) × WT u) (sym (f.has t.regs)) (tt, record { fits = small }) in
        move e (3 ∷ []) $ split e $ split e $
        -- [the temporary, in two entries; those that are left; the record's cell; what the core gave; the record's address]
        assigns e (of_opd e (load e (at_place e at_outcome (fld e refl (fld e f.place (stop e)))) (look_in e 4 (sub e f.index f.place (sub e 0 refl (whole e))))))
        (at_place e (stand 0) (stop e)) (init e 0 refl typed) $
        assigns e (of_opd e (load e (at_place e (stand 0) (stop e)) (look e 0 refl)))
        (at_place e at_record (hop e (look e 5 refl) (fld e f.place (stop e)))) (store_in e 3 (sub e f.index f.place (whole e)) typed) $
        rewrite e 3 (λ (vs : Vals). ‵ (fat full_share (raw_ty R'.mir) b o (vstruct vs)))
        (ap (set_v (cells r) f.index) (f.has t.regs) ∙ f.sets (f.get t.regs) r) refl $
        forget e 0 refl $ move e (3 ∷ 4 ∷ 5 ∷ 2 ∷ []) $ writes_fields e (λ i. at (suc i)) fs bs.1 (λ i. stand (suc i))
        (move e (4 ∷ 5 ∷ 3 ∷ []) $ join e $ join e $ move e (1 ∷ 2 ∷ 3 ∷ []) $ h)

    pub writes_only : K → (fs : List Register) (bs : Homes (fields_temporaries fs)) → Stand 𝓤 H E (spare k) (fields_temporaries fs) bs → {r : Regs} {Δ : List (Item 𝓤)}
        → taken fs t.regs r ≡ t.regs
        → Seq K 𝓛 (Four (fields_temporaries fs) bs l m b o t.regs t Δ) (runs C Λ E rest q)
        → Seq K 𝓛 (Four (fields_temporaries fs) bs l m b o r t Δ) (runs C Λ E (fields_code (spare k) fs rest) q)
    writes_only e fs bs stand kept h =
        writes_fields e (spare k) fs bs stand (rewrite e 0 (λ (s : Regs). ‵ (fat full_share (raw_ty R'.mir) b o (the_record s))) kept refl $ h)

abbrev pub all : (k : ℕ) → Back k
all k = record {
  temporaries = whole_temporaries;
  code = whole_code k;
  Kept = λ r s. Unit {0};
  writes = λ e bs p q s is kept h. writes_whole k p q is e bs s h;
}

abbrev pub only : List Register → (k : ℕ) → Back k
only fs k = record {
  temporaries = fields_temporaries fs;
  code = fields_code k (spare k) fs;
  Kept = λ r s. taken fs s r ≡ s;
  writes = λ e bs p q s is kept h. writes_only k p q is e fs bs s kept h;
}

abbrev pub nothing : (k : ℕ) → Back k
nothing k = only [] k
