-- The outer calls that change the registers, proved once for all of them and for any list of further parameters that are copied, numbers of
-- 32 bits and shared slices of bytes (Copied.antt):
--     pub fn OUTER(regs: &mut Regs, words: &mut [u32], colours: &mut [u32], bytes: &mut [u8], the further) -> Answer {
--         let o = CORE(*regs, words, colours, bytes, the further); BACK; o.answer
--     }
-- meets the contract that CORE meets (Meeting.antt), with the record at exit for the registers that CORE gives back. BACK is `*regs = o.regs`, or writes those
-- registers back that the call can change (Back.antt).
--     function ks f back   the outer call's MIR, over a core of the name f
--     lends                the law. All that it takes of the core is that it meets its contract, and of S that it keeps the registers that aren't written back
-- The proof walks the MIR. The record's borrow is opened, the record is copied and handed to the core with the three slices, which are given up for
-- good; what the core returns is stored in the record's cell, and the borrow is closed there.
-- Assumes nothing.
use mathlib.Core.Path.{◌≡◌, refl, sym, ap, subst, ◌∙◌}
use Prim.Native.Nat.{ℕ, suc}
use mathlib.Core.List.{[], ◌∷◌, List}
use lib.ListN.{length}
use seplogic.Ra.Ura.{Ura}
use base.Fraction.{full_share}
use mir.Syntax.{Callee, Ty, named, erased, mut, w8, w32, ty_int, ty_ref, deref, field, place, copy, rv_opd, addr_of, aggregate, local, value_local, seq, assign, call, return, Fn}
use mir.Val.{Val, vptr}
use base.Logic.{SProp, ent, emp, via, fst∗, id⊢}
use base.Fml.{Lft, Share, GName, Fml, fsep, fat, flft, fobs, fbor}
use prog.Model.{Model}
use prog.Routine.{Routine, Env}
use prog.Wp.{Calls, Loops, WpFn, Tables, Closed}
use types.Logic.{Logic}
use contract.Monad.{fact}
use contract.Running.{Running, tables, tables_of}
use contract.Lifetimes.{Lfts, Shares, AllOutlive, toks}
use types.Kit.{Item, ‵, raw, some, later, ◌⊛◌, ⋆, ◌$◌, ◌∵◌, !, qed, by, move, keep, drop, use0, use1, use2, split, join, pick, rewrite}
use types.Kit.{fsplit, fsplit3, fjoin, fjoin3, feq_l, feq_i, suffices, frame, await, done}
use types.Run.{look, look_raw, init, forget, stop, hop, fld, from, load, addr, of_opd, and_then, no_more, assigns, land, returns, enter, alloc1, params1, pass1, free1}
use types.Part.{agg, whole, sub, look_in}
use types.SemTy.{Body as Lent, Arr}
use types.Hole.{Holey}
use sound.WpLaws.{FmC, fm_of, WpFn-mono}
use denote.RattleType.{RattleType, Valss, owns}
use denote.Memory.{mem}
use denote.Laws.{Is, shows}
use denote.Builtin.{u8, u32}
use denote.Ref.{MutBor, MutRef, mut_vals, mut_Tells}
use denote.Slice.{slice_ty, slice_val, MutSlice, Room, finally, mut_slice_vals, mut_slice_Tells}
use denote.Steps.{only, opens, closes, owned, peeks, heard}
use denote.Struct.Steps.{spelt}
use denote.Struct.Laws as LL
use denote.Exit.{yes}
use denote.Signature.{plain, types_at}
use denote.Triple.Entry.{Args, on_entry}
use denote.Triple.End.{all}
use denote.Triple.Statement.{Triple}
use denote.Triple.Call.{calls_at}
use denote.Triple.Clauses.{Lasts, ensured, lasts}
use denote.Triple.Table.{entered, cited}
use denote.Triple.Walked.{says, walk_of, has_of, Goes-ref, Goes-gave_slice, Walks, ends_at, walked, walk_Meets}
use Rattle.machine.specs.Heap as B
use Rattle.machine.specs.Answers.{Given as Gives, given}
use Rattle.machine.specs.declared.Regs.{Regs}
use Rattle.machine.specs.declared.Answer.{Answer}
use Rattle.machine.specs.declared.Outcome.{Outcome}
use Rattle.machine.specs.contracts.Regs as T
use Rattle.machine.proofs.Regs.TheLaws as T'
use Rattle.machine.specs.contracts.Answer as N
use Rattle.machine.proofs.Answer.TheLaws as N'
use Rattle.machine.specs.contracts.Outcome as O
use Rattle.machine.proofs.Outcome.TheLaws as O'
use Rattle.theory_lending.proofs.Copied as Copied
use Rattle.theory_lending.proofs.Copied.{Kind, lives, Data, Takes, told, Small, slots, read, write, read_write, vals, ints}
use Rattle.theory_lending.proofs.Back.{tmp, record_ref, Back}
use Rattle.theory_lending.proofs.Locals.{with_copied, opds, allocs_copied, passes_copied, frees_copied, valued, homes, allocs_valued, frees_valued, up, past, at_place, has_after, reads_copied}
use Rattle.theory_lending.proofs.Meeting.{core_lives, outer_lives, signature, ended, core_signature, core_ended, clauses, core_clauses, Outer, Core, stayed, Keeps}

-- ---- the MIR
abbrev lent : Ty → Ty
lent τ = ty_ref erased mut τ

-- the slices' types, as they are lent
abbrev words_type : Ty
words_type = slice_ty (ty_ref (named 1) mut (ty_int w32))

abbrev colours_type : Ty
colours_type = slice_ty (ty_ref (named 2) mut (ty_int w32))

abbrev bytes_type : Ty
bytes_type = slice_ty (ty_ref (named 3) mut (ty_int w8))

-- a pointer to a word, to a byte
abbrev to_word : Ty
to_word = lent (ty_int w32)

abbrev to_byte : Ty
to_byte = lent (ty_int w8)

-- the temporaries: what the core gives, the registers, for each slice a pointer and the slice lent again, and those of what is written back
abbrev temporaries : List Ty → List Ty
temporaries τs = O'.mir ∷ T'.mir ∷ to_word ∷ slice_ty to_word ∷ to_word ∷ slice_ty to_word ∷ to_byte ∷ slice_ty to_byte ∷ τs

abbrev pub function : (ks : List Kind) → Callee → Back (length ks) → Fn
function ks f back = record {
  lifetimes = outer_lives ks;
  outlives = [];
  ty_params = [];
  givens = 0;
  params = suc (suc (suc (suc (length ks))));
  locals = local N'.mir value_local ∷ local record_ref value_local ∷ local words_type value_local ∷ local colours_type value_local
      ∷ local bytes_type value_local ∷ with_copied 4 ks (valued (temporaries back.temporaries));
  body = seq (assign (place (tmp (length ks) 1) []) (rv_opd (copy (place 1 (deref T'.mir ∷ [])))))
      (seq (assign (place (tmp (length ks) 2) []) (addr_of (place 2 (field 0 ∷ deref (ty_int w32) ∷ []))))
      (seq (assign (place (tmp (length ks) 3) []) (aggregate (copy (place (tmp (length ks) 2) []) ∷ copy (place 2 (field 1 ∷ [])) ∷ [])))
      (seq (assign (place (tmp (length ks) 4) []) (addr_of (place 3 (field 0 ∷ deref (ty_int w32) ∷ []))))
      (seq (assign (place (tmp (length ks) 5) []) (aggregate (copy (place (tmp (length ks) 4) []) ∷ copy (place 3 (field 1 ∷ [])) ∷ [])))
      (seq (assign (place (tmp (length ks) 6) []) (addr_of (place 4 (field 0 ∷ deref (ty_int w8) ∷ []))))
      (seq (assign (place (tmp (length ks) 7) []) (aggregate (copy (place (tmp (length ks) 6) []) ∷ copy (place 4 (field 1 ∷ [])) ∷ [])))
      (seq (call f (copy (place (tmp (length ks) 1) []) ∷ copy (place (tmp (length ks) 3) []) ∷ copy (place (tmp (length ks) 5) []) ∷ copy (place (tmp (length ks) 7) []) ∷ opds 5 ks) (place (tmp (length ks) 0) []))
      (back.code (seq (assign (place 0 []) (rv_opd (copy (place (tmp (length ks) 0) (field 1 ∷ [])))))
      return)))))))));
}

-- ---- the walk
module _ (ks : List Kind) (S : Takes ks → B.Heap → Gives) (back : Back (length ks)) (keeps : Keeps ks S back) {M : Type 1} {𝓤 : Ura M} (𝓛 : Logic 𝓤)
    (κ κ₁ κ₂ κ₃ : Lft) (κr : Lfts (lives ks))
    (bounds : AllOutlive (outer_lives ks) (signature ks).outlives (κ, (κ₁, (κ₂, (κ₃, κr))))) (q q₁ q₂ q₃ : Share) (qr : Shares (lives ks))
    (b o : ℕ) (γ : GName) (r : Regs) (x₁ x₂ x₃ : MutBor (List ℕ)) (ns : Copied.Args (outer_lives ks) (κ, (κ₁, (κ₂, (κ₃, κr)))) 4 ks)
    (small : Small ks (read (outer_lives ks) (κ, (κ₁, (κ₂, (κ₃, κr)))) 4 ks ns)) where
  open 𝓛 use {H}

  abbrev κs : Lfts (outer_lives ks)
  κs = (κ, (κ₁, (κ₂, (κ₃, κr))))

  abbrev qs : Shares (outer_lives ks)
  qs = (q, (q₁, (q₂, (q₃, qr))))

  abbrev R : RattleType
  R = T.the_row

  abbrev mach : Regs → Val
  mach = LL.val T.the_type T'.the_laws

  abbrev nmach : Answer → Val
  nmach = LL.val N.the_type N'.the_laws

  abbrev s₁ : Val
  s₁ = slice_val x₁.ref_ptr (length x₁.now)

  abbrev s₂ : Val
  s₂ = slice_val x₂.ref_ptr (length x₂.now)

  abbrev s₃ : Val
  s₃ = slice_val x₃.ref_ptr (length x₃.now)

  -- the further arguments, and as the core's
  abbrev m : Data ks
  m = read (outer_lives ks) κs 4 ks ns

  abbrev ns' : Copied.Args (core_lives ks) κs.1 3 ks
  ns' = write (core_lives ks) κs.1 3 ks m

  abbrev a : Args (signature ks) κs
  a = (record { ref_ptr = (b, o); ghost_name = γ; now = r }, (x₁, (x₂, (x₃, ns))))

  abbrev values : Valss (types_at (signature ks).params κs)
  values = (vptr b o ∷ [], (s₁ ∷ [], (s₂ ∷ [], (s₃ ∷ [], vals (outer_lives ks) κs 4 ks ns))))

  abbrev a' : Args (core_signature ks) κs.1
  a' = (r, (x₁, (x₂, (x₃, ns'))))

  -- what the core's triple binds outside: the slices' own lifetimes, shares and values
  abbrev to_core : (Core ks S 𝓤 𝓛).Ghost
  to_core = ((κs.1, qs.1, tt, a', (mach r ∷ [], (s₁ ∷ [], (s₂ ∷ [], (s₃ ∷ [], vals (core_lives ks) κs.1 3 ks ns'))))), tt)

  abbrev before : B.Heap
  before = B.heap r x₁.now x₂.now x₃.now

  -- what both contracts say, at the further arguments n
  abbrev Says : Takes ks → Outcome → List ℕ → List ℕ → List ℕ → Type 0
  Says n t z₁ z₂ z₃ = given t z₁ z₂ z₃ ≡ S n before

  kept : {n : Takes ks} {t : Outcome} {z₁ z₂ z₃ : List ℕ} → Says n t z₁ z₂ z₃ → back.Kept r t.regs
  kept {n} e = subst (back.Kept r) (sym (ap (λ (g : Gives). g.heap.regs) e)) (keeps n before)

  abbrev Post : Val → SProp 𝓤
  Post = (walk_of 𝓛 (ended ks) (stayed ks) (clauses ks S 𝓤)).post ((κs, qs, bounds, a, values), tt)

  -- the tokens of the slices' lifetimes
  abbrev tokens : Item 𝓤
  tokens = ‵ (flft κ₁ q₁) ⊛ ‵ (flft κ₂ q₂) ⊛ ‵ (flft κ₃ q₃) ⊛ raw (toks 𝓛 (lives ks) κr qr)

  -- what the slices and the further arguments own
  abbrev slices : List RattleType
  slices = MutSlice (named 1) κ₁ u32 ∷ MutSlice (named 2) κ₂ u32 ∷ MutSlice (named 3) κ₃ u8 ∷ types_at (slots (outer_lives ks) 4 ks) κs

  -- what the core is given, but for the record
  abbrev lends_core : List (Item 𝓤)
  lends_core = tokens ∷ ‵ (owns slices a.1 values.1) ∷ []

  goes : Is R r (mach r ∷ []) → ent 𝓤 (⋆ 𝓛 lends_core) ((Core ks S 𝓤 𝓛).pre to_core)
  goes g =
      qed 𝓛 lends_core ∵
      move ! (1 ∷ []) $ fsplit ! $ move ! (1 ∷ []) $ fsplit ! $ move ! (1 ∷ []) $ fsplit ! $ move ! (1 ∷ []) $
      use1 𝓛 (‵ (owns (types_at (slots (core_lives ks) 3 ks) κs.1) ns' (vals (core_lives ks) κs.1 3 ks ns')))
      (Copied.moves (core_lives ks) κs 𝓛 3 ks ns) $
      move ! (1 ∷ 0 ∷ []) $ fjoin ! $ move ! (1 ∷ 0 ∷ []) $ fjoin ! $ move ! (1 ∷ 0 ∷ []) $ fjoin ! $
      owned ! R (Is R) (LL.makes T.the_type T'.the_plain 𝓛) r _ g $ fjoin ! $ move ! (1 ∷ 0 ∷ []) $ join ! $ frame ! $ done !

  -- what is left of a slice that was handed to the core: its last list, and its borrow
  abbrev given_up : (E : RattleType) → Lft → MutBor (List E.Denot) → List E.Denot → Fml
  given_up E κ x z = fsep (finally E x.ghost_name z) (fbor κ (Lent (Arr (Holey (mem E)) (length x.now)) x.ref_ptr.0 x.ref_ptr.1 x.ghost_name))

  -- what is left when the call has answered t and the slices' last lists are z₁, z₂, z₃
  abbrev leaves : Outcome → List ℕ → List ℕ → List ℕ → List (Item 𝓤)
  leaves t z₁ z₂ z₃ =
      ‵ (fobs γ (R.coded.code t.regs)) ∷ ‵ (fbor κ (Lent (mem R) b o γ)) ∷ ‵ (flft κ q) ∷ tokens
      ∷ ‵ (given_up u32 κ₁ x₁ z₁) ∷ ‵ (given_up u32 κ₂ x₂ z₂) ∷ ‵ (given_up u8 κ₃ x₃ z₃) ∷ []

  exits : (t : Outcome) (z₁ z₂ z₃ : List ℕ) → Is N.the_row t.answer (nmach t.answer ∷ [])
      → length z₁ ≡ length x₁.now → length z₂ ≡ length x₂.now → length z₃ ≡ length x₃.now → Says (told ks m) t z₁ z₂ z₃
      → ent 𝓤 (⋆ 𝓛 (leaves t z₁ z₂ z₃)) (Post (nmach t.answer))
  exits t z₁ z₂ z₃ ga l₁ l₂ l₃ e =
      qed 𝓛 (leaves t z₁ z₂ z₃) ∵
      suffices ! _
      (ends_at 𝓛 (ended ks) (stayed ks) (clauses ks S 𝓤) ((κs, qs, bounds, a, values), tt) (nmach t.answer) t.answer
      (t.regs, (z₁, (z₂, (z₃, Copied.lasts (outer_lives ks) κs 4 ks ns)))) (tt, (l₁, (l₂, (l₃, Copied.fits (outer_lives ks) κs 4 ks ns))))) $ says ! e $
      move ! (2 ∷ 3 ∷ []) $ join ! $ frame ! $ feq_i ! (List Val) (vptr b o ∷ []) (vptr b o ∷ []) refl $ fjoin3 ! $
      use0 𝓛 (‵ (has_of κs (slots (outer_lives ks) 4 ks) (all yes (slots (outer_lives ks) 4 ks)) (Copied.stays (outer_lives ks) 4 ks) ns (Copied.lasts (outer_lives ks) κs 4 ks ns) (vals (outer_lives ks) κs 4 ks ns)))
      (Copied.had (outer_lives ks) κs 𝓛 4 ks ns) $
      move ! (4 ∷ 0 ∷ []) $ fjoin ! $ move ! (3 ∷ 0 ∷ []) $ fjoin ! $ move ! (2 ∷ 0 ∷ []) $ fjoin ! $ move ! (1 ∷ 0 ∷ []) $ fjoin ! $
      owned ! N.the_row (Is N.the_row) (LL.makes N.the_type N'.the_plain 𝓛) t.answer _ ga $ move ! (1 ∷ 0 ∷ []) $ done !

  -- what the core ensures when it gives t: at some last lists, what both contracts say
  abbrev core_ensures : Outcome → SProp 𝓤
  core_ensures t = ensured 𝓛 (core_ended ks) (core_clauses ks S 𝓤) κs.1 a' tt t

  abbrev CoreLasts : Type 0
  CoreLasts = Lasts (core_ended ks) κs.1 a'

  abbrev core_says : Outcome → CoreLasts → Type 0
  core_says t zs = Says (told ks (read (core_lives ks) κs.1 3 ks ns')) t zs.1.0 zs.1.1.0 zs.1.1.1.0

  module _ (f : Callee) (C : Calls 𝓤 H) (Λ : Loops 𝓤 H) (fm : FmC 𝓤 H 𝓛.laws C) (known : Triple 𝓤 (C f) (Core ks S 𝓤 𝓛)) where
    walk : Room u32 (length x₁.now) → Room u32 (length x₂.now) → Room u8 (length x₃.now)
        → ent 𝓤 (on_entry 𝓛 (signature ks) κs qs a values) (WpFn 𝓤 H C Λ (function ks f back) (vptr b o ∷ s₁ ∷ s₂ ∷ s₃ ∷ ints (outer_lives ks) κs 4 ks ns) Post)
    walk room₁ room₂ room₃ =
        qed 𝓛 ((‵ (flft κ q) ⊛ tokens) ∷ ‵ (owns (MutRef (named 0) κ R ∷ slices) a values) ∷ []) ∵
        enter ! C Λ (function ks f back) (vptr b o ∷ s₁ ∷ s₂ ∷ s₃ ∷ ints (outer_lives ks) κs 4 ks ns) _ $
        alloc1 ! (λ l₀. alloc1 ! (λ l₁. alloc1 ! (λ l₂. alloc1 ! (λ l₃. alloc1 ! (λ l₄. allocs_copied ! 4 ks (λ bs.
        alloc1 ! (λ m₀. alloc1 ! (λ m₁. alloc1 ! (λ m₂. alloc1 ! (λ m₃. alloc1 ! (λ m₄. alloc1 ! (λ m₅. alloc1 ! (λ m₆. alloc1 ! (λ m₇.
        allocs_valued ! back.temporaries (λ cs.
        let D : List (Ty × ℕ) = (N'.mir, l₀) ∷ (record_ref, l₁) ∷ (words_type, l₂) ∷ (colours_type, l₃) ∷ (bytes_type, l₄) ∷ [] in
        let E : List (Ty × ℕ) = (O'.mir, m₀) ∷ (T'.mir, m₁) ∷ (to_word, m₂) ∷ (slice_ty to_word, m₃) ∷ (to_word, m₄) ∷ (slice_ty to_word, m₅)
        ∷ (to_byte, m₆) ∷ (slice_ty to_byte, m₇) ∷ homes back.temporaries cs in
        -- the temporaries of what is written back come last in the context
        move ! (1 ∷ 2 ∷ 3 ∷ 4 ∷ 5 ∷ 6 ∷ 7 ∷ 8 ∷ 9 ∷ 10 ∷ 11 ∷ 12 ∷ 13 ∷ 14 ∷ 15 ∷ 16 ∷ 17 ∷ 18 ∷ 19 ∷ 20 ∷ 21 ∷ 22 ∷ 23 ∷ 24 ∷ 25 ∷ 26 ∷ 27
        ∷ 28 ∷ 29 ∷ []) $
        params1 ! $ pass1 ! (init ! 23 refl (tt, tt)) $ pass1 ! (init ! 21 refl (tt, (tt, (record { fits = room₁.0 }, tt)))) $
        pass1 ! (init ! 19 refl (tt, (tt, (record { fits = room₂.0 }, tt)))) $ pass1 ! (init ! 17 refl (tt, (tt, (record { fits = room₃.0 }, tt)))) $
        move ! (16 ∷ []) $ passes_copied ! (outer_lives ks) κs 4 ks bs ns small E (
        -- the record's borrow is opened
        move ! (28 ∷ []) $ fsplit ! $ fsplit3 ! $ drop ! $ move ! (30 ∷ []) $ split ! $ move ! (2 ∷ 3 ∷ 0 ∷ []) $
        opens ! tt R {h = r} b o (λ vs.
        spelt ! R (Is R) (shows 𝓛 R) (LL.vals T.the_type T'.the_laws) (LL.tells T.the_type T'.the_laws) full_share r vs b o $
        move ! (1 ∷ []) $ peeks ! R (Is R) (shows 𝓛 R) r (mach r ∷ []) (λ g. move ! (1 ∷ 0 ∷ []) $
        -- [the record's cell; what a Regs owns; the open borrow; obs; auth; the slices' tokens; what the slices and the further arguments own;
        -- the further arguments' cells; the last temporary; …; bytes; …; _0; …]
        assigns ! (of_opd ! (load ! (from ! (hop ! (look ! 30 refl) (stop !))) (look_raw ! 0 refl))) (at_place ! (past 4 ks bs E 1 _) (stop !))
        (init ! 20 refl ((LL.lawful T.the_type T'.the_laws 𝓛).typed r _ g).0) $
        assigns ! (addr ! (from ! (fld ! refl (hop ! (look_in ! 28 (sub ! 0 refl (whole !))) (stop !))))) (at_place ! (past 4 ks bs E 2 _) (stop !)) (init ! 18 refl (tt, tt)) $
        assigns ! (agg ! (and_then ! (load ! (at_place ! (past 4 ks bs E 2 _) (stop !)) (look ! 18 refl))
        (and_then ! (load ! (from ! (fld ! refl (stop !))) (look_in ! 28 (sub ! 1 refl (whole !)))) (no_more !))))
        (at_place ! (past 4 ks bs E 3 _) (stop !)) (init ! 16 refl (tt, (tt, (record { fits = room₁.0 }, tt)))) $
        assigns ! (addr ! (from ! (fld ! refl (hop ! (look_in ! 26 (sub ! 0 refl (whole !))) (stop !))))) (at_place ! (past 4 ks bs E 4 _) (stop !)) (init ! 14 refl (tt, tt)) $
        assigns ! (agg ! (and_then ! (load ! (at_place ! (past 4 ks bs E 4 _) (stop !)) (look ! 14 refl))
        (and_then ! (load ! (from ! (fld ! refl (stop !))) (look_in ! 26 (sub ! 1 refl (whole !)))) (no_more !))))
        (at_place ! (past 4 ks bs E 5 _) (stop !)) (init ! 12 refl (tt, (tt, (record { fits = room₂.0 }, tt)))) $
        assigns ! (addr ! (from ! (fld ! refl (hop ! (look_in ! 24 (sub ! 0 refl (whole !))) (stop !))))) (at_place ! (past 4 ks bs E 6 _) (stop !)) (init ! 10 refl (tt, tt)) $
        assigns ! (agg ! (and_then ! (load ! (at_place ! (past 4 ks bs E 6 _) (stop !)) (look ! 10 refl))
        (and_then ! (load ! (from ! (fld ! refl (stop !))) (look_in ! 24 (sub ! 1 refl (whole !)))) (no_more !))))
        (at_place ! (past 4 ks bs E 7 _) (stop !)) (init ! 8 refl (tt, (tt, (record { fits = room₃.0 }, tt)))) $
        -- the call
        move ! (5 ∷ 6 ∷ []) $ use2 𝓛 (raw ((Core ks S 𝓤 𝓛).pre to_core)) (goes g) $
        calls_at ! fm (Core ks S 𝓤 𝓛) known to_core
        (and_then ! (load ! (at_place ! (past 4 ks bs E 1 _) (stop !)) (look ! 19 refl)) (and_then ! (load ! (at_place ! (past 4 ks bs E 3 _) (stop !)) (look ! 15 refl))
        (and_then ! (load ! (at_place ! (past 4 ks bs E 5 _) (stop !)) (look ! 11 refl)) (and_then ! (load ! (at_place ! (past 4 ks bs E 7 _) (stop !)) (look ! 7 refl))
        (reads_copied ! 6 4 (core_lives ks) κs.1 3 ks 5 bs m refl (has_after 𝓤 H D 4 ks bs E)))))) (λ w.
        use1 𝓛 (later (some (λ (t : Outcome). (tokens ⊛ ‵ ((O.the_row).own_val t (w ∷ []))) ⊛ raw (core_ensures t)))) (id⊢ 𝓤 _) $ await ! tt $ pick ! (λ t.
        -- what the core ensures, at some last lists
        split ! $ move ! (1 ∷ []) $ use1 𝓛 (some (λ (zs : CoreLasts). ‵ (lasts (core_ended ks) κs.1 a' zs) ⊛ raw (fact 𝓤 (core_says t zs)))) (id⊢ 𝓤 _) $
        pick ! (λ zs. split ! $ move ! (1 ∷ []) $ heard ! (core_says t zs) (λ e.
        fsplit ! $ drop ! $ fsplit ! $ fsplit ! $ fsplit ! $ move ! (1 ∷ []) $ feq_l ! (λ e₁. fjoin ! $
        move ! (1 ∷ []) $ fsplit ! $ fsplit ! $ fsplit ! $ move ! (1 ∷ []) $ feq_l ! (λ e₂. fjoin ! $
        move ! (1 ∷ []) $ fsplit ! $ fsplit ! $ fsplit ! $ move ! (1 ∷ []) $ feq_l ! (λ e₃. fjoin ! $
        -- [what is left of bytes; …; of colours; of words; the tokens and the result; the record's cell; what it owns; the open borrow; obs; auth;
        -- the further arguments' cells; the last temporary; …; _0; …]
        move ! (4 ∷ []) $ split ! $ move ! (1 ∷ []) $ peeks ! O.the_row (Is O.the_row) (shows 𝓛 O.the_row) t (w ∷ []) (λ is.
        land ! (at_place ! (past 4 ks bs E 0 _) (stop !)) (init ! 26 refl ((LL.lawful O.the_type O'.the_laws 𝓛).typed t _ is).0) $
        rewrite ! 26 (λ (u : Val). ‵ (fat full_share O'.mir m₀ 0 u)) (ap only (LL.tells O.the_type O'.the_laws t _ is)) refl $
        move ! (6 ∷ 26 ∷ 34 ∷ 38 ∷ []) $ back.writes ! cs refl (past 4 ks bs E 0 _) (λ i. past 4 ks bs E (up 8 i) _) is (kept e) (
        move ! (4 ∷ 5 ∷ 6 ∷ 7 ∷ 8 ∷ 9 ∷ 0 ∷ 10 ∷ 11 ∷ 12 ∷ 13 ∷ 14 ∷ 15 ∷ 16 ∷ 17 ∷ 18 ∷ 19 ∷ 20 ∷ 21 ∷ 22 ∷ 23 ∷ 24 ∷ 25 ∷ 26 ∷ 27 ∷ 28 ∷ 1
        ∷ 29 ∷ 30 ∷ 31 ∷ 32 ∷ 33 ∷ 34 ∷ 35 ∷ 2 ∷ 36 ∷ 37 ∷ 38 ∷ []) $
        let owed = LL.owed O.the_type O'.the_laws t _ is in
        assigns ! (of_opd ! (load ! (at_place ! (past 4 ks bs E 0 _) (fld ! refl (stop !))) (look_in ! 26 (sub ! 1 refl (whole !))))) (from ! (stop !))
        (init ! 36 refl ((LL.lawful N.the_type N'.the_laws 𝓛).typed t.answer _ owed.1.0).0) $
        -- the record's borrow is closed at the new record
        owned ! R (Is R) (LL.makes T.the_type T'.the_plain 𝓛) t.regs _ owed.0 $
        move ! (7 ∷ 0 ∷ 9 ∷ 10 ∷ 11 ∷ []) $ closes ! tt R t.regs (mach t.regs ∷ []) b o $
        -- the locals are freed: the answer and the parameters, the further ones, the temporaries, those of what is written back
        returns ! (look ! 35 refl) $ forget ! 35 refl $ move ! (35 ∷ 36 ∷ []) $ free1 ! $
        forget ! 33 refl $ move ! (33 ∷ 34 ∷ []) $ free1 ! $ forget ! 31 refl $ move ! (31 ∷ 32 ∷ []) $ free1 ! $
        forget ! 29 refl $ move ! (29 ∷ 30 ∷ []) $ free1 ! $ forget ! 27 refl $ move ! (27 ∷ 28 ∷ []) $ free1 ! $
        move ! (10 ∷ []) $ frees_copied ! 4 ks bs m (
        forget ! 24 refl $ move ! (24 ∷ 25 ∷ []) $ free1 ! $ forget ! 22 refl $ move ! (22 ∷ 23 ∷ []) $ free1 ! $
        forget ! 20 refl $ move ! (20 ∷ 21 ∷ []) $ free1 ! $ forget ! 18 refl $ move ! (18 ∷ 19 ∷ []) $ free1 ! $
        forget ! 16 refl $ move ! (16 ∷ 17 ∷ []) $ free1 ! $ forget ! 14 refl $ move ! (14 ∷ 15 ∷ []) $ free1 ! $
        forget ! 12 refl $ move ! (12 ∷ 13 ∷ []) $ free1 ! $ forget ! 10 refl $ move ! (10 ∷ 11 ∷ []) $ free1 ! $
        move ! (10 ∷ []) $ frees_valued ! back.temporaries cs (
        keep ! (0 ∷ 1 ∷ 2 ∷ 4 ∷ 8 ∷ 7 ∷ 5 ∷ []) $ by ! (exits t zs.1.0 zs.1.1.0 zs.1.1.1.0 owed.1.0 e₁ e₂ e₃
        (e ∙ ap (λ (n : Data ks). S (told ks n) before) (read_write (core_lives ks) κs.1 3 ks m))))))))))))))))))))))))))))))))

-- ---- the law
module _ (ks : List Kind) (S : Takes ks → B.Heap → Gives) (back : Back (length ks)) (keeps : Keeps ks S back) (f : Callee) {M : Type 1} {𝓤 : Ura M} (𝓛 : Logic 𝓤) where
  open 𝓛 use {H}

  walks : (C : Calls 𝓤 H) (Λ : Loops 𝓤 H) → FmC 𝓤 H 𝓛.laws C → Triple 𝓤 (C f) (Core ks S 𝓤 𝓛)
      → Walks 𝓛 (ended ks) (stayed ks) (WpFn 𝓤 H C Λ (function ks f back)) (clauses ks S 𝓤)
  walks C Λ fm known =
      walked 𝓛 (ended ks) (stayed ks) (clauses ks S 𝓤) (WpFn 𝓤 H C Λ (function ks f back))
      (λ κs. (mut_vals, (mut_slice_vals, (mut_slice_vals, (mut_slice_vals, Copied.spells (outer_lives ks) κs 4 ks)))))
      (λ κs. (
        mut_Tells (named 0) κs.0 T.the_row,
        (
          mut_slice_Tells (named 1) κs.1.0 u32,
          (mut_slice_Tells (named 2) κs.1.1.0 u32, (mut_slice_Tells (named 3) κs.1.1.1.0 u8, Copied.tells (outer_lives ks) κs 4 ks)),
        ),
      ))
      (λ κs qs bounds a g are. via 𝓤 _ (fst∗ 𝓤 _ (emp 𝓤))
      (walk ks S back keeps 𝓛 κs.0 κs.1.0 κs.1.1.0 κs.1.1.1.0 κs.1.1.1.1 bounds qs.0 qs.1.0 qs.1.1.0 qs.1.1.1.0
      qs.1.1.1.1
      a.0.ref_ptr.0 a.0.ref_ptr.1 a.0.ghost_name a.0.now a.1.0 a.1.1.0 a.1.1.1.0 a.1.1.1.1
      (Copied.small (outer_lives ks) κs 4 ks a.1.1.1.1 are.1.1.1.1) f C Λ fm known are.1.0.0.1 are.1.1.0.0.1 are.1.1.1.0.0.1))

  meets : (𝓣 : Tables 𝓤 H) → Triple 𝓤 (𝓣.C f) (Core ks S 𝓤 𝓛)
      → Triple 𝓤 (WpFn 𝓤 H 𝓣.C 𝓣.Λ (function ks f back)) (Outer ks S 𝓤 𝓛)
  meets 𝓣 known =
      walk_Meets 𝓛 (ended ks) (stayed ks) (
        Goes-ref 𝓛 (outer_lives ks) 0 tt (plain (λ _. T.the_row)),
        (
          Goes-gave_slice 𝓛 (outer_lives ks) 1 tt (plain (λ _. u32)),
          (Goes-gave_slice 𝓛 (outer_lives ks) 2 tt (plain (λ _. u32)), (Goes-gave_slice 𝓛 (outer_lives ks) 3 tt (plain (λ _. u8)), Copied.all_go (outer_lives ks) 𝓛 4 ks)),
        ),
      )
      (clauses ks S 𝓤) (WpFn 𝓤 H 𝓣.C 𝓣.Λ (function ks f back)) (WpFn-mono 𝓤 H 𝓛.laws 𝓣 (function ks f back))
      (walks 𝓣.C 𝓣.Λ (fm_of 𝓤 H 𝓛.laws 𝓣) known)

  pub lends : (𝓜 : Model 𝓤 H) (𝓡 : Running 𝓤 H 𝓜) (γ : Env) (name : Callee)
      → Closed 𝓤 H (tables 𝓤 H 𝓜 𝓡 γ).C (tables 𝓤 H 𝓜 𝓡 γ).Λ name (function ks f back) → (core : Routine) → γ f ≡ core
      → Triple 𝓤 (𝓡.run core) (Core ks S 𝓤 𝓛) → Triple 𝓤 (𝓡.run (γ name)) (Outer ks S 𝓤 𝓛)
  unfolding tables_of
  lends 𝓜 𝓡 γ name closed core is met =
      entered 𝓤 H (Outer ks S 𝓤 𝓛) (tables 𝓤 H 𝓜 𝓡 γ).C (tables 𝓤 H 𝓜 𝓡 γ).Λ name (function ks f back) closed
      (meets (tables_of 𝓤 H 𝓜 (tables 𝓤 H 𝓜 𝓡 γ)) (cited 𝓤 H (Core ks S 𝓤 𝓛) 𝓜 𝓡 γ f core is met))
