-- The copied parameters of an outer call as locals of its MIR: steps of a walk, for any list of them. In a context they are one entry.
--     up k j               j past k
--     type k j             the MIR type of a parameter, whose lifetime has the number j.        val x     its machine value
--     with_copied j ks ls   the locals ls after them.        opds i k     the operands that copy k locals from i on
--     Blocks ks, env bs E  the blocks of the locals, and an environment that begins with them
--     Rooms bs, Cells bs m     the entry: room for them; their cells at the arguments m
--     allocs_copied, passes_copied, frees_copied     they are allocated, stored, freed
--     past                 the local j past them.        at_place     a place by what the environment has there
--     Has, has_after       the environment has them at the locals from i on; it does, after the locals D
--     reads_copied         the operands read their cells, in whatever signature the arguments are wanted
-- Below them, locals of any list of types, one entry too.
--     valued τs            the locals.        Homes τs, homes τs bs     their blocks, and the environment of them
--     Empty τs bs          the entry: room for them, with nothing stored.        allocs_valued, frees_valued     they are allocated, freed
-- Assumes `Logic`.
use mathlib.Core.Path.{◌≡◌, refl, sym, subst}
use Prim.Native.Nat.{ℕ, zero, suc}
use mathlib.Core.List.{List, [], ◌∷◌, ◌++◌}
use lib.Dec.{T}
use lib.ListN.{get_or, length}
use seplogic.Ra.Ura.{Ura}
use base.Fraction.{full_share}
use mir.Syntax.{w8, w32, Ty, named, imm, ty_int, ty_ref, Step as PStep, place, Opd as Operand, copy, Local, local, value_local}
use mir.Val.{Val, vint, WT, has_ty}
use base.Logic.{ent, sep, via}
use base.Fml.{ftrue, fat, froom, fdies}
use contract.Lifetimes.{Lfts}
use prog.Wp.{Heap, Env, Spot, no_local, walk}
use types.Logic.{Logic}
use types.Kit.{Item, ‵, ◌⊛◌, mean, ⋆, nth, del, pull, unpull, push, pop, Goal, allocs, passes, frees, Seq, ◌$◌, ◌∵◌, !, qed, move, split, join, drop, done}
use types.Run.{Walks, Finds, Opds, look, init, forget, stop, load, and_then, no_more, alloc1, alloc0, pass1, pass0, free1, free0}
use denote.Slice.{slice_ty, slice_val}
use denote.Steps.{nothing}
use Rattle.theory_lending.proofs.Copied.{Kind, number, shared, Datum, Data, Fits, Small, next, read, write, ints}
use Rattle.theory_lending.proofs.Copied as C

abbrev pub up : ℕ → ℕ → ℕ
up zero j = j
up (suc k) j = suc (up k j)

abbrev type : Kind → ℕ → Ty
type number j = ty_int w32
type shared j = slice_ty (ty_ref (named j) imm (ty_int w8))

abbrev val : (k : Kind) → Datum k → Val
val number x = vint w32 x
val shared x = slice_val x.ref_ptr (length x.now)

typed : (k : Kind) (j : ℕ) (x : Datum k) → Fits k x → T (has_ty (type k j) (val k x)) × WT (val k x)
typed number j x s = (tt, record { fits = s })
typed shared j x s = (tt, (tt, (record { fits = s.0 }, tt)))

abbrev pub with_copied : ℕ → List Kind → List Local → List Local
with_copied j [] ls = ls
with_copied j (k ∷ ks) ls = local (type k j) value_local ∷ with_copied (next k j) ks ls

abbrev pub opds : ℕ → List Kind → List Operand
opds i [] = []
opds i (k ∷ ks) = copy (place i []) ∷ opds (suc i) ks

abbrev pub Blocks : List Kind → Type 0
Blocks [] = Unit {0}
Blocks (k ∷ ks) = ℕ × Blocks ks

abbrev pub env : (j : ℕ) (ks : List Kind) → Blocks ks → List (Ty × ℕ) → List (Ty × ℕ)
env j [] bs E = E
env j (k ∷ ks) bs E = (type k j, bs.0) ∷ env (next k j) ks bs.1 E

module _ {M : Type 1} {𝓤 : Ura M} where
  abbrev cell : (k : Kind) → ℕ → ℕ → Datum k → Item 𝓤
  cell k j b x = ‵ (fat full_share (type k j) b zero (val k x))

  abbrev dies : Kind → ℕ → ℕ → Item 𝓤
  dies k j b = ‵ (fdies (type k j) b)

  abbrev pub Rooms : (j : ℕ) (ks : List Kind) → Blocks ks → Item 𝓤
  Rooms j [] bs = ‵ ftrue
  Rooms j (k ∷ ks) bs = (‵ (froom (type k j) bs.0 zero) ⊛ dies k j bs.0) ⊛ Rooms (next k j) ks bs.1

  abbrev pub Cells : (j : ℕ) (ks : List Kind) → Blocks ks → Data ks → Item 𝓤
  Cells j [] bs m = ‵ ftrue
  Cells j (k ∷ ks) bs m = (cell k j bs.0 m.0 ⊛ dies k j bs.0) ⊛ Cells (next k j) ks bs.1 m.1

module _ {M : Type 1} {𝓤 : Ura M} {𝓛 : Logic 𝓤} {K : Type 0} where
  open 𝓛 use {H}

  pub allocs_copied : K → (j : ℕ) (ks : List Kind) {ls : List Local} {Kt : Env 𝓤 H → Goal 𝓤 H} {Γ : List (Item 𝓤)}
      → ((bs : Blocks ks) → Seq K 𝓛 (Rooms j ks bs ∷ Γ) (allocs ls (λ E. Kt (env j ks bs E)))) → Seq K 𝓛 Γ (allocs (with_copied j ks ls) Kt)
  allocs_copied t j [] h = nothing t $ h tt
  allocs_copied t j (k ∷ ks) h = alloc1 t (λ b. allocs_copied t (next k j) ks (λ bs. move t (1 ∷ 2 ∷ []) $ join t $ join t $ h (b, bs)))

  pub passes_copied : K → (n : ℕ) (κs : Lfts n) (j : ℕ) (ks : List Kind) (bs : Blocks ks) (a : C.Args n κs j ks) → Small ks (read n κs j ks a)
      → (E : Env 𝓤 H) {g : Goal 𝓤 H} {Γ : List (Item 𝓤)} → Seq K 𝓛 (Cells j ks bs (read n κs j ks a) ∷ Γ) g
      → Seq K 𝓛 (Rooms j ks bs ∷ Γ) (passes (env j ks bs E) (ints n κs j ks a) g)
  passes_copied t n κs j [] bs a s E h = pass0 t $ h
  passes_copied t n κs j (number ∷ ks) bs a s E h =
      split t $ split t $ pass1 t (init t 0 refl (typed number j a.0 s.0)) $ move t (2 ∷ []) $
      passes_copied t n κs j ks bs.1 a.1 s.1 E (move t (1 ∷ 2 ∷ []) $ join t $ join t $ h)
  passes_copied t n κs j (shared ∷ ks) bs a s E h =
      split t $ split t $ pass1 t (init t 0 refl (typed shared j a.0 s.0)) $ move t (2 ∷ []) $
      passes_copied t n κs (suc j) ks bs.1 a.1 s.1 E (move t (1 ∷ 2 ∷ []) $ join t $ join t $ h)

  pub frees_copied : K → (j : ℕ) (ks : List Kind) (bs : Blocks ks) (m : Data ks) {E : Env 𝓤 H} {g : Goal 𝓤 H} {Γ : List (Item 𝓤)}
      → Seq K 𝓛 Γ (frees E g) → Seq K 𝓛 (Cells j ks bs m ∷ Γ) (frees (env j ks bs E) g)
  frees_copied t j [] bs m h = drop t $ h
  frees_copied t j (k ∷ ks) bs m h = split t $ split t $ forget t 0 refl $ free1 t $ frees_copied t (next k j) ks bs.1 m.1 h

-- ---- locals of any list of types
abbrev pub valued : List Ty → List Local
valued [] = []
valued (τ ∷ τs) = local τ value_local ∷ valued τs

abbrev pub Homes : List Ty → Type 0
Homes [] = Unit {0}
Homes (τ ∷ τs) = ℕ × Homes τs

abbrev pub homes : (τs : List Ty) → Homes τs → List (Ty × ℕ)
homes [] bs = []
homes (τ ∷ τs) bs = (τ, bs.0) ∷ homes τs bs.1

module _ {M : Type 1} {𝓤 : Ura M} where
  abbrev pub Empty : (τs : List Ty) → Homes τs → Item 𝓤
  Empty [] bs = ‵ ftrue
  Empty (τ ∷ τs) bs = (‵ (froom τ bs.0 zero) ⊛ ‵ (fdies τ bs.0)) ⊛ Empty τs bs.1

module _ {M : Type 1} {𝓤 : Ura M} {𝓛 : Logic 𝓤} {K : Type 0} where
  open 𝓛 use {H}

  pub allocs_valued : K → (τs : List Ty) {Kt : Env 𝓤 H → Goal 𝓤 H} {Γ : List (Item 𝓤)}
      → ((bs : Homes τs) → Seq K 𝓛 (Empty τs bs ∷ Γ) (Kt (homes τs bs))) → Seq K 𝓛 Γ (allocs (valued τs) Kt)
  allocs_valued t [] h = alloc0 t $ nothing t $ h tt
  allocs_valued t (τ ∷ τs) h = alloc1 t (λ b. allocs_valued t τs (λ bs. move t (1 ∷ 2 ∷ []) $ join t $ join t $ h (b, bs)))

  pub frees_valued : K → (τs : List Ty) (bs : Homes τs) {g : Goal 𝓤 H} {Γ : List (Item 𝓤)} → Seq K 𝓛 Γ g → Seq K 𝓛 (Empty τs bs ∷ Γ) (frees (homes τs bs) g)
  frees_valued t [] bs h = drop t $ free0 t $ h
  frees_valued t (τ ∷ τs) bs h = split t $ split t $ free1 t $ frees_valued t τs bs.1 h

-- ---- places
pub past : (j : ℕ) (ks : List Kind) (bs : Blocks ks) (E : List (Ty × ℕ)) (i : ℕ) (d : Ty × ℕ) → get_or (env j ks bs E) (up (length ks) i) d ≡ get_or E i d
past j [] bs E i d = refl
past j (k ∷ ks) bs E i d = past (next k j) ks bs.1 E i d

module _ {M : Type 1} {𝓤 : Ura M} {𝓛 : Logic 𝓤} {K : Type 0} {Γ : List (Item 𝓤)} {E : Env 𝓤 𝓛.H} where
  open 𝓛 use {H}

  pub at_place : K → {i : ℕ} {st : List PStep} {p : Ty × ℕ} {sp : Spot 𝓤 H} → get_or E i (no_local 𝓤 H) ≡ p → Walks K 𝓛 Γ E (p.0, p.1, zero) st sp → Finds K 𝓛 Γ E (place i st) sp
  at_place t {st = st} e w =
      record { go = λ Kt h. subst (λ (q : Ty × ℕ). ent 𝓤 (⋆ 𝓛 Γ) (walk 𝓤 H E (q.0, q.1, zero) st Kt)) (sym e) (w.go Kt h) }

  -- what is read from an entry of the context may be read from what the entry is made of
  reads_from : {Δ : List (Item 𝓤)} {xs : List Operand} {vs : List Val} → ent 𝓤 (⋆ 𝓛 Γ) (⋆ 𝓛 Δ) → ent 𝓤 (⋆ 𝓛 Δ) (⋆ 𝓛 Γ) → Opds K 𝓛 Δ E xs vs → Opds K 𝓛 Γ E xs vs
  reads_from {Δ = Δ} out back o = record { go = λ Kt h. via 𝓤 (⋆ 𝓛 Δ) out (o.go Kt (via 𝓤 (⋆ 𝓛 Γ) back h)) }

-- the copied parameters stand at the locals from i on
module _ {M : Type 1} (𝓤 : Ura M) (H : Heap 𝓤) where
  abbrev pub Has : Env 𝓤 H → ℕ → (j : ℕ) (ks : List Kind) → Blocks ks → Type 0
  Has E i j [] bs = Unit {0}
  Has E i j (k ∷ ks) bs = (get_or E i (no_local 𝓤 H) ≡ (type k j, bs.0)) × Has E (suc i) (next k j) ks bs.1

  has_under : (e : Ty × ℕ) (E : Env 𝓤 H) (i j : ℕ) (ks : List Kind) (bs : Blocks ks) → Has E i j ks bs → Has (e ∷ E) (suc i) j ks bs
  has_under e E i j [] bs h = tt
  has_under e E i j (k ∷ ks) bs h = (h.0, has_under e E (suc i) (next k j) ks bs.1 h.1)

  has_copied : (j : ℕ) (ks : List Kind) (bs : Blocks ks) (E : Env 𝓤 H) → Has (env j ks bs E) zero j ks bs
  has_copied j [] bs E = tt
  has_copied j (k ∷ ks) bs E =
      (refl, has_under (type k j, bs.0) (env (next k j) ks bs.1 E) zero (next k j) ks bs.1 (has_copied (next k j) ks bs.1 E))

  pub has_after : (D : Env 𝓤 H) (j : ℕ) (ks : List Kind) (bs : Blocks ks) (E : Env 𝓤 H) → Has (D ++ env j ks bs E) (length D) j ks bs
  has_after [] j ks bs E = has_copied j ks bs E
  has_after (e ∷ D) j ks bs E = has_under e (D ++ env j ks bs E) (length D) j ks bs (has_after D j ks bs E)

-- the locals' lifetimes are numbered from l on, those of the signature that wants the arguments from j on
module _ {M : Type 1} {𝓤 : Ura M} {𝓛 : Logic 𝓤} {K : Type 0} {E : Env 𝓤 𝓛.H} where
  open 𝓛 use {H}

  reads_one : K → (l : ℕ) (k : Kind) (ks : List Kind) (i : ℕ) (bs : Blocks (k ∷ ks)) (m : Data (k ∷ ks)) → Has 𝓤 H E i l (k ∷ ks) bs → (Γ : List (Item 𝓤)) {vs : List Val}
      → Opds K 𝓛 (Cells (next k l) ks bs.1 m.1 ∷ cell k l bs.0 m.0 ∷ dies k l bs.0 ∷ Γ) E (opds (suc i) ks) vs
      → Opds K 𝓛 (Cells l (k ∷ ks) bs m ∷ Γ) E (opds i (k ∷ ks)) (val k m.0 ∷ vs)
  reads_one t l k ks i bs m h Γ o =
      let c : Item 𝓤 = cell k l bs.0 m.0 in
      let d : Item 𝓤 = dies k l bs.0 in
      let rest : Item 𝓤 = Cells (next k l) ks bs.1 m.1 in
      reads_from {Δ = rest ∷ c ∷ d ∷ Γ} (qed 𝓛 (((c ⊛ d) ⊛ rest) ∷ Γ) ∵ split ! $ split ! $ move ! (2 ∷ []) $ done !)
      (qed 𝓛 (rest ∷ c ∷ d ∷ Γ) ∵ move ! (1 ∷ 2 ∷ []) $ join ! $ join ! $ done !)
      (and_then t (load t (at_place t h.0 (stop t)) (look t 1 refl)) o)

  reads_first : K → (l n : ℕ) (κs : Lfts n) (j : ℕ) (ks : List Kind) (i : ℕ) (bs : Blocks ks) (m : Data ks) → Has 𝓤 H E i l ks bs → (Γ : List (Item 𝓤))
      → Opds K 𝓛 (Cells l ks bs m ∷ Γ) E (opds i ks) (ints n κs j ks (write n κs j ks m))
  reads_first t l n κs j [] i bs m h Γ = no_more t
  reads_first t l n κs j (number ∷ ks) i bs m h Γ =
      reads_one t l number ks i bs m h Γ (reads_first t l n κs j ks (suc i) bs.1 m.1 h.1 (cell number l bs.0 m.0 ∷ dies number l bs.0 ∷ Γ))
  reads_first t l n κs j (shared ∷ ks) i bs m h Γ =
      reads_one t l shared ks i bs m h Γ (reads_first t (suc l) n κs (suc j) ks (suc i) bs.1 m.1 h.1 (cell shared l bs.0 m.0 ∷ dies shared l bs.0 ∷ Γ))

  -- entry p of the context has their cells
  pub reads_copied : K → {Γ : List (Item 𝓤)} (p l n : ℕ) (κs : Lfts n) (j : ℕ) (ks : List Kind) (i : ℕ) (bs : Blocks ks) (m : Data ks)
      → nth 𝓛 p Γ ≡ Cells l ks bs m → Has 𝓤 H E i l ks bs → Opds K 𝓛 Γ E (opds i ks) (ints n κs j ks (write n κs j ks m))
  reads_copied t {Γ} p l n κs j ks i bs m e h =
      let c : Item 𝓤 = Cells l ks bs m in
      let rest : List (Item 𝓤) = del 𝓛 p Γ in
      reads_from {Δ = c ∷ rest}
      (via 𝓤 _ (subst (λ (x : Item 𝓤). ent 𝓤 (⋆ 𝓛 Γ) (sep 𝓤 (mean 𝓛 x) (⋆ 𝓛 rest))) e (pull 𝓛 p Γ)) (push 𝓛 c rest))
      (via 𝓤 _ (pop 𝓛 c rest) (subst (λ (x : Item 𝓤). ent 𝓤 (sep 𝓤 (mean 𝓛 x) (⋆ 𝓛 rest)) (⋆ 𝓛 Γ)) e (unpull 𝓛 p Γ)))
      (reads_first t l n κs j ks i bs m h rest)
