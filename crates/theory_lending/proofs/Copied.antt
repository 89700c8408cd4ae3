-- The last parameters of an outer call, which it copies to its core: numbers of 32 bits and shared slices of bytes, for any list of them
-- and in any signature.
--     Kind                 a number, or a shared slice.        numbers k     k numbers
--     lives ks             how many lifetimes they take, one for each slice
--     Data ks              the arguments.        Takes ks, told m     what a definition takes of them: of a slice its list
--     Small m              each fits: 32 bits; room in memory
--     slots n j ks         their places in a signature of n lifetimes, of which theirs are those from j on.        Args ks     the arguments there
--     stays, all_go        what a walk has of each at exit, nothing, and its law.        spells, tells     what each is on entry
--     read a, write m      the arguments of a signature, and back.        read_write     there and back is the same
--     vals a, ints a       their machine values, a list for each and in one list
--     lasts, fits          their last values, of which there are none
--     small                what is known of the arguments on entry
--     moves                what the outer call owns of them is what its core asks for.        had     what is had at exit
-- `all_go`, `moves` and `had` take `Logic`. The rest assumes nothing.
use mathlib.Core.Path.{◌≡◌, refl}
use Prim.Native.Nat.{ℕ, zero, suc, ◌<◌, ◌^◌}
use mathlib.Core.List.{List, [], ◌∷◌}
use lib.ListN.{length}
use seplogic.Ra.Ura.{Ura}
use mir.Syntax.{w32, named}
use mir.Val.{Val}
use base.Logic.{ent, emp, id⊢}
use base.Fml.{Lft, ftrue}
use types.Logic.{Logic, sem}
use contract.Lifetimes.{Lfts}
use types.Kit.{‵, ◌$◌, ◌∵◌, !, qed, use0, use1, move, fsplit, fjoin, done}
use denote.RattleType.{RattleType, Denots, Valss, flat, owns}
use denote.Laws.{Ises, Are, Spells, valss, Tellss}
use denote.Plain.{uint_vals, uint_Tells}
use denote.Builtin.{u8, u32}
use denote.Ref.{Bor}
use denote.Slice.{ShrSlice, Room, shr_slice_vals, shr_slice_Tells}
use denote.Exit.{yes}
use denote.Signature.{Slot, plain, types_at}
use denote.Triple.End.{all, Fins}
use denote.Triple.Walked.{Stays, stay_dropped, fits_of, has_of, AllGo, Goes-dropped}

pub data Kind : Type 0 where
  number : Kind
  shared : Kind

abbrev pub numbers : ℕ → List Kind
numbers zero = []
numbers (suc k) = number ∷ numbers k

abbrev pub lives : List Kind → ℕ
lives [] = zero
lives (number ∷ ks) = lives ks
lives (shared ∷ ks) = suc (lives ks)

abbrev pub Datum : Kind → Type 0
Datum number = ℕ
Datum shared = Bor (List ℕ)

abbrev pub Data : List Kind → Type 0
Data [] = Unit {0}
Data (k ∷ ks) = Datum k × Data ks

abbrev pub Takes : List Kind → Type 0
Takes [] = Unit {0}
Takes (number ∷ ks) = ℕ × Takes ks
Takes (shared ∷ ks) = List ℕ × Takes ks

abbrev pub told : (ks : List Kind) → Data ks → Takes ks
told [] m = tt
told (number ∷ ks) m = (m.0, told ks m.1)
told (shared ∷ ks) m = (m.0.now, told ks m.1)

abbrev pub Fits : (k : Kind) → Datum k → Type 0
Fits number x = x < 2 ^ 32
Fits shared x = Room u8 (length x.now)

abbrev pub Small : (ks : List Kind) → Data ks → Type 0
Small [] m = Unit {0}
Small (k ∷ ks) m = Fits k m.0 × Small ks m.1

-- the lifetime that the next parameter has, if it takes one
abbrev pub next : Kind → ℕ → ℕ
next number j = j
next shared j = suc j

-- the lifetime j of n; none has a number past the last
abbrev pub lifetime : (n j : ℕ) → Lfts n → Lft
lifetime zero j κs = []
lifetime (suc n) zero κs = κs.0
lifetime (suc n) (suc j) κs = lifetime n j κs.1

abbrev pub row : Kind → ℕ → Lft → RattleType
row number j κ = u32
row shared j κ = ShrSlice (named j) κ u8

module _ (n : ℕ) where
  abbrev pub slot : Kind → ℕ → Slot n
  slot k j = plain (λ κs. row k j (lifetime n j κs))

  abbrev pub slots : ℕ → List Kind → List (Slot n)
  slots j [] = []
  slots j (k ∷ ks) = slot k j ∷ slots (next k j) ks

  abbrev pub stays : (j : ℕ) (ks : List Kind) → Stays (slots j ks) (all yes (slots j ks))
  stays j [] = tt
  stays j (k ∷ ks) = (stay_dropped (slot k j) yes, stays (next k j) ks)

  pub all_go : {M : Type 1} {𝓤 : Ura M} (𝓛 : Logic 𝓤) (j : ℕ) (ks : List Kind) → AllGo 𝓛 n (slots j ks) (all yes (slots j ks)) (stays j ks)
  all_go 𝓛 j [] = tt
  all_go 𝓛 j (number ∷ ks) = (Goes-dropped 𝓛 n (slot number j) yes (λ κs x f. refl), all_go 𝓛 j ks)
  all_go 𝓛 j (shared ∷ ks) = (Goes-dropped 𝓛 n (slot shared j) yes (λ κs x f. refl), all_go 𝓛 (suc j) ks)

  module _ (κs : Lfts n) where
    abbrev pub Args : ℕ → List Kind → Type 0
    Args j ks = Denots (types_at (slots j ks) κs)

    abbrev pub read : (j : ℕ) (ks : List Kind) → Args j ks → Data ks
    read j [] a = tt
    read j (number ∷ ks) a = (a.0, read j ks a.1)
    read j (shared ∷ ks) a = (a.0, read (suc j) ks a.1)

    abbrev pub write : (j : ℕ) (ks : List Kind) → Data ks → Args j ks
    write j [] m = tt
    write j (number ∷ ks) m = (m.0, write j ks m.1)
    write j (shared ∷ ks) m = (m.0, write (suc j) ks m.1)

    pub read_write : (j : ℕ) (ks : List Kind) (m : Data ks) → read j ks (write j ks m) ≡ m
    read_write j [] m = refl
    read_write j (number ∷ ks) m = λ i. (m.0, read_write j ks m.1 i)
    read_write j (shared ∷ ks) m = λ i. (m.0, read_write (suc j) ks m.1 i)

    abbrev pub spells : (j : ℕ) (ks : List Kind) → Spells (types_at (slots j ks) κs)
    spells j [] = tt
    spells j (number ∷ ks) = (uint_vals w32, spells j ks)
    spells j (shared ∷ ks) = (shr_slice_vals, spells (suc j) ks)

    abbrev pub tells : (j : ℕ) (ks : List Kind) → Tellss (types_at (slots j ks) κs) (Ises (types_at (slots j ks) κs)) (spells j ks)
    tells j [] = tt
    tells j (number ∷ ks) = (uint_Tells w32, tells j ks)
    tells j (shared ∷ ks) = (shr_slice_Tells (named j) (lifetime n j κs) u8, tells (suc j) ks)

    abbrev pub vals : (j : ℕ) (ks : List Kind) → Args j ks → Valss (types_at (slots j ks) κs)
    vals j ks a = valss (types_at (slots j ks) κs) (spells j ks) a

    abbrev pub ints : (j : ℕ) (ks : List Kind) → Args j ks → List Val
    ints j ks a = flat (types_at (slots j ks) κs) (vals j ks a)

    pub small : (j : ℕ) (ks : List Kind) (a : Args j ks) → Are (types_at (slots j ks) κs) (Ises (types_at (slots j ks) κs)) a (vals j ks a) → Small ks (read j ks a)
    small j [] a are = tt
    small j (number ∷ ks) a are = (are.0.1, small j ks a.1 are.1)
    small j (shared ∷ ks) a are = (are.0.0.1, small (suc j) ks a.1 are.1)

    -- none is lent to be changed, so none has a last value
    abbrev pub lasts : (j : ℕ) (ks : List Kind) (a : Args j ks) → Fins κs (slots j ks) (all yes (slots j ks)) a
    lasts j [] a = tt
    lasts j (number ∷ ks) a = (tt, lasts j ks a.1)
    lasts j (shared ∷ ks) a = (tt, lasts (suc j) ks a.1)

    pub fits : (j : ℕ) (ks : List Kind) (a : Args j ks) → fits_of κs (slots j ks) (all yes (slots j ks)) (stays j ks) a (lasts j ks a)
    fits j [] a = tt
    fits j (number ∷ ks) a = (tt, fits j ks a.1)
    fits j (shared ∷ ks) a = (tt, fits (suc j) ks a.1)

    module _ {M : Type 1} {𝓤 : Ura M} (𝓛 : Logic 𝓤) where
      pub had : (j : ℕ) (ks : List Kind) (a : Args j ks) → ent 𝓤 (emp 𝓤) (sem 𝓛 (has_of κs (slots j ks) (all yes (slots j ks)) (stays j ks) a (lasts j ks a) (vals j ks a)))
      had j [] a = id⊢ 𝓤 (emp 𝓤)
      had j (number ∷ ks) a =
          qed 𝓛 [] ∵ use0 𝓛 (‵ (has_of κs (slots j ks) (all yes (slots j ks)) (stays j ks) a.1 (lasts j ks a.1) (vals j ks a.1))) (had j ks a.1) $
          use0 𝓛 (‵ ftrue) (id⊢ 𝓤 (emp 𝓤)) $ fjoin ! $ done !
      had j (shared ∷ ks) a =
          let i = suc j in
          qed 𝓛 [] ∵ use0 𝓛 (‵ (has_of κs (slots i ks) (all yes (slots i ks)) (stays i ks) a.1 (lasts i ks a.1) (vals i ks a.1))) (had i ks a.1) $
          use0 𝓛 (‵ ftrue) (id⊢ 𝓤 (emp 𝓤)) $ fjoin ! $ done !

-- an outer call has one lifetime before its core's, that of the record
module _ (n : ℕ) (κs : Lfts (suc n)) {M : Type 1} {𝓤 : Ura M} (𝓛 : Logic 𝓤) where
  abbrev handed : (j : ℕ) (ks : List Kind) → Args (suc n) κs (suc j) ks → Args n κs.1 j ks
  handed j ks a = write n κs.1 j ks (read (suc n) κs (suc j) ks a)

  pub moves : (j : ℕ) (ks : List Kind) (a : Args (suc n) κs (suc j) ks)
      → ent 𝓤 (sem 𝓛 (owns (types_at (slots (suc n) (suc j) ks) κs) a (vals (suc n) κs (suc j) ks a)))
      (sem 𝓛 (owns (types_at (slots n j ks) κs.1) (handed j ks a) (vals n κs.1 j ks (handed j ks a))))
  moves j [] a = id⊢ 𝓤 (emp 𝓤)
  moves j (number ∷ ks) a =
      qed 𝓛 (‵ (owns (types_at (slots (suc n) (suc j) (number ∷ ks)) κs) a (vals (suc n) κs (suc j) (number ∷ ks) a)) ∷ []) ∵ fsplit ! $ move ! (1 ∷ []) $
      use1 𝓛 (‵ (owns (types_at (slots n j ks) κs.1) (handed j ks a.1) (vals n κs.1 j ks (handed j ks a.1)))) (moves j ks a.1) $
      move ! (1 ∷ 0 ∷ []) $ fjoin ! $ done !
  moves j (shared ∷ ks) a =
      let i = suc j in
      qed 𝓛 (‵ (owns (types_at (slots (suc n) i (shared ∷ ks)) κs) a (vals (suc n) κs i (shared ∷ ks) a)) ∷ []) ∵ fsplit ! $ move ! (1 ∷ []) $
      use1 𝓛 (‵ (owns (types_at (slots n i ks) κs.1) (handed i ks a.1) (vals n κs.1 i ks (handed i ks a.1)))) (moves i ks a.1) $
      move ! (1 ∷ 0 ∷ []) $ fjoin ! $ done !
