-- The contracts of the outer calls that change the registers, and of their cores, over a definition S of what the call gives.
--     core_lives, outer_lives      how many lifetimes they have
--     signature, clauses, Outer    the outer call's, to which the record is lent.        core_signature, core_clauses, Core     the core's, which takes it by value
--     ended, core_ended    each with all its lifetimes kept.        stayed     what a walk of the outer call has of its parameters at exit
--     Keeps                S keeps the registers that aren't written back
-- Assumes nothing.
use mathlib.Core.Path.{◌≡◌}
use Prim.Native.Nat.{ℕ, suc}
use mathlib.Core.List.{[], ◌∷◌, List}
use lib.ListN.{length}
use seplogic.Ra.Ura.{Ura}
use base.Logic.{emp}
use types.Logic.{Logic}
use contract.Monad.{fact}
use denote.Builtin.{u8, u32, RefMutOf, SliceRefMutOf}
use denote.Exit.{yes}
use denote.Signature.{Signature, plain}
use denote.Triple.End.{all}
use denote.Triple.Spec.{triple_of}
use denote.Triple.Statement.{Contract}
use denote.Triple.Clauses.{Ended, Clauses, closing}
use denote.Triple.Walked.{Stays, stay_ref, gave_slice}
use Rattle.machine.specs.Heap as B
use Rattle.machine.specs.Answers.{Given as Gives, given}
use Rattle.machine.specs.contracts.Regs as T
use Rattle.machine.specs.contracts.Answer as N
use Rattle.machine.specs.contracts.Outcome as O
use Rattle.theory_lending.proofs.Copied as Copied
use Rattle.theory_lending.proofs.Copied.{Kind, lives, Takes, told, slots, read}
use Rattle.theory_lending.proofs.Back.{Back}

module _ (ks : List Kind) where
  -- how many lifetimes: the record's, the buffers' and those of the further slices
  abbrev pub core_lives : ℕ
  core_lives = suc (suc (suc (lives ks)))

  abbrev pub outer_lives : ℕ
  outer_lives = suc core_lives

  abbrev pub signature : Signature
  signature = record {
    lifetimes = outer_lives;
    outlives = [];
    params = RefMutOf (0 ∷ []) tt (plain (λ _. T.the_row)) (λ _. tt) ∷ SliceRefMutOf (1 ∷ []) tt (plain (λ _. u32)) (λ _. tt)
        ∷ SliceRefMutOf (2 ∷ []) tt (plain (λ _. u32)) (λ _. tt) ∷ SliceRefMutOf (3 ∷ []) tt (plain (λ _. u8)) (λ _. tt) ∷ slots outer_lives 4 ks;
    result = plain (λ _. N.the_row);
  }

  abbrev pub ended : Ended
  ended = record { signature = signature; kept = all yes signature.params }

  abbrev pub core_signature : Signature
  core_signature = record {
    lifetimes = core_lives;
    outlives = [];
    params = plain (λ _. T.the_row) ∷ SliceRefMutOf (0 ∷ []) tt (plain (λ _. u32)) (λ _. tt)
        ∷ SliceRefMutOf (1 ∷ []) tt (plain (λ _. u32)) (λ _. tt) ∷ SliceRefMutOf (2 ∷ []) tt (plain (λ _. u8)) (λ _. tt) ∷ slots core_lives 3 ks;
    result = plain (λ _. O.the_row);
  }

  abbrev pub core_ended : Ended
  core_ended = record { signature = core_signature; kept = all yes core_signature.params }

  module _ (S : Takes ks → B.Heap → Gives) {M : Type 1} (𝓤 : Ura M) where
    abbrev pub clauses : Clauses 𝓤 ended
    clauses κs a = record {
      ghost = Unit {0};
      requires = λ _. emp 𝓤;
      ensures = λ _ x end.
          fact 𝓤 (given (record { regs = end.0.now; answer = x }) end.1.0.now end.1.1.0.now end.1.1.1.0.now
          ≡ S (told ks (read outer_lives κs 4 ks a.1.1.1.1)) (B.heap a.0.now a.1.0.now a.1.1.0.now a.1.1.1.0.now));
    }

    abbrev pub core_clauses : Clauses 𝓤 core_ended
    core_clauses κs a = record {
      ghost = Unit {0};
      requires = λ _. emp 𝓤;
      ensures = λ _ x end.
          fact 𝓤 (given x end.1.0.now end.1.1.0.now end.1.1.1.0.now
          ≡ S (told ks (read core_lives κs 3 ks a.1.1.1.1)) (B.heap a.0 a.1.0.now a.1.1.0.now a.1.1.1.0.now));
    }

    abbrev pub Outer : (𝓛 : Logic 𝓤) → Contract 𝓤
    Outer 𝓛 = triple_of 𝓛 signature (closing 𝓛 ended clauses)

    abbrev pub Core : (𝓛 : Logic 𝓤) → Contract 𝓤
    Core 𝓛 = triple_of 𝓛 core_signature (closing 𝓛 core_ended core_clauses)

  abbrev pub stayed : Stays ended.signature.params ended.kept
  stayed = (
    stay_ref (0 ∷ []) tt (plain (λ _. T.the_row)),
    (
      gave_slice (1 ∷ []) tt (plain (λ _. u32)),
      (gave_slice (2 ∷ []) tt (plain (λ _. u32)), (gave_slice (3 ∷ []) tt (plain (λ _. u8)), Copied.stays outer_lives 4 ks)),
    ),
  )

-- what isn't written back is kept
abbrev pub Keeps : (ks : List Kind) → (Takes ks → B.Heap → Gives) → Back (length ks) → Type 0
Keeps ks S back = (m : Takes ks) (h : B.Heap) → back.Kept h.regs (S m h).heap.regs
