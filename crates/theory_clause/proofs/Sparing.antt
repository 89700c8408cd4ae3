-- Calls that leave a list alone that hangs from word 1 of the root's block 2: allocations in its other words, and units.
--     Elsewhere rows           none of these blocks is block 2
--     _also_                   a pair, to be written in a row
--     Clear rows ys            the acts ys leave the root, these blocks, and the word that holds the list
--     none, take_clear         no acts, and a block taken for another word of block 2
--     spares_rows, spares_word a call with such acts touches neither the root nor the blocks, nor the word
--     busy_untouched, busy_leaves     so does the session `busy`
-- Assumes nothing.
use Prim.Native.Nat.{ℕ, ◌≤◌}
use mathlib.Core.Path.{◌≡◌, refl, sym}
use mathlib.Core.Logic.{◌≢◌, ⊎_elim}
use mathlib.Core.Bool.{false}
use mathlib.Core.List.{List, [], ◌∷◌, Memᴰ}
use native.Mathlib.Omega.{arith}
use lib.Dec.{eqb}
use Rattle.machine.specs.Tests.{◌▷◌}
use Rattle.machine.specs.Heap.{Heap}
use Rattle.machine.specs.Entry.{entry, holder_place}
use Rattle.machine.specs.Units.{run}
use Rattle.machine.specs.Allocate.{units_due, take_refusal}
use Rattle.machine.specs.Work.{count_refusal}
use Rattle.machine.specs.Session.{Call}
use Rattle.machine.specs.Session.Call.{Allocate, Work}
use Rattle.machine.proofs.Tests.{if_ind, clash}
use Rattle.theory_promises.specs.Deeds.{Act, a_take, Written, RootSet}
use Rattle.theory_promises.specs.Plans.{plan}
use Rattle.theory_promises.specs.Demand2.{TouchesCall, ChangesRoot, Untouched}
use Rattle.theory_clause.specs.Lasting.{Leaves}
use Rattle.theory_clause.specs.Instances.{busy}

infixr 4 ◌also◌
pub ◌also◌ : {A B : Type 0} → A → B → A × B
a also b = (a, b)

abbrev pub Elsewhere : List ℕ → Type 0
Elsewhere rows = (b : ℕ) → Memᴰ b rows → b ≡ 2 → ⊥

pub record Clear (rows : List ℕ) (ys : List Act) : Type 0 where
  pub root : RootSet ys → ⊥
  pub list : (b w : ℕ) → Memᴰ b rows → Written ys b w → ⊥
  pub start : Written ys 2 1 → ⊥

-- a call that touches neither the root nor these blocks
abbrev pub SparesRows : List ℕ → Call → Heap → Type 0
SparesRows rows c h = (ChangesRoot c h → ⊥) × ((b w : ℕ) → Memᴰ b rows → w ≤ 7 → TouchesCall c h b w → ⊥)

pub none : (rows : List ℕ) → Clear rows []
none rows = record { root = λ z. z; list = λ b w i z. z; start = λ z. z }

module _ (rows : List ℕ) (there : Elsewhere rows) where
  pub take_clear : (u : ℕ) → u ≢ 1 → Clear rows (a_take 2 u ∷ [])
  take_clear u n =
      record {
        root = λ z. ⊎_elim (λ y. absurd (omega arith)) (λ y. y) z;
        list = λ b w i z. ⊎_elim (λ y. there b i y.0) (λ y. y) z;
        start = λ z. ⊎_elim (λ y. n (sym y.1)) (λ y. y) z;
      }

-- a call with such acts that makes nothing anew
module _ (rows : List ℕ) (c : Call) (h : Heap) (e : (plan c h).anew ≡ false) (k : Clear rows (plan c h).acts) where
  pub spares_rows : SparesRows rows c h
  spares_rows = (λ x. ⊎_elim (λ z. clash z e) k.root x, λ b w i l x. ⊎_elim (λ z. clash z e) (λ z. k.list b w i z.1) x)

  pub spares_word : TouchesCall c h 2 1 → ⊥
  spares_word x = ⊎_elim (λ z. clash z e) (λ z. k.start z.1) x

module _ (rows : List ℕ) (there : Elsewhere rows) where
  -- an allocation in word 7 of the root's block, and units, on any heap
  module _ (h : Heap) where
    take_acts : Clear rows (plan (Allocate 2 7) h).acts
    unfolding plan
    take_acts =
        if_ind (Clear rows) (eqb (entry h ▷ holder_place h.regs.blocks 2 7) 0)
        (λ t. if_ind (Clear rows) (eqb (take_refusal 2 (run (units_due h.regs) 0 h).heap) 0) (λ s. take_clear rows there 7 (λ z. absurd (omega arith))) (λ s. none rows))
        (λ t. none rows)

    work_acts : Clear rows (plan (Work 30) h).acts
    unfolding plan
    work_acts = if_ind (Clear rows) (eqb (entry h ▷ count_refusal 30) 0) (λ t. none rows) (λ t. none rows)

    take_rows : SparesRows rows (Allocate 2 7) h
    unfolding plan
    take_rows = spares_rows rows (Allocate 2 7) h refl take_acts

    work_rows : SparesRows rows (Work 30) h
    unfolding plan
    work_rows = spares_rows rows (Work 30) h refl work_acts

    take_word : TouchesCall (Allocate 2 7) h 2 1 → ⊥
    unfolding plan
    take_word = spares_word rows (Allocate 2 7) h refl take_acts

    work_word : TouchesCall (Work 30) h 2 1 → ⊥
    unfolding plan
    work_word = spares_word rows (Work 30) h refl work_acts

  pub busy_untouched : (h : Heap) → Untouched busy h rows
  busy_untouched h = take_rows _ also take_rows _ also work_rows _ also take_rows _ also take_rows _ also work_rows _ also take_rows _ also tt

  pub busy_leaves : (h : Heap) → Leaves busy h 2 1
  busy_leaves h = take_word _ also take_word _ also work_word _ also take_word _ also take_word _ also work_word _ also take_word _ also tt
