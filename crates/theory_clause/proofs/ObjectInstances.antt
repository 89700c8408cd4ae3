-- The promise for rows that are objects is not hollow: instances on the machine itself.
--     objects_stay             a list of two objects that lasts through garbage and whole cycles
--     object_touched           where a session stores into a row's second block, the export differs
--     object_cut               where it cuts a row's second block off, the export says that it is not complete
-- Assumes nothing.
use Prim.Native.Nat.{ℕ}
use mathlib.Core.Path.{◌≡◌, refl, sym, ◌∙◌, ap, subst}
use mathlib.Core.Logic.{◌≢◌, ⊎_elim}
use mathlib.Core.Bool.{true}
use mathlib.Core.List.Memᴰ
use mathlib.Core.List.{[], ◌∷◌, ◌++◌}
use native.Mathlib.Omega.{arith}
use lib.ListN.{get_or, take}
use Rattle.machine.specs.Block.{word_of, byte_of, bit}
use Rattle.machine.specs.Format.{formatted}
use Rattle.machine.specs.Session.{session, last_of}
use Rattle.machine.specs.Session.Call.{StoreNumber, Allocate}
use Rattle.machine.specs.WellFormed.{Names, WellFormed}
use Rattle.machine.proofs.Computing.{the_machine}
use Rattle.theory_promises.specs.Demand2.{Untouched}
use Rattle.theory_promises.proofs.FreshHeap.{fresh_formed}
use Rattle.theory_promises.proofs.Keeping.{session_formed}
use Rattle.part_rows.specs.Rows.{ExportGiven, complete, followed, with_row, onward, export_from, export_rows}
use Rattle.part_rows.specs.Lists.{here, past, Listed}
use Rattle.call_export_objects.specs.Objects.{fields_from, refusal_from, link_of, object_rows, row_fits, export_objects}
use Rattle.call_export_objects.proofs.Steps.{objects_fit}
use Rattle.theory_clause.specs.Lasting.{blocks_of, SameList, Leaves}
use Rattle.theory_clause.specs.Objects.{objects}
use Rattle.theory_clause.specs.Instances.{buffer, busy}
use Rattle.theory_clause.specs.ObjectInstances.{dusk, fields, ObjectsStay, ObjectTouched, ObjectCut}
use Rattle.theory_clause.proofs.Objects.{export_objects_lasts}
use Rattle.theory_clause.proofs.Sparing.{Elsewhere, busy_untouched, busy_leaves}

formed : WellFormed dusk
formed = session_formed _ (formatted 8 1) (fresh_formed 8 1 (omega arith) (omega arith) (omega arith))

there : Elsewhere (3 ∷ 4 ∷ 5 ∷ 6 ∷ [])
there b i e =
    ⊎_elim (λ p. absurd (omega arith)) (λ i. ⊎_elim (λ p. absurd (omega arith)) (λ i. ⊎_elim (λ p. absurd (omega arith))
    (λ j. let p = Memᴰ.eq_of_singleton j in absurd (omega arith)) (Memᴰ.cases_cons i)) (Memᴰ.cases_cons i)) (Memᴰ.cases_cons i)

-- what the machine computes, once
record Computed : Type 0 where
  listed : Listed (object_rows 8 0 dusk) 3 (3 ∷ 5 ∷ [])
  blocks : blocks_of (objects 8 0) dusk (3 ∷ 5 ∷ []) ≡ 3 ∷ 4 ∷ 5 ∷ 6 ∷ []
  root : dusk.regs.root ≡ 2
  set : bit (byte_of dusk.bytes dusk.regs.root) 1 ≡ true
  holds : word_of dusk.words dusk.regs.root 1 ≡ 3
  free : dusk.regs.count ≡ 3
  given : (last_of (take 6 busy) (Allocate 2 7) dusk).answer.refusal ≡ 0
  cycles : (dusk.regs.cycle ≡ 2) × ((session busy dusk).regs.cycle ≡ 6)
  fit : row_fits 8 0 ≡ true
  before : export_objects 3 8 0 dusk buffer ≡ complete 2 (fields 80)
  stored : (last_of busy (StoreNumber 6 0 99) dusk).answer.refusal ≡ 0
  differs : export_objects 3 8 0 (session (busy ++ StoreNumber 6 0 99 ∷ []) dusk) buffer ≡ complete 2 (fields 99)
  cut : ObjectCut

computed : Computed
unfolding the_machine followed with_row onward export_from export_rows fields_from refusal_from link_of row_fits export_objects
computed =
    record {
      listed =
          past {next = 5} (record { readable = refl; reference = refl; value = refl })
          (past {next = 0} (record { readable = refl; reference = refl; value = refl }) (here refl));
      blocks = refl;
      root = refl;
      set = refl;
      holds = refl;
      free = refl;
      given = refl;
      cycles = (refl, refl);
      fit = refl;
      before = refl;
      stored = refl;
      differs = refl;
      cut = record { answered = refl; after = refl };
    }

holder : Names dusk dusk.regs.root 3
holder = record { word = 1; low = omega arith; set = computed.set; holds = computed.holds }

rooted : dusk.regs.root ≢ 0
rooted e = absurd (omega (arith, computed.root))

untouched : Untouched busy dusk (3 ∷ 4 ∷ 5 ∷ 6 ∷ [])
untouched = busy_untouched (3 ∷ 4 ∷ 5 ∷ 6 ∷ []) there dusk

left : Leaves busy dusk dusk.regs.root 1
left = subst (λ (r : ℕ). Leaves busy dusk r 1) (sym computed.root) (busy_leaves (3 ∷ 4 ∷ 5 ∷ 6 ∷ []) there dusk)

same : SameList (objects 8 0) dusk (session busy dusk) 3 (3 ∷ 5 ∷ [])
unfolding holder
same =
    (export_objects_lasts.lasts 8 0 computed.fit).from_word dusk formed 3 (3 ∷ 5 ∷ []) computed.listed rooted holder busy
    (subst (Untouched busy dusk) (sym computed.blocks) untouched) left

pub objects_stay : ObjectsStay
unfolding holder
objects_stay =
    let fit = computed.fit in
    record {
      formed = formed;
      listed = computed.listed;
      blocks = computed.blocks;
      held = holder;
      rooted = rooted;
      untouched = untouched;
      left = left;
      free = computed.free;
      given = computed.given;
      cycles = computed.cycles;
      before = computed.before;
      lasts = same;
      after = objects_fit _ 3 8 0 buffer fit ∙ same.exported buffer ∙ sym (objects_fit dusk 3 8 0 buffer fit) ∙ computed.before;
    }

last_field : {g h : ExportGiven} → g ≡ complete 2 (fields 99) → h ≡ complete 2 (fields 80) → g ≡ h → ⊥
last_field p q e = let z : ◌≡◌ {A = ℕ} 99 80 = ap (λ (g : ExportGiven). get_or g.out 15 0) (sym p ∙ e ∙ q) in absurd (omega arith)

pub object_touched : ObjectTouched
object_touched = record { answered = computed.stored; after = computed.differs; differs = last_field computed.differs computed.before }

pub object_cut : ObjectCut
object_cut = computed.cut
