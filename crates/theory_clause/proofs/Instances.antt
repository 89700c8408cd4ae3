-- The promise is not hollow: instances on the machine itself.
--     lasts                a list of two rows that lasts through garbage and whole cycles
--     unmoved              and through a session of calls that are refused
--     touched              where a session stores into a row, the export differs
--     dropped              where it lets go of the list, the export says that it is not complete
-- Assumes nothing.
use Prim.Native.Nat.{ℕ}
use mathlib.Core.Path.{◌≡◌, refl, sym, ◌∙◌, ap, subst}
use mathlib.Core.Logic.{◌≢◌, ⊎_elim}
use mathlib.Core.Bool.{true}
use mathlib.Core.List.Memᴰ
use mathlib.Core.List.{List, [], ◌∷◌, ◌++◌}
use native.Mathlib.Omega.{arith}
use lib.ListN.{get_or}
use Rattle.machine.specs.Block.{word_of, byte_of, bit}
use Rattle.machine.specs.Format.{formatted}
use Rattle.machine.specs.Session.{Call, session, last_of}
use Rattle.machine.specs.Session.Call.{Format, StoreNumber, StoreReference, SetRoot, Allocate, Work, Load}
use Rattle.machine.specs.WellFormed.{Names, WellFormed}
use Rattle.machine.proofs.Computing.{the_machine}
use Rattle.theory_promises.specs.Plans.{plan}
use Rattle.theory_promises.specs.Demand2.{Untouched}
use Rattle.theory_promises.proofs.FreshHeap.{fresh_formed}
use Rattle.theory_promises.proofs.Keeping.{session_formed}
use Rattle.part_rows.specs.Rows.{ExportGiven, complete, followed, with_row, onward, export_from, export_rows}
use Rattle.part_rows.specs.Lists.{here, past, Listed}
use Rattle.call_export.specs.Export.{block_rows, export}
use Rattle.theory_clause.specs.Lasting.{one_block, SameList, Leaves}
use Rattle.theory_clause.specs.Instances.{night, buffer, rows, busy, Lasts, refused, refusals, Unmoved, Touched, Dropped}
use Rattle.theory_clause.proofs.Lasting.{export_lasts}
use Rattle.theory_clause.proofs.Sparing.{Elsewhere, ◌also◌, none, take_clear, spares_rows, spares_word, busy_untouched, busy_leaves}

formed : WellFormed night
formed = session_formed _ (formatted 6 1) (fresh_formed 6 1 (omega arith) (omega arith) (omega arith))

-- neither of the rows is the root's block
there : Elsewhere (3 ∷ 4 ∷ [])
there b i e = ⊎_elim (λ p. absurd (omega arith)) (λ j. let p = Memᴰ.eq_of_singleton j in absurd (omega arith)) (Memᴰ.cases_cons i)

untouched : Untouched busy night (3 ∷ 4 ∷ [])
untouched = busy_untouched (3 ∷ 4 ∷ []) there night

left : Leaves busy night 2 1
left = busy_leaves (3 ∷ 4 ∷ []) there night

-- what the machine computes, once
record Computed : Type 0 where
  listed : Listed (block_rows 0 night) 3 (3 ∷ 4 ∷ [])
  root : night.regs.root ≡ 2
  set : bit (byte_of night.bytes night.regs.root) 1 ≡ true
  holds : word_of night.words night.regs.root 1 ≡ 3
  free : night.regs.count ≡ 3
  given : (last_of (Allocate 2 7 ∷ Allocate 2 7 ∷ Work 30 ∷ Allocate 2 7 ∷ Allocate 2 7 ∷ Work 30 ∷ []) (Allocate 2 7) night).answer.refusal ≡ 0
  cycles : (night.regs.cycle ≡ 1) × ((session busy night).regs.cycle ≡ 7)
  before : export 3 0 night buffer ≡ complete 2 (rows 88)
  stored : (last_of busy (StoreNumber 4 1 99) night).answer.refusal ≡ 0
  differs : export 3 0 (session (busy ++ StoreNumber 4 1 99 ∷ []) night) buffer ≡ complete 2 (rows 99)
  dropped : Dropped

computed : Computed
unfolding the_machine followed with_row onward export_from export_rows
computed =
    record {
      listed =
          past {next = 4} (record { readable = refl; reference = refl; value = refl })
          (past {next = 0} (record { readable = refl; reference = refl; value = refl }) (here refl));
      root = refl;
      set = refl;
      holds = refl;
      free = refl;
      given = refl;
      cycles = (refl, refl);
      before = refl;
      stored = refl;
      differs = refl;
      dropped = record { answered = refl; after = refl };
    }

holder : Names night night.regs.root 3
holder = record { word = 1; low = omega arith; set = computed.set; holds = computed.holds }

rooted : night.regs.root ≢ 0
rooted e = absurd (omega (arith, computed.root))

-- the root is block 2
left_there : (cs : List Call) → Leaves cs night 2 1 → Leaves cs night night.regs.root 1
left_there cs l = subst (λ (r : ℕ). Leaves cs night r 1) (sym computed.root) l

same : SameList (one_block 0) night (session busy night) 3 (3 ∷ 4 ∷ [])
unfolding holder
same = (export_lasts 0).from_word night formed 3 (3 ∷ 4 ∷ []) computed.listed rooted holder busy untouched (left_there busy left)

pub lasts : Lasts
unfolding holder
lasts =
    record {
      formed = formed;
      listed = computed.listed;
      held = holder;
      rooted = rooted;
      untouched = untouched;
      left = left_there busy left;
      free = computed.free;
      given = computed.given;
      cycles = computed.cycles;
      before = computed.before;
      lasts = same;
      after = same.exported buffer ∙ computed.before;
    }

-- the calls that are refused have no acts
record Spared : Type 0 where
  answers : refusals refused night ≡ 0 ∷ 0 ∷ 0 ∷ 7 ∷ 4 ∷ 4 ∷ 1 ∷ 10 ∷ 0 ∷ []
  untouched : Untouched refused night (3 ∷ 4 ∷ [])
  left : Leaves refused night 2 1

spared : Spared
unfolding the_machine refusals plan
spared =
    let four = take_clear (3 ∷ 4 ∷ []) there 4 (λ z. absurd (omega arith)) in
    let five = take_clear (3 ∷ 4 ∷ []) there 5 (λ z. absurd (omega arith)) in
    let six = take_clear (3 ∷ 4 ∷ []) there 6 (λ z. absurd (omega arith)) in
    record {
      answers = refl;
      untouched =
          spares_rows (3 ∷ 4 ∷ []) (Allocate 2 4) _ refl four also spares_rows (3 ∷ 4 ∷ []) (Allocate 2 5) _ refl five also spares_rows (3 ∷ 4 ∷ []) (Allocate 2 6) _ refl six
          also spares_rows (3 ∷ 4 ∷ []) (Allocate 3 0) _ refl (none (3 ∷ 4 ∷ [])) also spares_rows (3 ∷ 4 ∷ []) (StoreReference 3 0 9) _ refl (none (3 ∷ 4 ∷ [])) also spares_rows (3 ∷ 4 ∷ []) (SetRoot 9) _ refl (none (3 ∷ 4 ∷ []))
          also spares_rows (3 ∷ 4 ∷ []) (Format 0 1) _ refl (none (3 ∷ 4 ∷ [])) also spares_rows (3 ∷ 4 ∷ []) (Load []) _ refl (none (3 ∷ 4 ∷ []))
          also spares_rows (3 ∷ 4 ∷ []) (Work 30) _ refl (none (3 ∷ 4 ∷ [])) also tt;
      left =
          spares_word (3 ∷ 4 ∷ []) (Allocate 2 4) _ refl four also spares_word (3 ∷ 4 ∷ []) (Allocate 2 5) _ refl five also spares_word (3 ∷ 4 ∷ []) (Allocate 2 6) _ refl six
          also spares_word (3 ∷ 4 ∷ []) (Allocate 3 0) _ refl (none (3 ∷ 4 ∷ [])) also spares_word (3 ∷ 4 ∷ []) (StoreReference 3 0 9) _ refl (none (3 ∷ 4 ∷ [])) also spares_word (3 ∷ 4 ∷ []) (SetRoot 9) _ refl (none (3 ∷ 4 ∷ []))
          also spares_word (3 ∷ 4 ∷ []) (Format 0 1) _ refl (none (3 ∷ 4 ∷ [])) also spares_word (3 ∷ 4 ∷ []) (Load []) _ refl (none (3 ∷ 4 ∷ []))
          also spares_word (3 ∷ 4 ∷ []) (Work 30) _ refl (none (3 ∷ 4 ∷ [])) also tt;
    }

pub unmoved : Unmoved
unfolding holder
unmoved =
    record {
      answers = spared.answers;
      untouched = spared.untouched;
      left = left_there refused spared.left;
      lasts = (export_lasts 0).from_word night formed 3 (3 ∷ 4 ∷ []) computed.listed rooted holder refused spared.untouched (left_there refused spared.left);
    }

last_row : {g h : ExportGiven} → g ≡ complete 2 (rows 99) → h ≡ complete 2 (rows 88) → g ≡ h → ⊥
last_row p q e = let z : ◌≡◌ {A = ℕ} 99 88 = ap (λ (g : ExportGiven). get_or g.out 9 0) (sym p ∙ e ∙ q) in absurd (omega arith)

pub touched : Touched
touched = record { answered = computed.stored; after = computed.differs; differs = last_row computed.differs computed.before }

pub dropped : Dropped
dropped = computed.dropped
