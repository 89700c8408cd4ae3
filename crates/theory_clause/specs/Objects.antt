-- Lists whose rows are objects: that an export of them lasts, and what its stopping means.
--     row_blocks j b h      the blocks of the chain from b on, up to the one that j links lead to
--     objects n link       rows that are an object's first n fields, and go on by the reference in field link
--     ObjectsLast          such a list that hangs from the root, and none of whose rows' blocks is stored to, is exported the same
--     TooShort h n         a reachable object of so few blocks that it has fewer than n fields
--     OnlyTooShort         on a well-formed heap an export from 0 or a reachable start, with numbers in range, is refused by 3 alone, at an
--                          object that is too short
-- Assumes nothing.
use Rattle.std.specs.Prelude.{ℕ, zero, suc, ◌-◌, ◌*◌, ◌/◌, ◌<◌, ◌≡◌, true, List, [], ◌∷◌}
use Rattle.machine.specs.Heap.{Heap}
use Rattle.machine.specs.Field.{next_of}
use Rattle.machine.specs.WellFormed.{WellFormed}
use Rattle.machine.specs.Session.{Call, session}
use Rattle.theory_objects.specs.Lengths.{Long}
use Rattle.theory_promises.specs.Reachable.{Reachable}
use Rattle.part_rows.specs.declared.Reason.TheVariants.{Refused}
use Rattle.part_rows.specs.Rows.{off}
use Rattle.part_rows.specs.Lists.{Listed}
use Rattle.call_export_objects.specs.Objects.{object_rows, row_fits, export_objects}
use Rattle.theory_clause.specs.Lasting.{Kind, blocks_of, Hangs, Spared, ExportLasts}

abbrev pub row_blocks : ℕ → ℕ → Heap → List ℕ
row_blocks zero b h = b ∷ []
row_blocks (suc j) b h = b ∷ row_blocks j (next_of h b) h

abbrev pub objects : ℕ → ℕ → Kind
objects n link = record { shape = object_rows n link; blocks = λ h b. row_blocks ((n - 1) / 7) b h }

pub record ObjectsLast : Type 0 where
  pub lasts : (n link : ℕ) → row_fits n link ≡ true → ExportLasts (objects n link)
  pub exported :
      (n link : ℕ) → row_fits n link ≡ true → (h : Heap) → WellFormed h → (s : ℕ) (bs : List ℕ) → Listed (object_rows n link h) s bs → (cs : List Call)
      → Spared cs h s (blocks_of (objects n link) h bs) → (out : List ℕ) → export_objects s n link (session cs h) out ≡ export_objects s n link h out

pub record TooShort (h : Heap) (n : ℕ) : Type 0 where
  pub object : ℕ
  pub blocks : ℕ
  pub reached : Reachable h object
  pub long : Long h object blocks
  pub few : 7 * blocks < n

abbrev pub OnlyTooShort : Type 0
OnlyTooShort =
    (h : Heap) → WellFormed h → (s n link : ℕ) → row_fits n link ≡ true → Hangs h s → (out : List ℕ) (m e : ℕ)
    → (export_objects s n link h out).answer ≡ off m (Refused e) → (e ≡ 3) × TooShort h n
