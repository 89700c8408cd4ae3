-- A list that hangs from the root and isn't stored to is exported the same, whatever allocations and units came between.
--     Kind                 a kind of rows: its shape on each heap, and the blocks of which a row is made
--     one_block w           rows that are a block each, and go on by link word w
--     blocks_of kind h bs   the blocks of which the rows of bs are made
--     Hangs h s            s is 0 or reachable
--     Spared cs h s bs     no call of the session makes the heap anew or touches a word of the blocks bs; s hangs before each call and at the end
--     SameWords h k bs     the words of these blocks and their reference bits are in k what they are in h
--     SameList kind h k s bs     the list from s is in k what it is in h: its rows' blocks, their words, and what an export gives on any buffer
--     Leaves cs h b w      no call of the session touches word w of b
--     ExportLasts kind     the promise; the list may start at the root, or hang from a word of the root's block
-- "a list that hangs from the root and isn't stored to is exported complete with the same rows, whatever allocations and units came between"
-- Assumes nothing.
use Rattle.std.specs.Prelude.{ℕ, ◌*◌, ◌≤◌, ◌≡◌, ◌≢◌, drop}
use mathlib.Core.List.{List, [], ◌∷◌, ◌++◌, Memᴰ}
use Rattle.machine.specs.Heap.{Heap}
use Rattle.machine.specs.WellFormed.{Names, WellFormed}
use Rattle.machine.specs.Session.{Call, does, session}
use Rattle.theory_promises.specs.Reachable.{Reachable, SameWord}
use Rattle.theory_promises.specs.Plans.{Resets}
use Rattle.theory_promises.specs.Demand2.{TouchesCall, Untouched}
use Rattle.part_rows.specs.Shape.{Shape}
use Rattle.part_rows.specs.Rows.{complete, export_rows}
use Rattle.part_rows.specs.Lists.{Listed, rows_of}
use Rattle.part_rows.specs.Meaning.{Completes}
use Rattle.call_export.specs.Export.{block_rows}

pub record Kind : Type 0 where
  pub shape : Heap → Shape
  -- by the row's first block
  pub blocks : Heap → ℕ → List ℕ

abbrev pub one_block : ℕ → Kind
one_block w = record { shape = block_rows w; blocks = λ h b. b ∷ [] }

abbrev pub blocks_of : Kind → Heap → List ℕ → List ℕ
blocks_of kind h [] = []
blocks_of kind h (b ∷ bs) = kind.blocks h b ++ blocks_of kind h bs

abbrev pub Hangs : Heap → ℕ → Type 0
Hangs h s = s ≢ 0 → Reachable h s

abbrev pub Spared : List Call → Heap → ℕ → List ℕ → Type 0
Spared [] h s bs = Hangs h s
Spared (c ∷ cs) h s bs =
    Hangs h s × (Resets c h → ⊥) × ((b w : ℕ) → Memᴰ b bs → w ≤ 7 → TouchesCall c h b w → ⊥) × Spared cs (does c h).heap s bs

abbrev pub SameWords : Heap → Heap → List ℕ → Type 0
SameWords h k bs = (b v : ℕ) → Memᴰ b bs → v ≤ 7 → SameWord h k b v

pub record SameList (kind : Kind) (h k : Heap) (s : ℕ) (bs : List ℕ) : Type 0 where
  pub listed : Listed (kind.shape k) s bs
  pub blocks : blocks_of kind k bs ≡ blocks_of kind h bs
  pub words : SameWords h k (blocks_of kind h bs)
  pub exported : (out : List ℕ) → export_rows (kind.shape k) s out ≡ export_rows (kind.shape h) s out

abbrev pub Leaves : List Call → Heap → ℕ → ℕ → Type 0
Leaves [] h b w = Unit {0}
Leaves (c ∷ cs) h b w = (TouchesCall c h b w → ⊥) × Leaves cs (does c h).heap b w

pub record ExportLasts (kind : Kind) : Type 0 where
  pub same :
      (h : Heap) → WellFormed h → (s : ℕ) (bs : List ℕ) → Listed (kind.shape h) s bs → (cs : List Call) → Spared cs h s (blocks_of kind h bs)
      → SameList kind h (session cs h) s bs
  -- complete before, and so after, with the rows of before
  pub completes :
      (h : Heap) → WellFormed h → (s n : ℕ) (out : List ℕ) (c : Completes (kind.shape h) s n out) (cs : List Call)
      → Spared cs h s (blocks_of kind h c.blocks)
      → export_rows (kind.shape (session cs h)) s out ≡ complete n (rows_of (kind.shape h) c.blocks ++ drop ((kind.shape h).width * n) out)
  -- the list starts at the root, and no call changes the root
  pub from_root :
      (h : Heap) → WellFormed h → (bs : List ℕ) → Listed (kind.shape h) h.regs.root bs → (cs : List Call) → Untouched cs h (blocks_of kind h bs)
      → SameList kind h (session cs h) h.regs.root bs
  -- a word of the root's block holds the list's start; no call changes the root or touches that word
  pub from_word :
      (h : Heap) → WellFormed h → (s : ℕ) (bs : List ℕ) → Listed (kind.shape h) s bs → h.regs.root ≢ 0 → (n : Names h h.regs.root s)
      → (cs : List Call) → Untouched cs h (blocks_of kind h bs) → Leaves cs h h.regs.root n.word → SameList kind h (session cs h) s bs
