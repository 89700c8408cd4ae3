-- That no second outcome fits a contract.
-- Each public call's contract is one equation: what the result and the buffers at exit make up, `≡` the machine's function at the
-- arguments and the heap at entry. Two outcomes that both fit are then the same.
--     Same                         two outcomes of a call are the same: the result, and every buffer afterwards
--     Only, OnlyRead, OnlyAudit, OnlyLook     no second outcome fits the equation with what is given
--     NoSecondOutcome              none for any call of `Call`, on any arguments and any heap; Save's stands with its code (call_save)
-- Assumes nothing.
use Rattle.std.specs.Prelude.{ℕ, ◌≡◌, List}
use Rattle.machine.specs.declared.Answer.{Answer}
use Rattle.machine.specs.declared.ReadAnswer.{ReadAnswer}
use Rattle.machine.specs.declared.Outcome.{Outcome}
use Rattle.machine.specs.Heap.{Heap}
use Rattle.machine.specs.Answers.{Given, ReadGiven, given}
use Rattle.machine.specs.Format.{format}
use Rattle.machine.specs.Read.{read, look, look_at, moved}
use Rattle.machine.specs.Store.{store_number, store_reference, set_root}
use Rattle.machine.specs.Allocate.{allocate}
use Rattle.machine.specs.Chain.{allocate_chain}
use Rattle.machine.specs.Field.{read_field, store_field_number, store_field_reference}
use Rattle.machine.specs.Work.{work}
use Rattle.machine.specs.Audit.{audit}
use Rattle.machine.specs.Tell.{tell_state}
use Rattle.machine.specs.Load.{load}

-- the same result, and the same words, colours and bytes afterwards
pub record Same (o p : Outcome) (ws xs cs ds bs es : List ℕ) : Type 0 where
  pub outcome : o ≡ p
  pub words : ws ≡ xs
  pub colours : cs ≡ ds
  pub bytes : bs ≡ es

abbrev pub Only : Given → Type 0
Only g =
    (o p : Outcome) (ws xs cs ds bs es : List ℕ) → given o ws cs bs ≡ g → given p xs ds es ≡ g → Same o p ws xs cs ds bs es

-- Read, and Audit and State: the answer, and the heap afterwards
abbrev pub OnlyRead : ReadGiven → Type 0
OnlyRead g = (a b : ReadAnswer) (h k : Heap) → (record { answer = a; heap = h }) ≡ g → (record { answer = b; heap = k }) ≡ g → (a ≡ b) × (h ≡ k)

abbrev pub OnlyAudit : Given → Type 0
OnlyAudit g = (a b : Answer) (h k : Heap) → (record { answer = a; heap = h }) ≡ g → (record { answer = b; heap = k }) ≡ g → (a ≡ b) × (h ≡ k)

-- Look: the words of the part, and where it points
abbrev pub OnlyLook : List ℕ → ℕ × ℕ → Type 0
OnlyLook part at = (l m : List ℕ) (p q : ℕ × ℕ) → (l ≡ part) × (p ≡ at) → (m ≡ part) × (q ≡ at) → (l ≡ m) × (p ≡ q)

pub record NoSecondOutcome : Type 0 where
  pub of_format : (m u : ℕ) (h : Heap) → Only (format m u h)
  pub of_read : (b w : ℕ) (h : Heap) → OnlyRead (read b w h)
  pub of_look : (b : ℕ) (h : Heap) (start : ℕ × ℕ) → OnlyLook (look b h) (moved start (look_at b h))
  pub of_store_number : (b w v : ℕ) (h : Heap) → Only (store_number b w v h)
  pub of_store_reference : (b w t : ℕ) (h : Heap) → Only (store_reference b w t h)
  pub of_set_root : (t : ℕ) (h : Heap) → Only (set_root t h)
  pub of_allocate : (b w : ℕ) (h : Heap) → Only (allocate b w h)
  pub of_allocate_chain : (b w n : ℕ) (h : Heap) → Only (allocate_chain b w n h)
  pub of_read_field : (b k : ℕ) (h : Heap) → OnlyRead (read_field b k h)
  pub of_store_field_number : (b k v : ℕ) (h : Heap) → Only (store_field_number b k v h)
  pub of_store_field_reference : (b k t : ℕ) (h : Heap) → Only (store_field_reference b k t h)
  pub of_work : (n : ℕ) (h : Heap) → Only (work n h)
  pub of_audit : (h : Heap) → OnlyAudit (audit h)
  pub of_state : (b : ℕ) (h : Heap) → OnlyAudit (tell_state b h)
  pub of_load : (i : List ℕ) (h : Heap) → Only (load i h)
