-- No second outcome fits a contract: two things equal to a third are equal.
--     no_second_outcome        the table of the calls
-- Assumes nothing.
use mathlib.Core.Path.{sym, ◌∙◌, ap}
use mathlib.Core.List.{List}
use Prim.Native.Nat.{ℕ}
use Rattle.machine.specs.Answers.{Given, ReadGiven}
use Rattle.machine.specs.NoSecond.{Only, OnlyRead, OnlyAudit, OnlyLook, NoSecondOutcome}

only : (g : Given) → Only g
only g o p ws xs cs ds bs es e f =
    let q = e ∙ sym f in
    record {
      outcome = ap (λ (x : Given). record { regs = x.heap.regs; answer = x.answer }) q;
      words = ap (λ (x : Given). x.heap.words) q;
      colours = ap (λ (x : Given). x.heap.colours) q;
      bytes = ap (λ (x : Given). x.heap.bytes) q;
    }

only_read : (g : ReadGiven) → OnlyRead g
only_read g a b h k e f =
    let q = e ∙ sym f in
    (ap (λ (x : ReadGiven). x.answer) q, ap (λ (x : ReadGiven). x.heap) q)

only_audit : (g : Given) → OnlyAudit g
only_audit g a b h k e f =
    let q = e ∙ sym f in
    (ap (λ (x : Given). x.answer) q, ap (λ (x : Given). x.heap) q)

only_look : (part : List ℕ) (at : ℕ × ℕ) → OnlyLook part at
only_look part at l m p q e f = (e.0 ∙ sym f.0, e.1 ∙ sym f.1)

pub no_second_outcome : NoSecondOutcome
no_second_outcome =
    record {
      of_format = λ m u h. only _;
      of_read = λ b w h. only_read _;
      of_look = λ b h start. only_look _ _;
      of_store_number = λ b w v h. only _;
      of_store_reference = λ b w t h. only _;
      of_set_root = λ t h. only _;
      of_allocate = λ b w h. only _;
      of_allocate_chain = λ b w n h. only _;
      of_read_field = λ b k h. only_read _;
      of_store_field_number = λ b k v h. only _;
      of_store_field_reference = λ b k t h. only _;
      of_work = λ n h. only _;
      of_audit = λ h. only_audit _;
      of_state = λ b h. only_audit _;
      of_load = λ i h. only _;
    }
