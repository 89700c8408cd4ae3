-- Laws of the definition: one for each way out of `follow`, and what its rows are.
--     follow_refused, follow_read     the two ways of follow.     follow_on, follow_number     those of the second
--     follow_zero, follow_leads     a link that leads on is one that Read gives
--     read_zero            a Read that answers 0 is refused nothing
--     row_eight            a row has eight words
--     block_rows_lem           the rows are Sound
-- Assumes nothing.
use Prim.Native.Nat.{ℕ}
use mathlib.Core.Path.{◌≡◌, refl, ◌∙◌}
use mathlib.Core.Logic.{◌≢◌}
use mathlib.Core.Bool.{true, false}
use native.Mathlib.Omega.{arith}
use lib.ListN.{length, length-take, length-drop}
use borrow.Author.Tests.{eq-eqb, ne_eqb}
use Rattle.std.specs.Prelude.{Result, Ok, Err, IsOk}
use Rattle.machine.specs.Block.{word_of, byte_of, bit, eight_words}
use Rattle.machine.specs.Heap.{Heap}
use Rattle.machine.specs.Read.{read_refusal, read_answer, read}
use Rattle.machine.proofs.Tests.{by_eq}
use Rattle.machine.proofs.Steps.{never}
use Rattle.machine.proofs.Refusals.{Readable, readable}
use Rattle.machine.proofs.Reading.{part_within}
use Rattle.part_rows.specs.declared.Reason.{Reason}
use Rattle.part_rows.specs.declared.Reason.TheVariants.{Refused, NoReference}
use Rattle.part_rows.specs.Shape.{Sound}
use Rattle.part_rows.specs.Rows.{followed}
use Rattle.call_export.specs.Export.{block_rows, follow}

module _ (h : Heap) (b w : ℕ) where
  pub follow_refused : (n : ℕ) → n ≡ read_refusal b w h → n ≢ 0 → Err (Refused n) ≡ follow b w h
  unfolding followed read
  follow_refused n e z = let k = ne_eqb (read_refusal b w h) 0 (λ y. z (e ∙ y)) in simp (k, e)

  pub follow_read : read_refusal b w h ≡ 0 → followed (read_answer b w h) ≡ follow b w h
  unfolding read
  follow_read z = simp (eq-eqb (read_refusal b w h) 0 z)

  pub follow_on : read_refusal b w h ≡ 0 → bit (byte_of h.bytes b) w ≡ true → Ok (word_of h.words b w) ≡ follow b w h
  unfolding followed read read_answer
  follow_on z t = simp (eq-eqb (read_refusal b w h) 0 z, t)

  pub follow_number : read_refusal b w h ≡ 0 → bit (byte_of h.bytes b) w ≡ false → Err NoReference ≡ follow b w h
  unfolding followed read read_answer
  follow_number z t = simp (eq-eqb (read_refusal b w h) 0 z, t)

  pub follow_zero : {x : ℕ} → follow b w h ≡ Ok x → read_refusal b w h ≡ 0
  follow_zero {x} e =
      by_eq (read_refusal b w h) 0 (λ z. z)
      (λ z. let f = follow_refused (read_refusal b w h) refl z in absurd (never (cc)))

  -- a row that leads on
  pub follow_leads : IsOk (follow b w h) → Readable h b w
  follow_leads d = go (follow b w h) d refl
    where
      go : (f : Result ℕ Reason) → IsOk f → follow b w h ≡ f → Readable h b w
      go (Ok x) d e = readable h b w (follow_zero e)
      go (Err r) d e = absurd (never (cc))

  pub read_zero : (read b w h).answer.refusal ≡ 0 → read_refusal b w h ≡ 0
  unfolding read
  read_zero e = by_eq (read_refusal b w h) 0 (λ z. z) (λ z. simp (ne_eqb (read_refusal b w h) 0 z) at e)

pub row_eight : {h : Heap} {b w : ℕ} → Readable h b w → length (eight_words h.words b) ≡ 8
unfolding eight_words
row_eight d = let p = part_within d in simp (length-take, length-drop) (omega arith)

pub block_rows_lem : (h : Heap) (w : ℕ) → Sound (block_rows w h)
block_rows_lem h w =
    record {
      wide = λ b e. row_eight (readable h b w (read_zero h b w e));
      some = λ b e z. let d = (readable h b w (read_zero h b w e)).block.low in absurd (omega arith);
    }
