-- Laws of Read and Look: one for each way out, and where a readable word, byte and part stand.
--     place_within, index_within, part_within     they stand within the buffers
--     word_reference, word_number     the two ways of read_answer
--     read_refused_lem, read_reference, read_number     the three ways of read
--     look_refused, look_seen     the two ways of look and look_at
-- Assumes nothing.
use Prim.Native.Nat.{ℕ, ◌+◌, ◌-◌, ◌≤◌, ◌<◌}
use mathlib.Core.Path.{◌≡◌, sym, ◌∙◌}
use mathlib.Core.Logic.{◌≢◌}
use mathlib.Core.Bool.{true, false}
use mathlib.Core.List.{[]}
use native.Mathlib.Omega.{arith}
use lib.ListN.{length, take, drop}
use borrow.Author.Tests.{eq-eqb, ne_eqb}
use Rattle.machine.specs.Block.{index, base, place, word_of, byte_of, bit, eight_words}
use Rattle.machine.specs.Heap.{Heap}
use Rattle.machine.specs.Read.{read_refusal, read_answer, read_refused, read, look, look_at, moved}
use Rattle.machine.proofs.Refusals.{Readable}

module _ {h : Heap} {b w : ℕ} (d : Readable h b w) where
  pub place_within : place b w < length h.words
  place_within = omega arith

  pub index_within : index b < length h.bytes
  index_within = omega arith

  pub part_within : base b + 8 ≤ length h.words
  part_within = omega arith

module _ (h : Heap) (b w : ℕ) where
  pub word_reference : bit (byte_of h.bytes b) w ≡ true → (record { refusal = 0; value = word_of h.words b w; units = 0; reference = 1 }) ≡ read_answer b w h
  unfolding read_answer
  word_reference t = simp t

  pub word_number : bit (byte_of h.bytes b) w ≡ false → (record { refusal = 0; value = word_of h.words b w; units = 0; reference = 0 }) ≡ read_answer b w h
  unfolding read_answer
  word_number t = simp t

module _ (h : Heap) (b w n : ℕ) (e : n ≡ read_refusal b w h) where
  pub read_refused_lem : n ≢ 0 → (record { answer = read_refused n; heap = h }) ≡ read b w h
  unfolding read
  read_refused_lem z = simp (ne_eqb (read_refusal b w h) 0 (λ y. z (e ∙ y)), e)

  pub read_reference : n ≡ 0 → bit (byte_of h.bytes b) w ≡ true → (record { answer = record { refusal = 0; value = word_of h.words b w; units = 0; reference = 1 }; heap = h }) ≡ read b w h
  unfolding read read_answer
  read_reference z t = simp (eq-eqb (read_refusal b w h) 0 (sym e ∙ z), t)

  pub read_number : n ≡ 0 → bit (byte_of h.bytes b) w ≡ false → (record { answer = record { refusal = 0; value = word_of h.words b w; units = 0; reference = 0 }; heap = h }) ≡ read b w h
  unfolding read read_answer
  read_number z t = simp (eq-eqb (read_refusal b w h) 0 (sym e ∙ z), t)

module _ (h : Heap) (b n : ℕ) (p : ℕ × ℕ) (e : n ≡ read_refusal b 0 h) where
  pub look_refused : n ≢ 0 → ([] ≡ look b h) × (moved p 0 ≡ moved p (look_at b h))
  unfolding look look_at
  look_refused z = let f = ne_eqb (read_refusal b 0 h) 0 (λ y. z (e ∙ y)) in (simp f, simp f)

  pub look_seen : n ≡ 0 → (take (base b + 8 - base b) (drop (base b) h.words) ≡ look b h) × (moved p (base b) ≡ moved p (look_at b h))
  unfolding look look_at eight_words
  look_seen z =
      let f = eq-eqb (read_refusal b 0 h) 0 (sym e ∙ z) in
      let k : base b + 8 - base b ≡ 8 = omega arith in
      (simp (f, k), simp f)
