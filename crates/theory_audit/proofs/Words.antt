-- A block's words: which of them are references, and which are 0.
--     part_word                        word w of a block, in its eight words and in the word buffer
--     Word part byte n w x             one of n words from word w on, its bit set, holds x
--     member_word, word_member         the references among n words from word w on are those words whose bits are set
--     names_member, member_names       Names h b x says that x is in references_of h b
--     zero_holds, holds_zero           zero_from n w part is true exactly where the n words from w on are 0
-- Assumes nothing.
use Prim.Native.Nat.{ℕ, zero, suc, ◌+◌, ◌≤◌, ◌<◌}
use mathlib.Core.Path.{◌≡◌, refl, sym, ◌∙◌}
use mathlib.Core.Logic.{⊎_elim}
use mathlib.Core.Bool.{Bool, true, false}
use mathlib.Core.List.Memᴰ
use mathlib.Core.List.{List, ◌∷◌, Memᴰ}
use native.Mathlib.Omega.{arith}
use lib.Dec.{eqb}
use lib.ListN.{get_or, drop}
use lib.Seq.{get_or-take, get_or-drop}
use borrow.Author.Tests.{eqb-true, eq-eqb}
use Rattle.std.specs.Prelude.{if◌then◌else◌}
use Rattle.machine.specs.Block.{base, word_of, byte_of, bit, eight_words, references_from}
use Rattle.machine.specs.Heap.{Heap, references_of}
use Rattle.machine.specs.Audit.{zero_from}
use Rattle.machine.specs.WellFormed.{Names}
use Rattle.machine.proofs.Tests.{both_true, both, by_eq}

pub part_word : (ws : List ℕ) (b w : ℕ) → w ≤ 7 → get_or (eight_words ws b) w 0 ≡ word_of ws b w
unfolding eight_words
part_word ws b w l = get_or-take 8 (drop (base b) ws) w 0 (omega arith) ∙ get_or-drop (base b) ws w 0

pub record Word (part : List ℕ) (byte n w x : ℕ) : Type 0 where
  pub word : ℕ
  pub low : w ≤ word
  pub high : word < w + n
  pub set : bit byte word ≡ true
  pub holds : get_or part word 0 ≡ x

module _ (part : List ℕ) (byte : ℕ) where
  later : (n w x : ℕ) → Word part byte n (w + 1) x → Word part byte (suc n) w x
  later n w x v = record { word = v.word; low = omega arith; high = omega arith; set = v.set; holds = v.holds }

  pub member_word : (n w x : ℕ) → Memᴰ x (references_from n w part byte) → Word part byte n w x
  unfolding references_from
  member_word zero w x i = absurd (Memᴰ.not-nil i)
  member_word (suc n) w x i = go (λ j. later n w x (member_word n (w + 1) x j)) (bit byte w) refl i
    where
      go :
          (Memᴰ x (references_from n (w + 1) part byte) → Word part byte (suc n) w x) → (t : Bool) → bit byte w ≡ t
          → Memᴰ x (if t then get_or part w 0 ∷ references_from n (w + 1) part byte else references_from n (w + 1) part byte)
          → Word part byte (suc n) w x
      go below true s j =
          ⊎_elim (λ e. record { word = w; low = omega arith; high = omega arith; set = s; holds = sym e }) below (Memᴰ.cases_cons j)
      go below false s j = below j

  pub word_member : (n w x : ℕ) → Word part byte n w x → Memᴰ x (references_from n w part byte)
  unfolding references_from
  word_member zero w x v = let z : ⊥ = omega arith in absurd z
  word_member (suc n) w x v =
      by_eq v.word w
      (λ e. rw (rw e at v.set) (Memᴰ.head (sym (rw e at v.holds))))
      (λ e. go (bit byte w)
      (word_member n (w + 1) x (record { word = v.word; low = omega arith; high = omega arith; set = v.set; holds = v.holds })))
    where
      go :
          (t : Bool) → Memᴰ x (references_from n (w + 1) part byte)
          → Memᴰ x (if t then get_or part w 0 ∷ references_from n (w + 1) part byte else references_from n (w + 1) part byte)
      go true i = Memᴰ.tail i
      go false i = i

module _ (h : Heap) (b x : ℕ) where
  pub names_member : Names h b x → Memᴰ x (references_of h b)
  names_member v =
      word_member (eight_words h.words b) (byte_of h.bytes b) 8 0 x
      (record { word = v.word; low = omega arith; high = omega arith; set = v.set; holds = part_word h.words b v.word v.low ∙ v.holds })

  pub member_names : Memᴰ x (references_of h b) → Names h b x
  member_names i =
      let v = member_word (eight_words h.words b) (byte_of h.bytes b) 8 0 x i in
      let l : v.word ≤ 7 = omega arith in
      record { word = v.word; low = l; set = v.set; holds = sym (part_word h.words b v.word l) ∙ v.holds }

module _ (part : List ℕ) where
  pub zero_holds : (n w : ℕ) → zero_from n w part ≡ true → (v : ℕ) → w ≤ v → v < w + n → get_or part v 0 ≡ 0
  unfolding zero_from
  zero_holds zero w e v l g = let z : ⊥ = omega arith in absurd z
  zero_holds (suc n) w e v l g =
      let t = both_true (eqb (get_or part w 0) 0) (zero_from n (w + 1) part) e in
      by_eq v w (λ s. rw s (eqb-true (get_or part w 0) 0 t.0)) (λ s. zero_holds n (w + 1) t.1 v (omega arith) (omega arith))

  pub holds_zero : (n w : ℕ) → ((v : ℕ) → w ≤ v → v < w + n → get_or part v 0 ≡ 0) → zero_from n w part ≡ true
  unfolding zero_from
  holds_zero zero w f = refl
  holds_zero (suc n) w f =
      both (eq-eqb (get_or part w 0) 0 (f w (omega arith) (omega arith))) (holds_zero n (w + 1) (λ v l g. f v (omega arith) (omega arith)))
