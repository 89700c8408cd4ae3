-- Laws of images.
--     sizes                the lengths of a heap that fits
--     passes_fits          a heap that the audit accepts fits
--     by_count             what holds of ten registers and of nine holds of each count that an image may have
--     registers_again      so many numbers are the first of the registers that they are read as
--     read_with n h         what is read of the image of h with its first n registers
--     blocks_length_lem, encode_length     how long the sections behind the registers are, and an image
--     count_with, past_with, first_with     its count of registers, what is behind them, and M among them
--     blocks_in            what those sections hold
--     decode_with          what is decoded;     decode-encode: a heap in range is what its image decodes to
--     same_list_lem, list_same     the test of two lists
--     image_known, image_encoded, image_passes      what is_image says;     encoded-image: what it asks
--     below_registers      registers read from numbers in range are in range, where M + 1 is
--     decode_range         what is decoded from bytes is in range, where it fits
-- Assumes nothing.
use Prim.Native.Nat.{ℕ, zero, suc, ◌+◌, ◌*◌, ◌^◌, ◌<◌}
use mathlib.Core.Path.{◌≡◌, refl, sym, ◌∙◌}
use mathlib.Core.Bool.{true, ◌&&◌}
use mathlib.Core.Logic.{inl, inr}
use mathlib.Core.List.{List, [], ◌∷◌, ◌++◌, append-nil}
use native.Mathlib.Omega.{arith}
use lib.Dec.{eqb, leb}
use lib.ListN.{get_or, length, take, drop, length-append}
use borrow.Author.Tests.{leb-true, eqb-true, eq-eqb}
use Rattle.machine.specs.Heap.{Heap, heap}
use Rattle.machine.specs.Entry.{numbers_fit, lengths_fit, fits, heap_fits, entry}
use Rattle.machine.specs.Audit.{passes}
use Rattle.machine.specs.Image.{four, fours_of, numbers, singles, registers_of, register_count, earlier_count, regs_of, encode_blocks, encode_with, encode, number, numbers_from, numbers_in, past_numbers, past_singles, colours_in, bytes_in, words_in, decode, same_list, count_known, is_image, Below, InRange}
use Rattle.machine.specs.Frame.{blocks_length, image_length, Sized, at}
use Rattle.machine.proofs.Tests.{both_true, either_true, both, if_ind, by_eq, clash}
use Rattle.machine.proofs.Entering.{entry_ready, ready_fits}
use Rattle.machine.proofs.Passing.{entry_no}
use Rattle.machine.proofs.Fours.{four_length, fours_length, number_four, numbers_count, numbers_in_lem, past_numbers_lem, singles_in_lem, past_singles_lem, from_below, take_below, drop_below}

pub sizes : (h : Heap) → heap_fits h ≡ true → Sized h
unfolding fits numbers_fit lengths_fit
sizes h f =
    let m = h.regs.blocks in
    let a = both_true (numbers_fit m h.regs.pace) (lengths_fit m (length h.words) (length h.colours) (length h.bytes)) f in
    let n = both_true (leb 1 m) (leb m 16384 && leb h.regs.pace 65535) a.0 in
    let o = both_true (leb m 16384) (leb h.regs.pace 65535) n.1 in
    let p = both_true (eqb (length h.words) (8 * m)) (eqb (length h.colours) m && eqb (length h.bytes) m) a.1 in
    let q = both_true (eqb (length h.colours) m) (eqb (length h.bytes) m) p.1 in
    record {
      most = leb-true _ _ o.0;
      words = eqb-true _ _ p.0;
      colours = eqb-true _ _ q.0;
      bytes = eqb-true _ _ q.1;
    }

pub passes_fits : (h : Heap) → passes h ≡ true → heap_fits h ≡ true
passes_fits h e = by_eq (entry h) 0 (λ z. ready_fits h (entry_ready h z)) (λ n. clash e (sym (entry_no h n)))

pub by_count : (P : ℕ → Type 0) (n : ℕ) → count_known n ≡ true → P register_count → P earlier_count → P n
unfolding count_known
by_count P n e p q =
    elim (either_true (eqb n register_count) (eqb n earlier_count) e) [
      | inl t ↦ rw (eqb-true n register_count t) p
      | inr t ↦ rw (eqb-true n earlier_count t) q
    ]

pub registers_again : (n : ℕ) (i : List ℕ) → count_known n ≡ true → take n (registers_of (regs_of (numbers_from n i))) ≡ numbers_from n i
unfolding numbers_from
registers_again n i e = by_count (λ (k : ℕ). take k (registers_of (regs_of (numbers_from k i))) ≡ numbers_from k i) n e refl refl

-- with ten registers h, with nine h with the mark at M + 1
abbrev pub read_with : ℕ → Heap → Heap
read_with n h = heap (regs_of (take n (registers_of h.regs))) h.words h.colours h.bytes

module _ (h : Heap) where
  module _ (n : ℕ) (e : count_known n ≡ true) where
    abbrev front : List ℕ
    front = take n (registers_of h.regs)

    front_length : length front ≡ n
    front_length = by_count (λ (k : ℕ). length (take k (registers_of h.regs)) ≡ k) n e refl refl

    front_few : length front < 2 ^ 32
    front_few = rw front_length (by_count (λ (k : ℕ). k < 2 ^ 32) n e (omega arith) (omega arith))

    pub count_with : number (encode_with n h) ≡ n
    unfolding encode_with
    count_with = numbers_count front (encode_blocks h) front_few ∙ front_length

    pub past_with : past_numbers (encode_with n h) ≡ encode_blocks h
    unfolding encode_with
    past_with = past_numbers_lem front (encode_blocks h) front_few

    -- M is the first register
    pub first_with : h.regs.blocks < 2 ^ 32 → at (encode_with n h) 4 ≡ h.regs.blocks
    unfolding encode_with fours_of four
    first_with l =
        by_count (λ (k : ℕ). at (encode_with k h) 4 ≡ h.regs.blocks) n e
        (number_four h.regs.blocks _ l) (number_four h.regs.blocks _ l)

    numbers_with : Below (2 ^ 32) (registers_of h.regs) → numbers_in (encode_with n h) ≡ front
    unfolding encode_with
    numbers_with r = numbers_in_lem front (encode_blocks h) front_few (take_below (2 ^ 32) n (registers_of h.regs) (omega arith) r)

  module _ (fit : heap_fits h ≡ true) where
    pub blocks_length_lem : length (encode_blocks h) ≡ blocks_length h.regs.blocks
    unfolding encode_blocks
    blocks_length_lem = let s = sizes h fit in simp (length-append, four_length, fours_length) (omega arith)

    pub encode_length : length (encode h) ≡ image_length h.regs.blocks
    unfolding encode_with
    encode_length = let l = blocks_length_lem in simp (length-append, four_length, fours_length) (omega arith)

    pub blocks_in : InRange h
        → (words_in (encode_blocks h) ≡ h.words) × (colours_in (encode_blocks h) ≡ h.colours) × (bytes_in (encode_blocks h) ≡ h.bytes)
    unfolding encode_blocks words_in colours_in bytes_in
    blocks_in r =
        let s = sizes h fit in
        let ws = numbers h.words in
        let c : length h.colours < 2 ^ 32 = omega arith in
        let b : length h.bytes < 2 ^ 32 = omega arith in
        let w : length h.words < 2 ^ 32 = omega arith in
        let past = past_numbers_lem h.colours (singles h.bytes ++ ws) c in
        rw (past, past_singles_lem h.bytes ws b) (
          rw append-nil at (numbers_in_lem h.words [] w r.words),
          numbers_in_lem h.colours (singles h.bytes ++ ws) c r.colours,
          singles_in_lem h.bytes ws b,
        )

    pub decode_with : (n : ℕ) → count_known n ≡ true → InRange h → decode (encode_with n h) ≡ read_with n h
    unfolding decode
    decode_with n e r =
        let b = blocks_in r in
        rw (past_with n e, numbers_with n e r.registers, b.0, b.1, b.2) refl

    pub decode_encode : InRange h → decode (encode h) ≡ h
    unfolding count_known
    decode_encode r = decode_with register_count refl r

pub same_list_lem : (xs ys : List ℕ) → same_list xs ys ≡ true → xs ≡ ys
unfolding same_list
same_list_lem [] [] e = refl
same_list_lem [] (y ∷ ys) e = clash e refl
same_list_lem (x ∷ xs) [] e = clash e refl
same_list_lem (x ∷ xs) (y ∷ ys) e =
    let p = both_true (eqb x y) (same_list xs ys) e in
    rw (eqb-true x y p.0, same_list_lem xs ys p.1) refl

pub list_same : (xs : List ℕ) → same_list xs xs ≡ true
unfolding same_list
list_same [] = refl
list_same (x ∷ xs) = both (eq-eqb x x refl) (list_same xs)

module _ (i : List ℕ) where
  module _ (e : is_image i ≡ true) where
    image_parts : (count_known (number i) ≡ true) × (same_list (encode_with (number i) (decode i)) i ≡ true) × (passes (decode i) ≡ true)
    unfolding is_image
    image_parts =
        let s = same_list (encode_with (number i) (decode i)) i in
        let p = both_true (count_known (number i)) (s && passes (decode i)) e in
        let q = both_true s (passes (decode i)) p.1 in
        (p.0, q.0, q.1)

    pub image_known : count_known (number i) ≡ true
    image_known = image_parts.0

    pub image_encoded : encode_with (number i) (decode i) ≡ i
    image_encoded = same_list_lem (encode_with (number i) (decode i)) i image_parts.1

    pub image_passes : passes (decode i) ≡ true
    image_passes = image_parts.2

  pub encoded_image : count_known (number i) ≡ true → encode_with (number i) (decode i) ≡ i → passes (decode i) ≡ is_image i
  unfolding is_image
  encoded_image c e = simp (c, e, list_same i)

pub below_registers : (m : ℕ) (xs : List ℕ) → 0 < m → Below m xs → get_or xs 0 0 + 1 < m → Below m (registers_of (regs_of xs))
below_registers m xs z b l zero = b 0
below_registers m xs z b l (suc zero) = b 1
below_registers m xs z b l (suc (suc zero)) = b 2
below_registers m xs z b l (suc (suc (suc zero))) = b 3
below_registers m xs z b l (suc (suc (suc (suc zero)))) = b 4
below_registers m xs z b l (suc (suc (suc (suc (suc zero))))) = b 5
below_registers m xs z b l (suc (suc (suc (suc (suc (suc zero)))))) = b 6
below_registers m xs z b l (suc (suc (suc (suc (suc (suc (suc zero))))))) = b 7
below_registers m xs z b l (suc (suc (suc (suc (suc (suc (suc (suc zero)))))))) = b 8
below_registers m xs z b l (suc (suc (suc (suc (suc (suc (suc (suc (suc zero))))))))) =
    if_ind (λ (x : ℕ). x < m) (eqb (length xs) earlier_count) (λ t. l) (λ t. b 9)
below_registers m xs z b l (suc (suc (suc (suc (suc (suc (suc (suc (suc (suc k)))))))))) = z

pub decode_range : (i : List ℕ) → Below 256 i → heap_fits (decode i) ≡ true → InRange (decode i)
unfolding decode words_in colours_in bytes_in
decode_range i b f =
    let j = past_numbers i in
    let k = past_numbers j in
    let l = past_singles k in
    let c = drop_below 256 (4 + 4 * number i) i b in
    let d = drop_below 256 (4 + 4 * number j) j c in
    let e = drop_below 256 (4 + number k) k d in
    let s = (sizes (decode i) f).most in
    record {
      registers = below_registers (2 ^ 32) (numbers_in i) (omega arith) (read i b) (omega arith);
      colours = read j c;
      bytes = take_below 256 (number k) (drop 4 k) (omega arith) (drop_below 256 4 k d);
      words = read l e;
    }
  where
    read : (j : List ℕ) → Below 256 j → Below (2 ^ 32) (numbers_in j)
    read j c = from_below (number j) (drop 4 j) (drop_below 256 4 j c)
