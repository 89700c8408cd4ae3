-- Laws of the places of an image: what the code that reads an image cites.
--     Frame m j            the counts and the length of the sections j are those of m blocks;     blocks-frame: the test says so
--     colours_are, bytes_are, words_are     where what they hold lies
--     lengths_placed, colour_placed, byte_placed, word_placed     the same, one by one
--     blocks_back          sections so framed are those of the heap that they hold
--     framed_known, framed_blocks     what framed says
--     framed_long          bytes that are framed have room for their registers
--     regs_placed          where the registers but the mark lie
--     lengths_same         buffers of the lengths that M asks for are those that Load asks for
--     encode_framed        the image of a heap that fits is framed
--     framed_image, unframed_image     what is_image says of bytes that are framed, and of others
-- Assumes nothing.
use Prim.Native.Nat.{ℕ, ◌+◌, ◌*◌, ◌≤◌, ◌<◌}
use mathlib.Core.Path.{◌≡◌, refl, sym, ◌∙◌}
use mathlib.Core.Bool.{true, false, ◌&&◌}
use mathlib.Core.List.{List, [], ◌++◌, append-nil}
use native.Mathlib.Omega.{arith}
use lib.Dec.{eqb}
use lib.ListN.{length, get_or, take, drop, length-drop, drop_of_length-le}
use lib.Seq.{length-take-le, drop-drop, drop_at, get_or-take, get_or-drop}
use borrow.Author.Tests.{eqb-true, eq-eqb}
use Rattle.machine.specs.declared.Regs.{Regs}
use Rattle.machine.specs.Heap.{Heap}
use Rattle.machine.specs.Entry.{lengths_fit, heap_fits}
use Rattle.machine.specs.Audit.{passes}
use Rattle.machine.specs.Image.{numbers, singles, regs_of, encode_blocks, encode_with, number, numbers_from, numbers_in, past_numbers, past_singles, colours_in, bytes_in, words_in, heap_in, decode, count_known, is_image, Below}
use Rattle.machine.specs.Frame.{blocks_at, bytes_at, words_at, blocks_length, at, blocks_framed, framed}
use Rattle.machine.specs.Load.{same_lengths}
use Rattle.machine.proofs.Tests.{both_true, both, by_test, clash}
use Rattle.machine.proofs.Fours.{numbers_length, singles_length, numbers_count, singles_count, numbers_back, singles_back, from_length, from_at, drop_below}
use Rattle.machine.proofs.Images.{passes_fits, sizes, by_count, registers_again, count_with, past_with, first_with, blocks_length_lem, image_known, image_encoded, image_passes, encoded_image}

pub record Frame (m : ℕ) (j : List ℕ) : Type 0 where
  pub whole : length j ≡ blocks_length m
  pub colours : number j ≡ m
  pub bytes : at j (bytes_at m) ≡ m
  pub words : at j (words_at m) ≡ 8 * m

module _ {m : ℕ} {j : List ℕ} where
  pub blocks_frame : blocks_framed m j ≡ true → Frame m j
  unfolding blocks_framed
  blocks_frame e =
      let c = eqb (at j (words_at m)) (8 * m) in
      let b = eqb (at j (bytes_at m)) m && c in
      let a = eqb (number j) m && b in
      let p = both_true (eqb (length j) (blocks_length m)) a e in
      let q = both_true (eqb (number j) m) b p.1 in
      let r = both_true (eqb (at j (bytes_at m)) m) c q.1 in
      record {
        whole = eqb-true _ _ p.0;
        colours = eqb-true _ _ q.0;
        bytes = eqb-true _ _ r.0;
        words = eqb-true _ _ r.1;
      }

  module _ (f : Frame m j) where
    past_colours : past_numbers j ≡ drop (bytes_at m) j
    past_colours = rw f.colours refl

    past_bytes : past_singles (drop (bytes_at m) j) ≡ drop (words_at m) j
    past_bytes = rw (f.bytes, drop-drop) refl

    pub colours_are : colours_in j ≡ numbers_from m (drop 4 j)
    unfolding colours_in
    colours_are = rw f.colours refl

    pub bytes_are : bytes_in j ≡ take m (drop (bytes_at m + 4) j)
    unfolding bytes_in
    bytes_are = rw (past_colours, f.bytes, drop-drop) refl

    pub words_are : words_in j ≡ numbers_from (8 * m) (drop (words_at m + 4) j)
    unfolding words_in
    words_are = rw (past_colours, past_bytes, f.words, drop-drop) refl

    pub lengths_placed : (length (words_in j) ≡ 8 * m) × (length (colours_in j) ≡ m) × (length (bytes_in j) ≡ m)
    lengths_placed =
        let n : m ≤ length (drop (bytes_at m + 4) j) = omega (arith, f.whole, length-drop (bytes_at m + 4) j) in
        rw (words_are, colours_are, bytes_are) (from_length _ _, from_length _ _, length-take-le m _ n)

    module _ (k : ℕ) where
      pub colour_placed : k < m → get_or (colours_in j) k 0 ≡ at j (4 + 4 * k)
      colour_placed l = rw (colours_are, from_at m k (drop 4 j) l, drop-drop) refl

      pub byte_placed : k < m → get_or (bytes_in j) k 0 ≡ get_or j (bytes_at m + 4 + k) 0
      byte_placed l = rw (bytes_are, get_or-take m (drop (bytes_at m + 4) j) k 0 l, get_or-drop) refl

      pub word_placed : k < 8 * m → get_or (words_in j) k 0 ≡ at j (words_at m + 4 + 4 * k)
      word_placed l = rw (words_are, from_at (8 * m) k (drop (words_at m + 4) j) l, drop-drop) refl

    module _ (b : Below 256 j) where
      colours_whole : numbers (colours_in j) ++ drop (bytes_at m) j ≡ j
      unfolding colours_in
      colours_whole = rw past_colours at (numbers_back j b (omega (arith, f.whole, f.colours)))

      bytes_whole : singles (bytes_in j) ++ drop (words_at m) j ≡ drop (bytes_at m) j
      unfolding bytes_in
      bytes_whole =
          let k = drop (bytes_at m) j in
          rw (past_colours, ← past_bytes) (singles_back k (drop_below 256 (bytes_at m) j b) (omega (arith, f.whole, f.bytes, length-drop (bytes_at m) j)))

      words_whole : numbers (words_in j) ≡ drop (words_at m) j
      unfolding words_in
      words_whole =
          let l = drop (words_at m) j in
          let n : length l ≤ 4 + 4 * number l = omega (arith, f.whole, f.words, length-drop (words_at m) j) in
          let z : past_numbers l ≡ [] = drop_of_length-le l n in
          rw (past_colours, past_bytes)
          (rw (z, append-nil) at
          (numbers_back l (drop_below 256 (words_at m) j b) (omega (arith, f.whole, f.words, length-drop (words_at m) j))))

      pub blocks_back : (r : Regs) → encode_blocks (heap_in r j) ≡ j
      unfolding encode_blocks
      blocks_back r = rw (words_whole, bytes_whole) colours_whole

module _ (i : List ℕ) where
  module _ (f : framed i ≡ true) where
    framed_parts : (count_known (number i) ≡ true) × (blocks_framed (at i 4) (past_numbers i) ≡ true)
    unfolding framed
    framed_parts = both_true (count_known (number i)) (blocks_framed (at i 4) (past_numbers i)) f

    pub framed_known : count_known (number i) ≡ true
    framed_known = framed_parts.0

    pub framed_blocks : blocks_framed (at i 4) (past_numbers i) ≡ true
    framed_blocks = framed_parts.1

    pub framed_long : blocks_at (number i) ≤ length i
    framed_long = omega (arith, (blocks_frame framed_blocks).whole, length-drop (blocks_at (number i)) i)

    -- the registers, one after another
    pub regs_placed : (decode i).regs
        ≡ record {
          blocks = at i 4;
          pace = at i 8;
          phase = at i 12;
          grey = at i 16;
          free = at i 20;
          count = at i 24;
          position = at i 28;
          root = at i 32;
          cycle = at i 36;
          mark = (decode i).regs.mark;
        }
    unfolding decode numbers_from
    regs_placed =
        by_count
        (λ (n : ℕ).
        regs_of (numbers_from n (drop 4 i))
        ≡ record {
          blocks = at i 4;
          pace = at i 8;
          phase = at i 12;
          grey = at i 16;
          free = at i 20;
          count = at i 24;
          position = at i 28;
          root = at i 32;
          cycle = at i 36;
          mark = (regs_of (numbers_from n (drop 4 i))).mark;
        })
        (number i) framed_known (simp drop-drop) (simp drop-drop)

    encode_decode : Below 256 i → encode_with (number i) (decode i) ≡ i
    unfolding encode_with decode
    encode_decode b =
        let j = past_numbers i in
        let l = framed_long in
        let k = blocks_back (blocks_frame framed_blocks) (drop_below 256 (blocks_at (number i)) i b) (regs_of (numbers_in i)) in
        rw (k, registers_again (number i) (drop 4 i) framed_known) (numbers_back i b l)

    pub framed_image : Below 256 i → passes (decode i) ≡ is_image i
    framed_image b = encoded_image i framed_known (encode_decode b)

    -- Load's test of the lent buffers is the test of lengths for M
    pub lengths_same : (h : Heap) → lengths_fit (at i 4) (length h.words) (length h.colours) (length h.bytes) ≡ same_lengths h (decode i)
    unfolding decode lengths_fit same_lengths
    lengths_same h = let l = lengths_placed (blocks_frame framed_blocks) in rw (l.0, l.1, l.2) refl

module _ (h : Heap) (fit : heap_fits h ≡ true) where
  behind_colours : drop (bytes_at h.regs.blocks) (encode_blocks h) ≡ singles h.bytes ++ numbers h.words
  unfolding encode_blocks
  behind_colours =
      let s = sizes h fit in
      let m = h.regs.blocks in
      drop_at (numbers h.colours) _ (bytes_at m) (rw (numbers_length h.colours, s.colours) refl)

  behind_bytes : drop (words_at h.regs.blocks) (encode_blocks h) ≡ numbers h.words
  behind_bytes =
      let s = sizes h fit in
      let m = h.regs.blocks in
      rw (← drop-drop (4 + m) (bytes_at m) (encode_blocks h), behind_colours)
      (drop_at (singles h.bytes) _ (4 + m) (rw (singles_length h.bytes, s.bytes) refl))

  blocks_framed_lem : blocks_framed h.regs.blocks (encode_blocks h) ≡ true
  unfolding blocks_framed encode_blocks
  blocks_framed_lem =
      let s = sizes h fit in
      let m = h.regs.blocks in
      let j = encode_blocks h in
      let cs : number j ≡ m = numbers_count h.colours _ (omega arith) ∙ s.colours in
      let bs : at j (bytes_at m) ≡ m = rw behind_colours (singles_count h.bytes _ (omega arith) ∙ s.bytes) in
      let ws : at j (words_at m) ≡ 8 * m = rw behind_bytes ((rw append-nil at (numbers_count h.words [] (omega arith))) ∙ s.words) in
      both (eq-eqb _ _ (blocks_length_lem h fit)) (both (eq-eqb _ _ cs) (both (eq-eqb _ _ bs) (eq-eqb _ _ ws)))

  pub encode_framed : (n : ℕ) → count_known n ≡ true → framed (encode_with n h) ≡ true
  unfolding framed
  encode_framed n e =
      let s = sizes h fit in
      rw (past_with h n e, count_with h n e, first_with h n e (omega arith)) (both e blocks_framed_lem)

pub unframed_image : (i : List ℕ) → framed i ≡ false → false ≡ is_image i
unframed_image i e =
    by_test (is_image i)
    (λ t.
    let f = encode_framed (decode i) (passes_fits (decode i) (image_passes i t)) (number i) (image_known i t) in
    clash (rw (image_encoded i t) at f) e)
    (λ t. sym t)
