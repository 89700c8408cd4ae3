-- An image: a heap as bytes.
-- "four sections in a fixed order, each after its count, reference bytes as single bytes and all else as 32-bit numbers, little-endian"
--     four n                   the four bytes of a number, the lowest first
--     numbers xs, singles xs   a section of 32-bit numbers, and one of single bytes
--     registers_of r, regs_of xs     the registers in the order of document 01, then the mark, and the record that has them
--     register_count, earlier_count     how many registers an image has, and how many it may have besides
--     encode h                 the image of the heap h;     encode_with n h   with its first n registers;     encode_blocks h   behind them
--     number i                 the number that the bytes i begin with
--     numbers_in i, singles_in i     what the section at the front of i holds
--     past_numbers i, past_singles i     the bytes behind that section
--     colours_in j, bytes_in j, words_in j     what the sections j behind the registers hold
--     heap_in r j               the heap with the registers r and what those sections hold
--     decode i                 the heap whose image the bytes i would be
--     is_image i                they are the image of a heap that the audit accepts, with nothing after it
--     Below m xs, InRange h    numbers below m; a heap whose numbers are 32-bit numbers and bytes, as in a host's memory
-- Assumes nothing.
use Rattle.std.specs.Prelude.{ℕ, zero, suc, ◌+◌, ◌*◌, ◌/◌, ◌%◌, ◌^◌, ◌<◌, Bool, true, false, ◌&&◌, ◌||◌, List, [], ◌∷◌, ◌++◌, eqb, get_or, length, take, drop, if◌then◌else◌}
use Rattle.machine.specs.declared.Regs.{Regs}
use Rattle.machine.specs.Heap.{Heap, heap}
use Rattle.machine.specs.Audit.{passes}

unfoldable pub four : ℕ → List ℕ
four n = n % 256 ∷ n / 256 % 256 ∷ n / 65536 % 256 ∷ n / 16777216 % 256 ∷ []

unfoldable pub fours_of : List ℕ → List ℕ
fours_of [] = []
fours_of (x ∷ xs) = four x ++ fours_of xs

-- "each after its count"
abbrev pub numbers : List ℕ → List ℕ
numbers xs = four (length xs) ++ fours_of xs

abbrev pub singles : List ℕ → List ℕ
singles xs = four (length xs) ++ xs

-- "registers (count 9, in the order of document 01)"; "Images gain the register as tenth"
abbrev pub registers_of : Regs → List ℕ
registers_of r =
    r.blocks ∷ r.pace ∷ r.phase ∷ r.grey ∷ r.free ∷ r.count ∷ r.position ∷ r.root ∷ r.cycle ∷ r.mark ∷ []

-- how many registers an image has, and how many one had before there was a mark
abbrev pub register_count : ℕ
register_count = 10

abbrev pub earlier_count : ℕ
earlier_count = 9

-- "those with nine are read with the mark at M + 1"
abbrev pub regs_of : List ℕ → Regs
regs_of xs =
    record {
      blocks = get_or xs 0 0;
      pace = get_or xs 1 0;
      phase = get_or xs 2 0;
      grey = get_or xs 3 0;
      free = get_or xs 4 0;
      count = get_or xs 5 0;
      position = get_or xs 6 0;
      root = get_or xs 7 0;
      cycle = get_or xs 8 0;
      mark = if eqb (length xs) earlier_count then get_or xs 0 0 + 1 else get_or xs 9 0;
    }

-- "colours (M), reference bytes (M), words (8M)", behind the registers
unfoldable pub encode_blocks : Heap → List ℕ
encode_blocks h = numbers h.colours ++ (singles h.bytes ++ numbers h.words)

-- the image with the first n registers
unfoldable pub encode_with : ℕ → Heap → List ℕ
encode_with n h = numbers (take n (registers_of h.regs)) ++ encode_blocks h

-- "registers .., colours (M), reference bytes (M), words (8M)"
abbrev pub encode : Heap → List ℕ
encode h = encode_with register_count h

unfoldable pub number : List ℕ → ℕ
number i = get_or i 0 0 + 256 * get_or i 1 0 + 65536 * get_or i 2 0 + 16777216 * get_or i 3 0

unfoldable pub numbers_from : ℕ → List ℕ → List ℕ
numbers_from zero i = []
numbers_from (suc n) i = number i ∷ numbers_from n (drop 4 i)

abbrev pub numbers_in : List ℕ → List ℕ
numbers_in i = numbers_from (number i) (drop 4 i)

abbrev pub singles_in : List ℕ → List ℕ
singles_in i = take (number i) (drop 4 i)

abbrev pub past_numbers : List ℕ → List ℕ
past_numbers i = drop (4 + 4 * number i) i

abbrev pub past_singles : List ℕ → List ℕ
past_singles i = drop (4 + number i) i

-- "colours (M), reference bytes (M), words (8M)"
unfoldable pub colours_in : List ℕ → List ℕ
colours_in j = numbers_in j

unfoldable pub bytes_in : List ℕ → List ℕ
bytes_in j = singles_in (past_numbers j)

unfoldable pub words_in : List ℕ → List ℕ
words_in j = numbers_in (past_singles (past_numbers j))

abbrev pub heap_in : Regs → List ℕ → Heap
heap_in r j = heap r (words_in j) (colours_in j) (bytes_in j)

unfoldable pub decode : List ℕ → Heap
decode i = heap_in (regs_of (numbers_in i)) (past_numbers i)

unfoldable pub same_list : List ℕ → List ℕ → Bool
same_list [] [] = true
same_list [] (y ∷ ys) = false
same_list (x ∷ xs) [] = false
same_list (x ∷ xs) (y ∷ ys) = eqb x y && same_list xs ys

-- "Images gain the register as tenth; those with nine are read"
unfoldable pub count_known : ℕ → Bool
count_known n = eqb n register_count || eqb n earlier_count

-- "reading accepts only such an image with nothing after it"
unfoldable pub is_image : List ℕ → Bool
is_image i = count_known (number i) && (same_list (encode_with (number i) (decode i)) i && passes (decode i))

-- past the end of a list get_or answers 0
abbrev pub Below : ℕ → List ℕ → Type 0
Below m xs = (k : ℕ) → get_or xs k 0 < m

pub record InRange (h : Heap) : Type 0 where
  pub registers : Below (2 ^ 32) (registers_of h.regs)
  pub colours : Below (2 ^ 32) h.colours
  pub bytes : Below 256 h.bytes
  pub words : Below (2 ^ 32) h.words
