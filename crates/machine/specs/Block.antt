-- Blocks, their words and their reference bytes.
--     is_block m b           b is a block number
--     index b, base b       where b's colour word and byte stand, and where its words begin
--     place b w             where word w of b stands
--     word_of ws b w         that word
--     eight_words ws b       b's eight words
--     with_eight ws b part   ws with b's eight words replaced
--     byte_of bs b           b's reference byte
--     bit byte w            whether word w holds a reference
--     set_bit, clear_bit, clear_byte     the three ways in which a reference byte is written
--     free_words link        the eight words of a free block
--     references part byte  the list of the references that eight words hold, in the order of the words
-- Assumes nothing.
use Rattle.std.specs.Prelude.{ℕ, zero, suc, ◌+◌, ◌-◌, ◌*◌, ◌/◌, ◌%◌, ◌^◌, Bool, ◌&&◌, List, [], ◌∷◌, ◌++◌, leb, eqb, get_or, set, take, drop, replicate, if◌then◌else◌}

-- "Block numbers run from 2 to M + 1, because 0 means no block and 1 ends the grey list."
unfoldable pub is_block : ℕ → ℕ → Bool
is_block m b = leb 2 b && leb b (m + 1)

-- "words (8M of 32 bits), colours (M of 32 bits), reference bytes (M)"
abbrev pub index : ℕ → ℕ
index b = b - 2

abbrev pub base : ℕ → ℕ
base b = 8 * index b

abbrev pub place : ℕ → ℕ → ℕ
place b w = base b + w

abbrev pub word_of : List ℕ → ℕ → ℕ → ℕ
word_of ws b w = get_or ws (place b w) 0

unfoldable pub eight_words : List ℕ → ℕ → List ℕ
eight_words ws b = take 8 (drop (base b) ws)

unfoldable pub with_eight : List ℕ → ℕ → List ℕ → List ℕ
with_eight ws b part = take (base b) ws ++ (part ++ drop (base b + 8) ws)

-- "A free block has .. its word 0 is the next free block (0 ends), its words 1 to 7 are 0."
abbrev pub free_words : ℕ → List ℕ
free_words link = link ∷ replicate 7 0

abbrev pub byte_of : List ℕ → ℕ → ℕ
byte_of bs b = get_or bs (index b) 0

-- "Bit w of a block's byte, of value 2^w, is set when word w holds a reference."
unfoldable pub bit : ℕ → ℕ → Bool
bit byte w = eqb (byte / 2 ^ w % 2) 1

unfoldable pub with_bit : ℕ → ℕ → ℕ
with_bit byte w = if bit byte w then byte else byte + 2 ^ w

unfoldable pub without_bit : ℕ → ℕ → ℕ
without_bit byte w = if bit byte w then byte - 2 ^ w else byte

abbrev pub set_bit : List ℕ → ℕ → ℕ → List ℕ
set_bit bs b w = set bs (index b) (with_bit (byte_of bs b) w)

abbrev pub clear_bit : List ℕ → ℕ → ℕ → List ℕ
clear_bit bs b w = set bs (index b) (without_bit (byte_of bs b) w)

abbrev pub clear_byte : List ℕ → ℕ → List ℕ
clear_byte bs b = set bs (index b) 0

-- the references among n words from word w on
unfoldable pub references_from : ℕ → ℕ → List ℕ → ℕ → List ℕ
references_from zero w part byte = []
references_from (suc n) w part byte =
    if bit byte w then get_or part w 0 ∷ references_from n (w + 1) part byte else references_from n (w + 1) part byte

abbrev pub references : List ℕ → ℕ → List ℕ
references part byte = references_from 8 0 part byte
