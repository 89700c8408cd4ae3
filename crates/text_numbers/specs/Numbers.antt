-- A text parted at its spaces, and which of its pieces are numbers.
-- Document 01: "a letter and decimal numbers, parted by single spaces"; "A number has 1 to 10 digits and fits 32 bits".
--     piece xs             the bytes up to the first space, or to the end
--     later xs             the piece after each space, in order
--     is_digit x            x is a decimal digit
--     all_digits xs         every byte is one
--     value n xs           the number that the digits xs go on to make of n
--     is_number xs          xs is a number
--     number_at text at     what reading a number at a place finds
-- Two spaces in a row have an empty piece between them, and an empty piece is no number.
-- Assumes nothing.
use Rattle.std.specs.Prelude.{ℕ, ◌+◌, ◌-◌, ◌*◌, Bool, true, ◌&&◌, List, [], ◌∷◌, Option, Some, None, eqb, leb, length, drop, if◌then◌else◌}
use Rattle.text_numbers.specs.declared.Number.{Number}

abbrev pub space : ℕ
space = 32

unfoldable pub piece : List ℕ → List ℕ
piece [] = []
piece (x ∷ xs) = if eqb x space then [] else x ∷ piece xs

unfoldable pub later : List ℕ → List (List ℕ)
later [] = []
later (x ∷ xs) = if eqb x space then piece xs ∷ later xs else later xs

unfoldable pub is_digit : ℕ → Bool
is_digit x = leb 48 x && leb x 57

unfoldable pub all_digits : List ℕ → Bool
all_digits [] = true
all_digits (x ∷ xs) = is_digit x && all_digits xs

unfoldable pub value : ℕ → List ℕ → ℕ
value n [] = n
value n (x ∷ xs) = value (10 * n + (x - 48)) xs

-- "A number has 1 to 10 digits and fits 32 bits"
unfoldable pub is_number : List ℕ → Bool
is_number xs = all_digits xs && ((leb 1 (length xs) && leb (length xs) 10) && leb (value 0 xs) 4294967295)

unfoldable pub number_at : List ℕ → ℕ → Option Number
number_at text at =
    if is_number (piece (drop at text))
    then Some (record { value = value 0 (piece (drop at text)); end = record { at = at + length (piece (drop at text)) } })
    else None
