-- What a line of text asks for.
-- Document 01: "lines of a letter and decimal numbers, parted by single spaces: F M U, R b w, N b w v, S b w t, T t, A b w, W n, C for
-- audit." "A number has 1 to 10 digits and fits 32 bits; a line that breaks this, has another letter or another count of numbers, or is
-- over 40 bytes, prints `99 0 0` and does nothing."
--     all_numbers ps        every piece is a number
--     values ps            their values
--     meant l ns           what the letter l and the numbers ns ask for, if anything
--     named first ps       the same of a line's first piece and its later ones
--     command_of text       what a line asks for; None where it breaks the rules
--     NumbersOf ps n ns     what reading the pieces ps finds: the first n of ns are their numbers, or they are no numbers, or more than 3
-- Assumes nothing.
use Rattle.std.specs.Prelude.{ℕ, ◌≡◌, ◌<◌, ◌≤◌, Bool, true, ◌&&◌, List, [], ◌∷◌, Option, Some, None, MatchOption, eqb, leb, length, take, if◌then◌else◌}
use Rattle.text_numbers.specs.Numbers.{piece, later, value, is_number}
use Rattle.text_commands.specs.declared.Command.{Command}
use Rattle.text_commands.specs.declared.Command.TheVariants.{Format, Read, StoreNumber, StoreReference, SetRoot, Allocate, Work, Audit}

-- the letters
abbrev pub A : ℕ
A = 65

abbrev pub C : ℕ
C = 67

abbrev pub F : ℕ
F = 70

abbrev pub N : ℕ
N = 78

abbrev pub R : ℕ
R = 82

abbrev pub S : ℕ
S = 83

abbrev pub T : ℕ
T = 84

abbrev pub W : ℕ
W = 87

unfoldable pub all_numbers : List (List ℕ) → Bool
all_numbers [] = true
all_numbers (p ∷ ps) = is_number p && all_numbers ps

unfoldable pub values : List (List ℕ) → List ℕ
values [] = []
values (p ∷ ps) = value 0 p ∷ values ps

-- "F M U, R b w, N b w v, S b w t, T t, A b w, W n, C for audit"
unfoldable pub meant : ℕ → List ℕ → Option Command
meant l [] = if eqb l C then Some Audit else None
meant l (x ∷ []) = if eqb l T then Some (SetRoot x) else if eqb l W then Some (Work x) else None
meant l (x ∷ y ∷ []) = if eqb l F then Some (Format x y) else if eqb l R then Some (Read x y) else if eqb l A then Some (Allocate x y) else None
meant l (x ∷ y ∷ z ∷ []) = if eqb l N then Some (StoreNumber x y z) else if eqb l S then Some (StoreReference x y z) else None
meant l (x ∷ y ∷ z ∷ t ∷ ns) = None

-- "a letter and decimal numbers, parted by single spaces"
unfoldable pub named : List ℕ → List (List ℕ) → Option Command
named [] ps = None
named (l ∷ []) ps = if all_numbers ps then meant l (values ps) else None
named (l ∷ k ∷ xs) ps = None

-- "or is over 40 bytes"
unfoldable pub command_of : List ℕ → Option Command
command_of text = if leb (length text) 40 then named (piece text) (later text) else None

abbrev pub NumbersOf : List (List ℕ) → Option ℕ → List ℕ → Type 0
NumbersOf ps r ns =
    MatchOption r
    (all_numbers ps ≡ true → 3 < length (values ps))
    (λ n. (n ≤ 3) × (all_numbers ps ≡ true) × (take n ns ≡ values ps))
