-- The blocks of a colour, which the audit counts and walks along.
--     same c d             the colours are the same
--     has_colour k c b     the number b has the colour c, as is_grey k b and is_free k b say it of two of them
-- Assumes nothing.
use Rattle.std.specs.Prelude.{ℕ, Bool, true, false}
use Rattle.machine.specs.declared.Colour.{Colour}
use Rattle.machine.specs.declared.Colour.TheVariants.{White, Grey, Black, Free, Outside}
use Rattle.machine.specs.Colouring.{Colouring, colour_in, white_colour, grey_colour, free_colour}

abbrev pub black_colour : Colour → Bool
black_colour White = false
black_colour Grey = false
black_colour Black = true
black_colour Free = false
black_colour Outside = false

abbrev pub no_colour : Colour → Bool
no_colour White = false
no_colour Grey = false
no_colour Black = false
no_colour Free = false
no_colour Outside = true

abbrev pub same : Colour → Colour → Bool
same White = white_colour
same Grey = grey_colour
same Black = black_colour
same Free = free_colour
same Outside = no_colour

abbrev pub has_colour : Colouring → Colour → ℕ → Bool
has_colour k c b = same c (colour_in k b)
