-- What marking sees of a reference of a block before it writes: whether it is 0 or an allocated block, as document 01 asks, and whether
-- it names a white block, which is to be greyed.
--     seen_colour c             what a reference to a block of colour c is
--     seen k b                 what the reference b is
--     unharmed s               it is 0 or an allocated block
--     Named m bs               each of bs is 0 or a block
-- Assumes nothing.
use Rattle.std.specs.Prelude.{ℕ, ◌≢◌, Bool, true, false, List, [], ◌∷◌, eqb, if◌then◌else◌}
use Rattle.machine.specs.declared.Colour.{Colour}
use Rattle.machine.specs.declared.Colour.TheVariants.{White, Grey, Black, Free, Outside}
use Rattle.machine.specs.declared.Seen.{Seen}
use Rattle.machine.specs.declared.Seen.TheVariants.{Settled, ToGrey, Damaged}
use Rattle.machine.specs.Colouring.{Colouring, colour_in}
use Rattle.machine.specs.WellFormed.{Block}

abbrev pub seen_colour : Colour → Seen
seen_colour White = ToGrey
seen_colour Grey = Settled
seen_colour Black = Settled
seen_colour Free = Damaged
seen_colour Outside = Damaged

unfoldable pub seen : Colouring → ℕ → Seen
seen k b = if eqb b 0 then Settled else seen_colour (colour_in k b)

abbrev pub unharmed : Seen → Bool
unharmed Settled = true
unharmed ToGrey = true
unharmed Damaged = false

abbrev pub Named : ℕ → List ℕ → Type 0
Named m [] = Unit {0}
Named m (b ∷ bs) = (b ≢ 0 → Block m b) × Named m bs
