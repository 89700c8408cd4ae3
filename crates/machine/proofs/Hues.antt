-- The tests of a colour, and what they say.
--     tests_white, tests_grey, tests_free     the test is true of that colour alone
-- Assumes nothing.
use mathlib.Core.Path.{◌≡◌, refl}
use mathlib.Core.Bool.{true}
use Rattle.machine.specs.declared.Colour.{Colour}
use Rattle.machine.specs.declared.Colour.TheVariants.{White, Grey, Black, Free, Outside}
use Rattle.machine.specs.Colouring.{white_colour, grey_colour, free_colour}
use Rattle.machine.proofs.Tests.{clash}

pub tests_white : (c : Colour) → white_colour c ≡ true → c ≡ White
tests_white White e = refl
tests_white Grey e = clash e refl
tests_white Black e = clash e refl
tests_white Free e = clash e refl
tests_white Outside e = clash e refl

pub tests_grey : (c : Colour) → grey_colour c ≡ true → c ≡ Grey
tests_grey White e = clash e refl
tests_grey Grey e = refl
tests_grey Black e = clash e refl
tests_grey Free e = clash e refl
tests_grey Outside e = clash e refl

pub tests_free : (c : Colour) → free_colour c ≡ true → c ≡ Free
tests_free White e = clash e refl
tests_free Grey e = clash e refl
tests_free Black e = clash e refl
tests_free Free e = refl
tests_free Outside e = clash e refl
