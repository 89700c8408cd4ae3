-- Laws of the blocks of a colour.
--     coloured_block       what has a colour of the layout is a block
--     byte_as              a test as a number
-- Assumes nothing.
use Prim.Native.Nat.{ℕ}
use mathlib.Core.Path.{◌≡◌, refl}
use mathlib.Core.Logic.{◌≢◌}
use mathlib.Core.Bool.{Bool, true, false}
use mir.Val.{bool_byte}
use Rattle.std.specs.Prelude.{if◌then◌else◌}
use Rattle.machine.specs.declared.Colour.{Colour}
use Rattle.machine.specs.declared.Colour.TheVariants.{White, Grey, Black, Free, Outside}
use Rattle.machine.specs.WellFormed.{Block}
use Rattle.machine.specs.Colouring.{Colouring}
use Rattle.machine.proofs.Tests.{clash}
use Rattle.machine.proofs.Colours.{inside_block}
use Rattle.part_audit.specs.Hues.{same, has_colour}

outside : (c : Colour) → same c Outside ≡ true → c ≡ Outside
outside White e = clash e refl
outside Grey e = clash e refl
outside Black e = clash e refl
outside Free e = clash e refl
outside Outside e = refl

pub coloured_block : (k : Colouring) (c : Colour) (b : ℕ) → c ≢ Outside → has_colour k c b ≡ true → Block k.blocks b
coloured_block k c b n e = inside_block k b (λ o. n (outside c (rw o at e)))

pub byte_as : {x : ℕ} (t : Bool) → x ≡ bool_byte t → x ≡ (if t then 1 else 0)
byte_as true e = e
byte_as false e = e
