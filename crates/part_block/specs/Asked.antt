-- What the audit still asks of a block whose own values it has seen.
--     answered a names     whether the block passes; names says what its references name, told whether white blocks are out
-- Assumes nothing.
use Rattle.std.specs.Prelude.{Bool, true, false}
use Rattle.part_block.specs.declared.Asked.{Asked}
use Rattle.part_block.specs.declared.Asked.TheVariants.{Passes, Fails, Names, NamesStrictly}

unfoldable pub answered : Asked → (Bool → Bool) → Bool
answered Passes names = true
answered Fails names = false
answered Names names = names false
answered NamesStrictly names = names true
