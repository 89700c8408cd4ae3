-- `dergamoyne::dergamoyne_record_size` meets its contract: by computing the definition. Assumes nothing.
use mathlib.Core.Path.{refl}
use Rattle.dergamoyne.specs.Host.{record_size}
use Rattle.dergamoyne.proofs.dergamoyne_record_size.Goals as goal

pub returns : goal.returns
unfolding record_size
returns c = refl
