-- `dergamoyne::dergamoyne_version` meets its contract: by computing the definition. Assumes nothing.
use mathlib.Core.Path.{refl}
use Rattle.dergamoyne.specs.Host.{version}
use Rattle.dergamoyne.proofs.dergamoyne_version.Goals as goal

pub returns : goal.returns
unfolding version
returns c = refl
