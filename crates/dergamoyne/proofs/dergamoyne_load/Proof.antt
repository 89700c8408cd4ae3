-- `dergamoyne::dergamoyne_load` meets its contract: the law of the outer calls, over `call_load::load`. Assumes nothing.
use mathlib.Core.Path.{refl}
use mathlib.Core.List.{[], ◌∷◌}
use Rattle.machine.specs.Load.{load}
use Rattle.call_load.proofs.load.Symbol as core
use Rattle.call_load.proofs.load.Met as core_thm
use Rattle.theory_lending.proofs.Copied.{shared}
use Rattle.theory_lending.proofs.Back.{all}
use Rattle.theory_lending.proofs.Outer.{lends}
use Rattle.dergamoyne.specs.contracts.dergamoyne_load.Key.{name}
use Rattle.dergamoyne.proofs.dergamoyne_load.Statement.{statement}
use Rattle.dergamoyne.proofs.dergamoyne_load.Code as code

pub dergamoyne_load_spec : {M : Type 1} → statement M
dergamoyne_load_spec 𝓤 𝓛 𝓜 𝓡 wired =
    lends (shared ∷ []) (λ m. load m.0) (all 1) (λ m h. tt) core.name 𝓛 𝓜 𝓡 𝓡.env name (code.unfolded 𝓤 𝓛.H 𝓜 𝓡 wired)
    (𝓡.env core.name) refl (core_thm.met 𝓤 𝓛 𝓜 𝓡 (code.calls-call_load::load 𝓡.env wired))
