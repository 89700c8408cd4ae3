-- `dergamoyne::dergamoyne_set_root` meets its contract: the law of the outer calls, over `call_store::set_root`. Assumes nothing.
use mathlib.Core.Path.{refl}
use mathlib.Core.List.{[], ◌∷◌}
use Rattle.machine.specs.Store.{set_root}
use Rattle.machine.proofs.Storing.{root_keeps}
use Rattle.call_store.proofs.set_root.Symbol as core
use Rattle.call_store.proofs.set_root.Met as core_thm
use Rattle.theory_lending.proofs.Copied.{numbers}
use Rattle.theory_lending.proofs.Back.{grey, root, only}
use Rattle.theory_lending.proofs.Outer.{lends}
use Rattle.dergamoyne.specs.contracts.dergamoyne_set_root.Key.{name}
use Rattle.dergamoyne.proofs.dergamoyne_set_root.Statement.{statement}
use Rattle.dergamoyne.proofs.dergamoyne_set_root.Code as code

pub dergamoyne_set_root_spec : {M : Type 1} → statement M
dergamoyne_set_root_spec 𝓤 𝓛 𝓜 𝓡 wired =
    lends (numbers 1) (λ m. set_root m.0) (only (grey ∷ root ∷ []) 1) (λ m h. root_keeps m.0 h) core.name 𝓛 𝓜 𝓡 𝓡.env name (code.unfolded 𝓤 𝓛.H 𝓜 𝓡 wired)
    (𝓡.env core.name) refl (core_thm.met 𝓤 𝓛 𝓜 𝓡 (code.calls-call_store::set_root 𝓡.env wired))
