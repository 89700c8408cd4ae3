-- `dergamoyne::dergamoyne_store_field_reference` meets its contract: the law of the outer calls, over `call_field::store_field_reference`. Assumes nothing.
use mathlib.Core.Path.{refl}
use mathlib.Core.List.{[], ◌∷◌}
use Rattle.machine.specs.Field.{store_field_reference}
use Rattle.machine.proofs.Fields.{field_reference_keeps}
use Rattle.call_field.proofs.store_field_reference.Symbol as core
use Rattle.call_field.proofs.store_field_reference.Met as core_thm
use Rattle.theory_lending.proofs.Copied.{numbers}
use Rattle.theory_lending.proofs.Back.{grey, only}
use Rattle.theory_lending.proofs.Outer.{lends}
use Rattle.dergamoyne.specs.contracts.dergamoyne_store_field_reference.Key.{name}
use Rattle.dergamoyne.proofs.dergamoyne_store_field_reference.Statement.{statement}
use Rattle.dergamoyne.proofs.dergamoyne_store_field_reference.Code as code

pub dergamoyne_store_field_reference_spec : {M : Type 1} → statement M
dergamoyne_store_field_reference_spec 𝓤 𝓛 𝓜 𝓡 wired =
    lends (numbers 3) (λ m. store_field_reference m.0 m.1.0 m.1.1.0) (only (grey ∷ []) 3) (λ m h. field_reference_keeps m.1.1.0 h m.0 m.1.0) core.name 𝓛 𝓜 𝓡 𝓡.env name (code.unfolded 𝓤 𝓛.H 𝓜 𝓡 wired)
    (𝓡.env core.name) refl (core_thm.met 𝓤 𝓛 𝓜 𝓡 (code.calls-call_field::store_field_reference 𝓡.env wired))
