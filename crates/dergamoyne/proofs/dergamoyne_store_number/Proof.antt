-- `dergamoyne::dergamoyne_store_number` meets its contract: the law of the outer calls, over `call_store::store_number`. Assumes nothing.
use mathlib.Core.Path.{refl}
use Rattle.machine.specs.Store.{store_number}
use Rattle.call_store.proofs.store_number.Symbol as core
use Rattle.call_store.proofs.store_number.Met as core_thm
use Rattle.theory_lending.proofs.Copied.{numbers}
use Rattle.theory_lending.proofs.Back.{nothing}
use Rattle.theory_lending.proofs.Outer.{lends}
use Rattle.dergamoyne.proofs.Keeping.{number_keeps}
use Rattle.dergamoyne.specs.contracts.dergamoyne_store_number.Key.{name}
use Rattle.dergamoyne.proofs.dergamoyne_store_number.Statement.{statement}
use Rattle.dergamoyne.proofs.dergamoyne_store_number.Code as code

pub dergamoyne_store_number_spec : {M : Type 1} → statement M
dergamoyne_store_number_spec 𝓤 𝓛 𝓜 𝓡 wired =
    lends (numbers 3) (λ m. store_number m.0 m.1.0 m.1.1.0) (nothing 3) (λ m h. number_keeps m.0 m.1.0 m.1.1.0 h) core.name 𝓛 𝓜 𝓡 𝓡.env name (code.unfolded 𝓤 𝓛.H 𝓜 𝓡 wired)
    (𝓡.env core.name) refl (core_thm.met 𝓤 𝓛 𝓜 𝓡 (code.calls-call_store::store_number 𝓡.env wired))
