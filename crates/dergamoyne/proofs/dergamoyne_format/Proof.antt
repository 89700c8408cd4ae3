-- `dergamoyne::dergamoyne_format` meets its contract: the law of the outer calls, over `call_format::format`. Assumes nothing.
use mathlib.Core.Path.{refl}
use Rattle.machine.specs.Format.{format}
use Rattle.call_format.proofs.format.Symbol as core
use Rattle.call_format.proofs.format.Met as core_thm
use Rattle.theory_lending.proofs.Copied.{numbers}
use Rattle.theory_lending.proofs.Back.{all}
use Rattle.theory_lending.proofs.Outer.{lends}
use Rattle.dergamoyne.specs.contracts.dergamoyne_format.Key.{name}
use Rattle.dergamoyne.proofs.dergamoyne_format.Statement.{statement}
use Rattle.dergamoyne.proofs.dergamoyne_format.Code as code

pub dergamoyne_format_spec : {M : Type 1} → statement M
dergamoyne_format_spec 𝓤 𝓛 𝓜 𝓡 wired =
    lends (numbers 2) (λ m. format m.0 m.1.0) (all 2) (λ m h. tt) core.name 𝓛 𝓜 𝓡 𝓡.env name (code.unfolded 𝓤 𝓛.H 𝓜 𝓡 wired)
    (𝓡.env core.name) refl (core_thm.met 𝓤 𝓛 𝓜 𝓡 (code.calls-call_format::format 𝓡.env wired))
