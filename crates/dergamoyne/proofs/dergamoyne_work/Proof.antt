-- `dergamoyne::dergamoyne_work` meets its contract: the law of the outer calls, over `call_work::work`. Assumes nothing.
use mathlib.Core.Path.{refl}
use Rattle.machine.specs.Work.{work}
use Rattle.call_work.proofs.work.Symbol as core
use Rattle.call_work.proofs.work.Met as core_thm
use Rattle.theory_lending.proofs.Copied.{numbers}
use Rattle.theory_lending.proofs.Back.{all}
use Rattle.theory_lending.proofs.Outer.{lends}
use Rattle.dergamoyne.specs.contracts.dergamoyne_work.Key.{name}
use Rattle.dergamoyne.proofs.dergamoyne_work.Statement.{statement}
use Rattle.dergamoyne.proofs.dergamoyne_work.Code as code

pub dergamoyne_work_spec : {M : Type 1} → statement M
dergamoyne_work_spec 𝓤 𝓛 𝓜 𝓡 wired =
    lends (numbers 1) (λ m. work m.0) (all 1) (λ m h. tt) core.name 𝓛 𝓜 𝓡 𝓡.env name (code.unfolded 𝓤 𝓛.H 𝓜 𝓡 wired)
    (𝓡.env core.name) refl (core_thm.met 𝓤 𝓛 𝓜 𝓡 (code.calls-call_work::work 𝓡.env wired))
