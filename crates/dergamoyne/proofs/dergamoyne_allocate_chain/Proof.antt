-- `dergamoyne::dergamoyne_allocate_chain` meets its contract: the law of the outer calls, over `call_chain::allocate_chain`. Assumes nothing.
use mathlib.Core.Path.{refl}
use Rattle.machine.specs.Chain.{allocate_chain}
use Rattle.call_chain.proofs.allocate_chain.Symbol as core
use Rattle.call_chain.proofs.allocate_chain.Met as core_thm
use Rattle.theory_lending.proofs.Copied.{numbers}
use Rattle.theory_lending.proofs.Back.{all}
use Rattle.theory_lending.proofs.Outer.{lends}
use Rattle.dergamoyne.specs.contracts.dergamoyne_allocate_chain.Key.{name}
use Rattle.dergamoyne.proofs.dergamoyne_allocate_chain.Statement.{statement}
use Rattle.dergamoyne.proofs.dergamoyne_allocate_chain.Code as code

pub dergamoyne_allocate_chain_spec : {M : Type 1} → statement M
dergamoyne_allocate_chain_spec 𝓤 𝓛 𝓜 𝓡 wired =
    lends (numbers 3) (λ m. allocate_chain m.0 m.1.0 m.1.1.0) (all 3) (λ m h. tt) core.name 𝓛 𝓜 𝓡 𝓡.env name (code.unfolded 𝓤 𝓛.H 𝓜 𝓡 wired)
    (𝓡.env core.name) refl (core_thm.met 𝓤 𝓛 𝓜 𝓡 (code.calls-call_chain::allocate_chain 𝓡.env wired))
