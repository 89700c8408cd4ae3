-- `call_size::rounded_up` meets its contract. Assumes nothing.
use native.Mathlib.Omega.{arith}
use mathlib.Core.Path.{◌∙◌}
use borrow.Author.Tests.{ne_eqb}
use Rattle.call_size.proofs.Sizes.{ceiled}
use Rattle.call_size.proofs.rounded_up.Goals as goal

pub returns : goal.returns
returns c =
    let e = rw c.from.ensures at c.div_ceil.ensures in
    simp (ne_eqb _ _ c.if-u-eq0.false) (e ∙ ceiled c.args.n c.args.u (omega arith))
