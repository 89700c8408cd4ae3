-- `part_checks::holder_after` meets its contract: the root, or the test of the block. Assumes nothing.
use mathlib.Core.Path.{refl}
use borrow.Author.Tests.{eq-eqb, ne_eqb}
use Rattle.part_checks.proofs.holder_after.Goals as goal

pub returns-then-b-eq0 : goal.returns-then-b-eq0
returns-then-b-eq0 c = λ ws bs. simp (eq-eqb _ 0 c.if-b-eq0.true)

pub holder_refusal-requires : goal.holder_refusal-requires
holder_refusal-requires c = (c.requires.0, c.requires.1, c.requires.2 c.if-b-eq0.false)

pub returns : goal.returns
returns c = λ ws bs. simp (ne_eqb _ 0 c.if-b-eq0.false) (c.holder_refusal.ensures _ ws bs refl refl refl)
