-- `part_audit::names::may_name_each` meets its contract: the words passed may hold what they hold, and the test of the others is still to come. Assumes nothing.
use mathlib.Core.Path.{refl, sym, ◌∙◌}
use native.Mathlib.Omega.{arith}
use Rattle.machine.specs.Heap.{colouring}
use Rattle.machine.proofs.Tests.{so}
use Rattle.machine.proofs.LowestBit.{lowest_within, lowest_sub, lowest_less}
use Rattle.machine.proofs.References.{names_on, names_off, names_end}
use Rattle.part_audit.proofs.names.may_name_each.Goals as goal

pub word-requires : goal.word-requires
word-requires g c =
    let l = lowest_within _ _ c.loop-rest.invariant.0 c.loop-rest-test.true refl in
    c.requires _ (omega arith)

pub overflow_sub-rest : goal.overflow_sub-rest
overflow_sub-rest g c = lowest_sub _ _ c.loop-rest.invariant.0 c.loop-rest-test.true refl

pub loop-rest-preserved : goal.loop-rest-preserved
loop-rest-preserved g c =
    let h = g.B.Blocks.held c.args.blocks.now in
    let (f, i) = c.loop-rest.invariant in
    let n = c.loop-rest-test.true in
    let l = lowest_less _ _ f n refl in
    let k = lowest_within _ _ f n refl in (
      omega arith,
      λ part told.
          let w = told _ _ (omega arith) c.word.ensures in
          let p = rw w at (so c.may_name.ensures c.if-not-may_name.false) in
          i part told ∙ names_on h.regs (colouring h) c.args.strict part _ _ f n refl p,
    )

pub returns-then-not-may_name : goal.returns-then-not-may_name
returns-then-not-may_name g c =
    let h = g.B.Blocks.held c.args.blocks.now in
    let (f, i) = c.loop-rest.invariant in
    let n = c.loop-rest-test.true in
    let k = lowest_within _ _ f n refl in
    λ part told.
    let w = told _ _ (omega arith) c.word.ensures in
    let p = rw w at (so c.may_name.ensures c.if-not-may_name.true) in
    sym (i part told ∙ names_off h.regs (colouring h) c.args.strict part _ _ f n refl p)

pub returns : goal.returns
returns g c =
    let h = g.B.Blocks.held c.args.blocks.now in
    λ part told. sym (c.loop-rest.invariant.1 part told ∙ names_end h.regs (colouring h) c.args.strict part _ c.loop-rest-test.false)
