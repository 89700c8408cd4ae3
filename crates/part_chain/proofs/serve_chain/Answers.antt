-- `part_chain::serve_chain` meets its contract: what is laid already and what is left are the whole. Assumes nothing.
use Prim.Native.Nat.{◌+◌, ◌-◌}
use mathlib.Core.Path.{◌≡◌, refl, sym, ◌∙◌}
use native.Mathlib.Omega.{arith}
use Rattle.machine.proofs.Blocks.{block_as}
use Rattle.part_chain.proofs.Laying.{laid_take, laid_put, laid_on, lay_on, lay_end, laid_start, laid}
use borrow.Author.Rules.{rules}
use Rattle.part_chain.proofs.serve_chain.Goals as goal

pub hold-s-requires : goal.hold-s-requires
hold-s-requires c =
    (rw c.requires.0.bytes c.requires.0.words, λ z. (block_as c.requires.0.bytes (c.requires.1 z).0, (c.requires.1 z).1))

pub loop-init : goal.loop-init
loop-init c =
    (omega arith, laid_start _ _ _ _ _ c.requires.0 c.requires.1 c.requires.3 (omega arith) (c.hold-s.ensures _), refl, refl, refl, refl)

pub take-s-requires : goal.take-s-requires
take-s-requires c = laid_take c.loop.invariant.1

pub put_reference-requires : goal.put_reference-requires
put_reference-requires c =
    let t = laid_put c.loop.invariant.1 in
    (c.take-s.auto.words ∙ t.0, t.1, t.2)

pub loop-preserved : goal.loop-preserved
loop-preserved c =
    let l : c.args.n - c.loop.counter ≡ c.args.n - (c.loop.counter + 1) + 1 = (let z = c.loop-test.true in omega arith) in (
      omega arith,
      laid_on c.loop.invariant.1 _ l (c.take-s.ensures _) (c.put_reference.ensures _ _),
      c.loop.invariant.2 ∙ lay_on _ _ (c.take-s.ensures _) _ l (c.put_reference.ensures _ _),
      search rules,
      search rules,
      search rules,
    )

pub take-s-requires-2 : goal.take-s-requires-2
take-s-requires-2 c = laid_take c.loop.invariant.1

pub put_reference-requires-2 : goal.put_reference-requires-2
put_reference-requires-2 c =
    let t = laid_put c.loop.invariant.1 in
    (c.take-s-2.auto.words ∙ t.0, t.1, t.2)

pub returns : goal.returns
returns c =
    (lay_end _ _ (c.take-s-2.ensures _) (omega arith) (c.put_reference-2.ensures _ _) ∙ sym c.loop.invariant.2
    ∙ laid _ _ _ _ _ c.requires.0 c.requires.1 c.requires.3 (omega arith) (c.hold-s.ensures _))
