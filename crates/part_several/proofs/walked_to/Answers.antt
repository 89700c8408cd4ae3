-- `part_several::walked_to` meets its contract: the walk so far met blocks that can be taken, and the rest of it is still to come.
-- Assumes nothing.
use borrow.Author.Rules.{rules}
use native.Mathlib.Omega.{arith}
use Prim.Native.Nat.{◌+◌, ◌-◌}
use mathlib.Core.Path.{◌≡◌, refl}
use Rattle.machine.proofs.Tests.{so}
use Rattle.part_several.proofs.Walks.{fits_block, fits_next, walked_on, walked_off, walked_end}
use Rattle.part_several.proofs.walked_to.Goals as goal

pub loop-init : goal.loop-init
loop-init c =
    let all : c.args.n - 0 ≡ c.args.n = omega arith in (omega arith, c.requires.3, λ g. rw all refl)

pub fits_at-requires : goal.fits_at-requires
fits_at-requires c = (c.requires.0, c.requires.1, c.requires.2, c.loop.invariant.1)

pub overflow_cast-a : goal.overflow_cast-a
overflow_cast-a c =
    let k = (fits_block _ _ _ c.loop.invariant.1 (so (c.fits_at.ensures 1) c.if-not-fits_at.false)).0 in search rules

pub overflow_sub-a : goal.overflow_sub-a
overflow_sub-a c =
    let k = (fits_block _ _ _ c.loop.invariant.1 (so (c.fits_at.ensures 1) c.if-not-fits_at.false)).0 in search rules

pub overflow_mul-a : goal.overflow_mul-a
overflow_mul-a c =
    let k = (fits_block _ _ _ c.loop.invariant.1 (so (c.fits_at.ensures 1) c.if-not-fits_at.false)).0 in search rules

pub offset_bounds-words-a : goal.offset_bounds-words-a
offset_bounds-words-a c =
    let k = (fits_block _ _ _ c.loop.invariant.1 (so (c.fits_at.ensures 1) c.if-not-fits_at.false)).0 in search rules

pub bounds-words-a : goal.bounds-words-a
bounds-words-a c =
    let k = (fits_block _ _ _ c.loop.invariant.1 (so (c.fits_at.ensures 1) c.if-not-fits_at.false)).0 in search rules

pub loop-preserved : goal.loop-preserved
loop-preserved c = (
  omega arith,
  fits_next _ _ _ c.loop.invariant.1 (so (c.fits_at.ensures 1) c.if-not-fits_at.false),
  λ g. walked_on _ _ _ _ _ _ (c.loop.invariant.2 g) _ (omega arith) (so (c.fits_at.ensures g) c.if-not-fits_at.false),
)

pub returns-then-not-fits_at : goal.returns-then-not-fits_at
returns-then-not-fits_at c =
    λ g. walked_off _ _ _ _ _ _ (c.loop.invariant.2 g) (c.args.n - (c.loop.counter + 1)) (omega arith) (so (c.fits_at.ensures g) c.if-not-fits_at.true)

pub returns : goal.returns
returns c = λ g. walked_end _ _ _ _ _ _ (c.loop.invariant.2 g) (omega arith)
