-- `part_field::walk` meets its contract: what the whole walk gives is what the rest of it gives. Assumes nothing.
use Prim.Native.Nat.{◌-◌}
use mathlib.Core.Path.{◌≡◌, refl, ap}
use native.Mathlib.Omega.{arith}
use Rattle.machine.specs.Refusal.{refused_by}
use Rattle.machine.proofs.Refusals.{refuses, refused_so}
use Rattle.machine.proofs.Fields.{way_begins, way_on}
use Rattle.part_field.proofs.Walking.{walk_stops, walk_ends}
use Rattle.part_field.proofs.walk.Goals as goal

pub loop-followed-init : goal.loop-followed-init
loop-followed-init c =
    let all : c.args.links - 0 ≡ c.args.links = omega arith in
    let (d, l) = c.requires in (omega arith, rw all (way_begins _ _ _ l))

pub follow_refusal-requires : goal.follow_refusal-requires
follow_refusal-requires c =
    let (d, l) = c.requires in (d, c.loop-followed.invariant.1.here)

pub returns-in_default : goal.returns-in_default
returns-in_default c = walk_stops c.loop-followed.invariant.1 (refused_so c.follow_refusal.ensures c.in_default.is) (refuses _)

pub overflow_sub-at : goal.overflow_sub-at
overflow_sub-at c = c.loop-followed.invariant.1.here.low

pub bounds-words-at : goal.bounds-words-at
bounds-words-at c =
    let (d, l) = c.requires in let i = c.loop-followed.invariant.1.here in omega arith

pub loop-followed-preserved : goal.loop-followed-preserved
loop-followed-preserved c =
    (omega arith, way_on c.loop-followed.invariant.1 _ _ _ (omega arith) c.follow_refusal.ensures (ap refused_by c.in-Ok.is) refl)

pub returns : goal.returns
returns c = walk_ends c.loop-followed.invariant.1 (omega arith)
