-- Laws of a walk, over those of `OnWay` (machine.proofs.Fields), which is what holds while it goes on.
--     walk_stops, walk_ends    the two ways in which a walk ends
--     refusal_stopped, refusal_last     its refusal, by the way in which it ended
--     walked_block             a walk that nothing refused stands at the block sought
--     not_found, finds_on      a refusal finds nothing; an answer that refuses by another number finds the same
-- Assumes nothing.
use Prim.Native.Nat.{ℕ, ◌+◌, ◌-◌}
use mathlib.Core.Path.{◌≡◌, refl, sym, ◌∙◌}
use mathlib.Core.Logic.{◌≢◌}
use native.Mathlib.Omega.{arith}
use Rattle.std.specs.Prelude.{Result, Ok, Err}
use Rattle.machine.specs.declared.Refusal.{Refusal}
use Rattle.machine.specs.Refusal.{number, refused_by}
use Rattle.machine.specs.Tests.{◌▷◌}
use Rattle.machine.specs.Heap.{Heap}
use Rattle.machine.specs.State.{holder_refusal}
use Rattle.machine.specs.Field.{link_refusal, walk_refusal, field_block}
use Rattle.machine.proofs.Tests.{by_eq}
use Rattle.machine.proofs.Steps.{never}
use Rattle.machine.proofs.Fields.{OnWay, way_off, way_ends}
use Rattle.part_field.specs.declared.Walked.{Walked}
use Rattle.part_field.specs.Walks.{Walks}
use Rattle.part_field.specs.Finds.{Finds}

module _ {h : Heap} {n b left at : ℕ} (i : OnWay h n b left at) where
  pub walk_stops : {x : ℕ} → x ≡ holder_refusal h at ▷ link_refusal at h → x ≢ 0 → Walks h n b (record { block = at; left = left })
  walk_stops e z = record { refusal = i.refusal; block = i.block; here = i.here; stopped = λ l y. z (e ∙ y) }

  pub walk_ends : left ≡ 0 → Walks h n b (record { block = at; left = 0 })
  walk_ends e = record { refusal = rw e at i.refusal; block = rw e at i.block; here = i.here; stopped = λ l. absurd (l refl) }

module _ (h : Heap) {x : Walked} {n b : ℕ} (d : Walks h n b x) where
  on_way : OnWay h n b x.left x.block
  on_way = record { refusal = d.refusal; block = d.block; here = d.here }

  pub refusal_stopped : {e : ℕ} → x.left ≢ 0 → e ≡ holder_refusal h x.block ▷ link_refusal x.block h → e ≡ walk_refusal n b h
  refusal_stopped {e} l f = way_off on_way (x.left - 1) e (omega arith) f (λ z. d.stopped l (sym f ∙ z))

  pub refusal_last : {e : ℕ} → x.left ≡ 0 → e ≡ holder_refusal h x.block → e ≡ walk_refusal n b h
  refusal_last {e} l f = (way_ends on_way e l f).0

  pub walked_block : {e : ℕ} → e ≡ walk_refusal n b h → e ≡ 0 → x.block ≡ field_block n b h
  walked_block {e} f z =
      by_eq x.left 0 (λ l. (way_ends on_way (holder_refusal h x.block) l refl).1)
      (λ l. absurd (d.stopped l (refusal_stopped l refl ∙ sym f ∙ z)))

pub not_found : {e : Refusal} {n b : ℕ} → number e ≡ n → Finds (Err e) n b
not_found q = record { refused = q; found = λ y e. never (cc) }

pub finds_on : {x : Result ℕ Refusal} {n m b : ℕ} → Finds x n b → (refused_by x ≡ n → refused_by x ≡ m) → Finds x m b
finds_on d f = record { refused = f d.refused; found = d.found }
