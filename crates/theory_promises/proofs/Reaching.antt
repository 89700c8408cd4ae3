-- Reachable in the machine and in its view; free in the machine and in its view.
--     reachable_view, view_reachable     reachable
--     free_view, view_free               free
--     same_word                          a word and its bit that are the same in the view
-- Assumes nothing.
use Prim.Native.Nat.{ℕ, ◌≤◌}
use mathlib.Core.Path.{◌≡◌}
use borrow.Author.Tests.{le-leb}
use Rattle.machine.specs.declared.Colour.TheVariants.{Free}
use Rattle.machine.specs.Heap.{Heap}
use Rattle.machine.specs.WellFormed.{Block}
use Rattle.theory_reach.specs.Reaching.{at_root, along}
use Rattle.theory_moves.specs.Heaps.{Reached}
use Rattle.theory_moves.specs.Demand2.{SameCell}
use Rattle.theory_moves.specs.Tints as tints
use Rattle.theory_promises.specs.View.{view, Shape}
use Rattle.theory_promises.specs.Reachable.{Reachable, is_root, is_named, IsFree, SameWord}
use Rattle.theory_promises.proofs.Viewing.{names_ref, ref_names}
use Rattle.theory_promises.proofs.Recolouring.{free_of, of_free}

pub reachable_view : {h : Heap} {b : ℕ} → Reachable h b → Reached (view h) b
reachable_view (is_root e n) = at_root e n
reachable_view {h} (is_named r q n) = along q.word (reachable_view r) (names_ref h q) n

pub view_reachable : {h : Heap} {b : ℕ} → Reached (view h) b → Reachable h b
view_reachable (at_root e n) = is_root e n
view_reachable {h} (along w r e n) = is_named (view_reachable r) (ref_names h w e n) n

pub free_view : {h : Heap} {b : ℕ} → IsFree h b → (view h).tint b ≡ tints.Free
free_view {h} f = free_of {h = h} f

pub view_free : {h : Heap} {b : ℕ} → Shape h → Block h.regs.blocks b → (view h).tint b ≡ tints.Free → IsFree h b
view_free {h} {b} p l e = of_free {h = h} l (p.colours b l) e

pub same_word : {h k : Heap} {b w : ℕ} → w ≤ 7 → SameCell (view h) (view k) b w → SameWord h k b w
same_word {w} l s = record { word = simp (le-leb w 7 l) at s.word; bit = simp (le-leb w 7 l) at s.bit }
