-- Acts in a row: runs of the running program's moves, with no unit among them.
--     acts_live            a live block stays live
--     act_kept             no block is freed
--     acts_cells           a live block's word that none of them writes is as it was
--     acts_begin, acts_mark     none begins a cycle, none marks
--     joined_taken         the blocks that two runs joined take
-- Assumes nothing.
use Prim.Native.Nat.{ℕ, ◌+◌}
use mathlib.Core.Path.{◌≡◌, refl, sym, ◌∙◌}
use mathlib.Core.Logic.{◌≢◌, inl, inr}
use native.Mathlib.Omega.{arith}
use lib.ListN.{length, length-append}
use Rattle.theory_reach.specs.Sums.{Block}
use Rattle.theory_reach.proofs.Splits.{never}
use Rattle.theory_moves.specs.Tints.{Free}
use Rattle.theory_moves.specs.Heaps.{Abs, Live}
use Rattle.theory_moves.specs.Moves.{Move, begin, mark, turn, sweep, write_number, write_ref, set_root, take_held, take_root}
use Rattle.theory_moves.specs.Kinds.{cost}
use Rattle.theory_moves.specs.Runs.{WritesIn, Run, rest, step, joined, units, marks, begins, taken}
use Rattle.theory_moves.specs.Demand2.{SameCell}
use Rattle.theory_moves.proofs.ByKind.{kind_cost}
use Rattle.theory_moves.proofs.Mutating.{Mutation, tinted_kept, tinted_live, number_mutation, ref_mutation, root_mutation, held_mutation, taken_mutation}
use Rattle.theory_moves.proofs.Safety.{cells_kept}

-- a move that is no unit is a Mutation
act_changes : {M : ℕ} {h k : Abs} (m : Move M h k) → cost m ≡ 0 → (n : ℕ) × Mutation M n h k
act_changes (begin m) e = never (sym e)
act_changes (mark b m) e = never (sym e)
act_changes (turn m) e = never (sym e)
act_changes (sweep m) e = never (sym e)
act_changes (write_number b w v m) e = (0, number_mutation b w v m)
act_changes (write_ref b w t m) e = (t, ref_mutation b w t m)
act_changes (set_root t m) e = (t, root_mutation t m)
act_changes (take_held x b w m) e = (x, held_mutation x b w m)
act_changes (take_root x m) e = (x, taken_mutation x m)

module _ {M : ℕ} where
  act_live : {h k : Abs} (m : Move M h k) → cost m ≡ 0 → {b : ℕ} → Live M h b → Live M k b
  act_live m e {b} l = let q = (act_changes m e).1 in tinted_live q.steady (q.tints b l.block) l

  pub acts_live : {h k : Abs} (r : Run M h k) → units r ≡ 0 → {b : ℕ} → Live M h b → Live M k b
  acts_live rest z l = l
  acts_live (step m r) z l = acts_live r (omega arith) (act_live m (omega arith) l)

  pub act_kept : {h k : Abs} (m : Move M h k) → cost m ≡ 0 → {b : ℕ} → Block M b → h.tint b ≢ Free → k.tint b ≢ Free
  act_kept m e {b} l n = tinted_kept ((act_changes m e).1.tints b l) n

  pub acts_cells : {h k : Abs} (r : Run M h k) → units r ≡ 0 → {b : ℕ} → Live M h b → (w : ℕ) → (WritesIn r b w → ⊥) → SameCell h k b w
  acts_cells rest z l w n = record { word = refl; bit = refl }
  acts_cells (step m r) z l w n =
      let p = cells_kept m l w (λ x. n (inl x)) in
      let q = acts_cells r (omega arith) (act_live m (omega arith) l) w (λ x. n (inr x)) in
      record { word = q.word ∙ p.word; bit = q.bit ∙ p.bit }

  pub acts_begin : {h k : Abs} (r : Run M h k) → units r ≡ 0 → begins r ≡ 0
  acts_begin rest z = refl
  acts_begin (step m r) z = omega (arith, kind_cost m, acts_begin r (omega arith))

  pub acts_mark : {h k : Abs} (r : Run M h k) → units r ≡ 0 → marks r ≡ 0
  acts_mark rest z = refl
  acts_mark (step m r) z = omega (arith, kind_cost m, acts_mark r (omega arith))

  pub joined_taken : {h i k : Abs} (r : Run M h i) (s : Run M i k) → length (taken (joined r s)) ≡ length (taken r) + length (taken s)
  joined_taken rest s = omega arith
  joined_taken (step m r) s = simp length-append (omega (arith, joined_taken r s))
