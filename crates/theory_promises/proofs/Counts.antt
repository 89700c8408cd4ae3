-- Counts of blocks: the free count is the number of free blocks, in the machine and in its view.
--     count_sum                a count and a sum of weights agree where they agree block by block
--     free_count               the number of blocks that are free in the view is the free count
--     not_all_free             where some block is allocated the free count is below M
--     mark_count               the blocks at or below the mark are the blocks 2 to the mark
-- Assumes nothing.
use Prim.Native.Nat.{ℕ, zero, suc, ◌+◌, ◌-◌, ◌≤◌, ◌<◌}
use mathlib.Core.Path.{◌≡◌, refl, sym, ◌∙◌, ap}
use mathlib.Core.Logic.{◌≢◌}
use mathlib.Core.Bool.{Bool}
use native.Mathlib.Numerals.{add-one}
use native.Mathlib.Omega.{arith}
use lib.Dec.{leb}
use borrow.Author.Tests.{leb-true, leb-false}
use Rattle.machine.specs.declared.Colour.TheVariants.{Free}
use Rattle.std.specs.Prelude.{if◌then◌else◌}
use Rattle.machine.specs.Colouring.{is_free}
use Rattle.machine.specs.Heap.{Heap, colouring, colour_of}
use Rattle.machine.specs.Audit.{count_from}
use Rattle.machine.specs.WellFormed.{Block, Coloured}
use Rattle.machine.proofs.Tests.{by_test, clash}
use Rattle.theory_audit.proofs.Frees.{next_free, free_tests}
use Rattle.machine.proofs.Exact.{exact_length}
use Rattle.theory_reach.specs.Sums.{sum, Within, total}
use Rattle.theory_reach.proofs.Sums.{total_down, total_ones}
use Rattle.theory_moves.specs.Tints.{Tint}
use Rattle.theory_moves.specs.Demand3.{lies, unused}
use Rattle.theory_moves.specs.Tints as tints
use Rattle.theory_promises.specs.View.{tint_of, view, Shape}
use Rattle.theory_promises.specs.Demand3.{blocks_up_to_mark}
use Rattle.theory_promises.proofs.Viewing.{there}
use Rattle.theory_promises.proofs.Recolouring.{free_of, of_free}

abbrev pub one : Bool → ℕ
one t = if t then 1 else 0

-- a count and a sum of weights agree where they agree block by block
pub count_sum : (p : ℕ → Bool) (f : ℕ → ℕ) (n b : ℕ) → ((c : ℕ) → Within n b c → f c ≡ one (p c)) → sum n b f ≡ count_from p n b
unfolding sum count_from
count_sum p f zero b same = refl
count_sum p f (suc n) b same =
    let r = count_sum p f n (suc b) (λ c l. same c (record { low = omega arith; high = omega arith })) in
    rw (add-one b) (ap (λ (x : ℕ). x + sum n (suc b) f) (same b (record { low = omega arith; high = omega arith })) ∙ ap (λ (x : ℕ). one (p b) + x) r)

-- of n blocks from b on, so many are at most k
low_count : (k n b : ℕ) → k < b + n → count_from (λ c. leb c k) n b ≡ k + 1 - b
unfolding count_from
low_count k zero b l = omega arith
low_count k (suc n) b l =
    let r = low_count k n (b + 1) (omega arith) in
    by_test (leb b k)
    (λ t. let q = leb-true b k t in ap (λ (x : Bool). one x + count_from (λ c. leb c k) n (b + 1)) t ∙ omega (arith, r))
    (λ t. let q = leb-false b k t in ap (λ (x : Bool). one x + count_from (λ c. leb c k) n (b + 1)) t ∙ omega (arith, r))

free_weight : (t : Tint) → t ≡ tints.Free → lies t ≡ 1
free_weight t e = rw e refl

other_weight : (t : Tint) → t ≢ tints.Free → lies t ≡ 0
other_weight tints.White n = refl
other_weight tints.Grey n = refl
other_weight tints.Black n = refl
other_weight tints.Free n = absurd (n refl)

most : (t : Tint) → lies t ≤ 1
most tints.White = omega arith
most tints.Grey = omega arith
most tints.Black = omega arith
most tints.Free = omega arith

module _ (h : Heap) (p : Shape h) where
  abbrev m : ℕ
  m = h.regs.blocks

  weight : (c : ℕ) → Block m c → lies (tint_of (colour_of h c)) ≡ one (is_free (colouring h) c)
  weight c l =
      by_test (is_free (colouring h) c)
      (λ t. free_weight _ (free_of {h = h} ((free_tests h c).0 t)) ∙ sym (ap one t))
      (λ t. other_weight _ (λ z. clash ((free_tests h c).1 (of_free {h = h} l (p.colours c l) z)) t) ∙ sym (ap one t))

  pub free_count : unused m (view h) ≡ h.regs.count
  unfolding total
  free_count =
      count_sum (is_free (colouring h)) (λ b. lies (tint_of (colour_of h b))) m 2 (λ c l. weight c (record { low = omega arith; high = omega arith }))
      ∙ sym (exact_length (Coloured h Free) (is_free (colouring h)) (free_tests h) (next_free h) 0 m (λ b f. f.block) (λ f. let l = f.block in omega arith) h.regs.free p.frees) ∙ p.counted

  pub not_all_free : (b : ℕ) → Block m b → tint_of (colour_of h b) ≢ tints.Free → unused m (view h) < m
  not_all_free b l n =
      let e = total_down m (λ c. lies (tint_of (colour_of h c))) (λ c. 1) b (there l) (λ c k o. most (tint_of (colour_of h c))) in
      let z = other_weight (tint_of (colour_of h b)) n in
      let f = total_ones m (λ c. 1) (λ c k. refl) in
      omega arith

  pub mark_count : blocks_up_to_mark h + 1 ≡ h.regs.mark
  mark_count = let d = p.ready.marked in omega (arith, low_count h.regs.mark m 2 (omega arith))
