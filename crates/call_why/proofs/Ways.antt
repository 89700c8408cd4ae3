-- What is left of the proof that Why is its definition.
--     traced               what the search leaves is what a path can be read off
--     kept, reached        the two ways of a block that is allocated and not doomed
--     long, part_length, cleared     the lent buffers: their lengths, their first M numbers, and cleared
--     numbers_as           the call with its answer in numbers
--     told_gone            the reason of a free or a doomed block, by its state
-- Assumes nothing.
use Prim.Native.Nat.{ℕ, ◌*◌, ◌-◌, ◌≤◌}
use mathlib.Core.Path.{◌≡◌, refl, sym, ◌∙◌}
use mathlib.Core.Logic.{◌≢◌}
use mathlib.Core.Bool.{true, false, ◌&&◌}
use mathlib.Core.List.{List, ◌++◌}
use native.Mathlib.Omega.{arith}
use lib.Dec.{leb}
use lib.ListN.{length, take, drop, replicate}
use borrow.Author.Tests.{leb-true}
use borrow.Rule.Slice.PartMut.{mid_len, same_len_mid}
use Rattle.machine.specs.declared.Regs.{Regs}
use Rattle.machine.specs.declared.Colour.{Colour}
use Rattle.machine.specs.declared.State.{State}
use Rattle.machine.specs.declared.Reason.{Reason}
use Rattle.machine.specs.declared.Reason.TheVariants.{Reachable, Kept}
use Rattle.machine.specs.declared.Why.{Why}
use Rattle.std.specs.Prelude.{Result}
use Rattle.machine.specs.declared.WhyNumbers.{WhyNumbers}
use Rattle.machine.specs.WellFormed.{Block}
use Rattle.machine.specs.Heap.{Heap, heap}
use Rattle.machine.specs.State.{state_of, is_live}
use Rattle.machine.specs.Search.{came_to, search, search_of, path_to, path_numbers}
use Rattle.machine.specs.Why.{path_of, live_reason, reason_from, reason_of, WhyGiven, padded, why_numbers}
use Rattle.machine.proofs.Tests.{both_true}
use Rattle.machine.proofs.Blocks.{block_as}
use Rattle.machine.proofs.Searching.{search_searched}
use Rattle.machine.proofs.Reasoning.{live_path, no_path, live_kept, live_reached, no_numbers}
use Rattle.part_search.specs.Lying.{named_by}
use Rattle.part_path.specs.Paths.{Traced}
use Rattle.call_why.specs.Numbers.{in_numbers}

-- how the blocks were come to, as the search left it
module _ (m root : ℕ) (ws bs : List ℕ) {came : List ℕ} (came_is : came ≡ (search m root (named_by ws bs)).came) where
  came_length : length came ≡ m
  came_length = rw came_is (search_searched m root (named_by ws bs)).entries

  pub traced : {b : ℕ} → m ≤ 16384 → Block m b → Traced came b
  traced l k =
      let n = came_length in
      record {
        most = rw n l;
        ways = rw (n, came_is) (search_searched m root (named_by ws bs)).ways;
        block = block_as n k;
      }

  module _ (r : Regs) (cs : List ℕ) (b : ℕ) (c : Colour) (em : r.blocks ≡ m) (er : r.root ≡ root)
      (live : is_live (state_of (heap r ws cs bs) b) ≡ true) where
    searched : (search_of (heap r ws cs bs)).came ≡ came
    searched = rw (em, er) (sym came_is)

    path_is : path_of (heap r ws cs bs) b ≡ path_to (length came) came b
    path_is = live_path (heap r ws cs bs) b live ∙ rw (searched, came_length, em) refl

    module _ (l : ℕ) {path : List ℕ} (e : path ≡ padded (path_numbers (path_to (length came) came b)) l) where
      written : path ≡ padded (path_numbers (path_of (heap r ws cs bs) b)) l
      written = e ∙ rw path_is refl

      pub kept : {v : ℕ} → v ≡ came_to came b → v ≡ 0
          → (Kept c ≡ live_reason (heap r ws cs bs) b c) × (path ≡ padded (path_numbers (path_of (heap r ws cs bs) b)) l)
      kept q z = (live_kept (heap r ws cs bs) b c (rw searched (sym q ∙ z)), written)

      pub reached : {n v : ℕ} → n ≡ length (path_to (length came) came b) → v ≡ came_to came b → v ≢ 0
          → (Reachable n ≡ live_reason (heap r ws cs bs) b c) × (path ≡ padded (path_numbers (path_of (heap r ws cs bs) b)) l)
      reached p q o = (live_reached (heap r ws cs bs) b c (λ z. o (q ∙ (rw searched at z))) (p ∙ rw path_is refl), written)

-- the block's state is s
module _ (h : Heap) (b : ℕ) (s : State) (e : state_of h b ≡ s) where
  pub told_gone : {x : Reason} {path : List ℕ} (n : ℕ) → is_live s ≡ false → x ≡ reason_from h b s → path ≡ replicate n 0
      → (x ≡ reason_of h b) × (path ≡ padded (path_numbers (path_of h b)) n)
  told_gone n l q z = (q ∙ rw e refl, no_numbers n (no_path h b (rw e l)) z)

-- ---- the lent buffers
pub long : (m lp lq lc : ℕ) → (leb (2 * m) lp && (leb m lq && leb m lc)) ≡ true → (2 * m ≤ lp) × (m ≤ lq) × (m ≤ lc)
long m lp lq lc e =
    let (p, f) = both_true (leb (2 * m) lp) (leb m lq && leb m lc) e in
    let (q, c) = both_true (leb m lq) (leb m lc) f in
    (leb-true _ _ p, leb-true _ _ q, leb-true _ _ c)

-- the first m numbers of a working buffer, as they are lent
pub part_length : (m : ℕ) (ns : List ℕ) → m ≤ length ns → length (take (m - 0) (drop 0 ns)) ≡ m
part_length m ns l = mid_len 0 m ns l ∙ omega arith

-- a working buffer when that part is back and all of it is cleared
pub cleared : (m : ℕ) (ns ys : List ℕ) {zs : List ℕ} → length ys ≡ length (take (m - 0) (drop 0 ns))
    → zs ≡ replicate (length (take 0 ns ++ (ys ++ drop (m - 0) (drop 0 ns)))) 0 → zs ≡ replicate (length ns) 0
cleared m ns ys y e = e ∙ rw (same_len_mid 0 (m - 0) ns ys y) refl

-- ---- in numbers
pub numbers_as : {g : WhyGiven} {a : WhyNumbers} {x : Result Why ℕ} {path queue came : List ℕ}
    → (record { answer = x; path = path; queue = queue; came = came }) ≡ g → a ≡ why_numbers x
    → (record { answer = a; path = path; queue = queue; came = came }) ≡ in_numbers g
unfolding in_numbers
numbers_as e f = rw (← e, f) refl
