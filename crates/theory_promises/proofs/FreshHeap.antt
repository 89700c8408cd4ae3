-- A formatted heap is well-formed.
--     list_word                the words of the free blocks that Format lays out
--     fresh_tint               every block is free
--     fresh_orderly            the free list is orderly
--     fresh_shape, fresh_view, fresh_formed     the formatted heap has the shape, a sound view, and is well-formed
-- Assumes nothing.
use Prim.Native.Nat.{ℕ, zero, suc, ◌+◌, ◌-◌, ◌*◌, ◌≤◌, ◌<◌}
use mathlib.Core.Path.{◌≡◌, refl, sym, ◌∙◌, ap, subst}
use mathlib.Core.Logic.{⊎_elim}
use mathlib.Core.Bool.{false, ◌&&◌}
use mathlib.Core.List.Memᴰ
use mathlib.Core.List.{List, [], ◌∷◌, ◌++◌, Memᴰ}
use native.Mathlib.Nat.{zero-div}
use native.Mathlib.Omega.{arith}
use lib.Dec.{eqb, leb}
use lib.ListN.{length, get_or, replicate, length-append, length-replicate, get_or-replicate, get_or-append}
use lib.Seq.{get_or-append-add}
use borrow.Author.Tests.{eq-eqb, ne_eqb}
use Rattle.machine.specs.declared.Colour.TheVariants.{Free}
use Rattle.std.specs.Prelude.{if◌then◌else◌}
use Rattle.machine.specs.Registers.{idle}
use Rattle.machine.specs.Block.{word_of, byte_of, bit, free_words}
use Rattle.machine.specs.Colouring.{coloured, colour_in, fresh_colours}
use Rattle.machine.specs.Heap.{Heap}
use Rattle.machine.specs.Format.{free_list, formatted}
use Rattle.machine.specs.WellFormed.{Block, Listed, ends, goes, WellFormed}
use Rattle.machine.specs.Ready.{Ready}
use Rattle.machine.proofs.Tests.{by_eq, by_test}
use Rattle.machine.proofs.Bytes.{free_rest}
use Rattle.machine.proofs.Linked.{linked}
use Rattle.machine.proofs.Steps.{never}
use Rattle.theory_moves.specs.Heaps.{Sound}
use Rattle.theory_moves.proofs.Heaps.{fresh_sound}
use Rattle.theory_reach.specs.Sums as sums
use Rattle.theory_moves.specs.Tints as tints
use Rattle.theory_promises.specs.View.{tint_of, view, Shape}
use Rattle.theory_promises.proofs.Viewing.{here, shape_wf}
use Rattle.theory_promises.proofs.Links.{Orderly}

-- the block from which k free blocks go on, and 0 where none does
abbrev from : ℕ → ℕ → ℕ
from k b = if eqb k 0 then 0 else b

list_length : (n c : ℕ) → length (free_list n c) ≡ 8 * n
unfolding free_list
list_length zero c = omega arith
list_length (suc n) c = simp length-append (omega (arith, list_length n (c + 1)))

same_link : (u : ℕ) {k k' b b' : ℕ} → k ≡ k' → b ≡ b' → get_or (free_words (from k b)) u 0 ≡ get_or (free_words (from k' b')) u 0
same_link u {k} {k'} {b} {b'} p q = ap (λ (x : ℕ). get_or (free_words (from x b)) u 0) p ∙ ap (λ (x : ℕ). get_or (free_words (from k' x)) u 0) q

pub list_word : (n c j u : ℕ) → j < n → u < 8 → get_or (free_list n c) (8 * j + u) 0 ≡ get_or (free_words (from (n - (j + 1)) (c + j + 1))) u 0
unfolding free_list
list_word zero c j u l o = absurd (omega arith)
list_word (suc n) c zero u l o =
    let e : 8 * 0 + u ≡ u = omega arith in
    let k : suc n - (0 + 1) ≡ n = omega arith in
    let q : c + 0 + 1 ≡ c + 1 = omega arith in
    ap (λ (i : ℕ). get_or (free_words (from n (c + 1)) ++ free_list n (c + 1)) i 0) e
    ∙ get_or-append (free_words (from n (c + 1))) (free_list n (c + 1)) 0 u o
    ∙ sym (same_link u k q)
list_word (suc n) c (suc j) u l o =
    let e : 8 * suc j + u ≡ 8 + (8 * j + u) = omega arith in
    let k : suc n - (suc j + 1) ≡ n - (j + 1) = omega arith in
    let q : c + suc j + 1 ≡ c + 1 + j + 1 = omega arith in
    ap (λ (i : ℕ). get_or (free_words (from n (c + 1)) ++ free_list n (c + 1)) i 0) e
    ∙ get_or-append-add (free_words (from n (c + 1))) (free_list n (c + 1)) (8 * j + u) 0
    ∙ list_word n (c + 1) j u (omega arith) o
    ∙ sym (same_link u k q)

-- k numbers from b on
up_to : ℕ → ℕ → List ℕ
up_to zero b = []
up_to (suc k) b = b ∷ up_to k (suc b)

up_to_length : (k b : ℕ) → length (up_to k b) ≡ k
unfolding up_to
up_to_length zero b = refl
up_to_length (suc k) b = ap suc (up_to_length k (suc b))

up_to_in : (k b x : ℕ) → Memᴰ x (up_to k b) → (b ≤ x) × (x < b + k)
unfolding up_to
up_to_in zero b x i = absurd (Memᴰ.not-nil i)
up_to_in (suc k) b x i =
    ⊎_elim (λ e. (omega arith, omega arith)) (λ j. let q = up_to_in k (suc b) x j in (omega arith, omega arith)) (Memᴰ.cases_cons i)

in_up_to : (k b x : ℕ) → b ≤ x → x < b + k → Memᴰ x (up_to k b)
unfolding up_to
in_up_to zero b x l g = absurd (omega arith)
in_up_to (suc k) b x l g = by_eq x b (λ e. Memᴰ.head e) (λ n. Memᴰ.tail (in_up_to k (suc b) x (omega arith) (omega arith)))

module _ (m u : ℕ) (some : 1 ≤ m) (most : m ≤ 16384) (pace : u ≤ 65535) where
  abbrev h : Heap
  h = formatted m u

  word_at : (b v : ℕ) → Block m b → v ≤ 7 → word_of (free_list m 2) b v ≡ get_or (free_words (from (m + 1 - b) (b + 1))) v 0
  word_at b v l o =
      let e : m - (b - 2 + 1) ≡ m + 1 - b = omega arith in
      let q : 2 + (b - 2) + 1 ≡ b + 1 = omega arith in
      list_word m 2 (b - 2) v (omega arith) (omega arith) ∙ same_link v e q

  tint_free : (b : ℕ) → Block m b → colour_in (coloured m 1 (fresh_colours m)) b ≡ Free
  tint_free b l = linked.fresh_free m b l

  byte_none : (b : ℕ) → Block m b → byte_of (replicate m 0) b ≡ 0
  byte_none b l = get_or-replicate m (b - 2) 0 0 (omega arith)

  ready : Ready h
  unfolding formatted
  ready =
      record {
        some = some;
        most = most;
        pace = pace;
        words = list_length m 2;
        colours = (linked.fresh_fits m most).cells;
        bytes = length-replicate m 0;
        phase = omega arith;
        grey = linked.one m idle;
        free = λ n. record { low = omega arith; high = omega arith };
        root = λ n. absurd (n refl);
        count = omega arith;
        marked = (omega arith, omega arith);
        placed = λ z. absurd (omega arith);
        parked = λ z. refl;
      }

  -- from b on, k free blocks that end with the last block
  listed : (k b : ℕ) → b + k ≡ m + 2 → 2 ≤ b → Listed (λ c. word_of (free_list m 2) c 0) 0 (from k b) (up_to k b)
  unfolding up_to
  listed zero b e l = ends refl
  listed (suc k) b e l =
      let left : m + 1 - b ≡ k = omega arith in
      let onto : b + 1 ≡ suc b = omega arith in
      let w : word_of (free_list m 2) b 0 ≡ from k (suc b) = word_at b 0 (record { low = l; high = omega arith }) (omega arith) ∙ same_link 0 left onto in
      let some : from (suc k) b ≡ b = simp (ne_eqb (suc k) 0 (λ z. absurd (omega arith))) in
      subst (λ (a : ℕ). Listed (λ c. word_of (free_list m 2) c 0) 0 a (b ∷ up_to k (suc b))) (sym some)
      (goes (λ z. absurd (omega arith)) (subst (λ (a : ℕ). Listed (λ c. word_of (free_list m 2) c 0) 0 a (up_to k (suc b))) (sym w) (listed k (suc b) (omega arith) (omega arith))))

  all_listed : Listed (λ c. word_of (free_list m 2) c 0) 0 2 (up_to m 2)
  all_listed = subst (λ (a : ℕ). Listed (λ c. word_of (free_list m 2) c 0) 0 a (up_to m 2)) first (listed m 2 (omega arith) (omega arith))
    where
      first : from m 2 ≡ 2
      first = simp (ne_eqb m 0 (λ z. absurd (omega arith)))

  pub fresh_shape : Shape h
  unfolding formatted
  fresh_shape =
      record {
        ready = ready;
        colours = λ b l e. never (cc (tint_free b l));
        greys = linked.fresh_greys m;
        frees = record {
          blocks = up_to m 2;
          listed = all_listed;
          members = λ b. (
            λ i. let q = up_to_in m 2 b i in let l : Block m b = record { low = q.0; high = omega arith } in record { block = l; colour = tint_free b l },
            λ f. let l = f.block in in_up_to m 2 b l.low (omega arith),
          );
        };
        laid = λ b f. record {
          byte = byte_none b f.block;
          words = λ w o q. word_at b w f.block q ∙ free_rest (from (m + 1 - b) (b + 1)) w o q;
        };
        counted = up_to_length m 2;
      }

  no_bits : (b w : ℕ) → Block m b → (leb w 7 && bit (byte_of (replicate m 0) b) w) ≡ false
  unfolding bit
  no_bits b w l = rw (byte_none b l) (by_test (leb w 7) (λ t. simp (t, zero-div)) (λ t. simp t))

  pub fresh_tint : (b : ℕ) → sums.Block m b → (view h).tint b ≡ tints.Free
  unfolding formatted
  fresh_tint b l = ap tint_of (tint_free b (here l))

  pub fresh_view : Sound m (view h)
  unfolding formatted
  fresh_view = fresh_sound m (view h) refl refl refl (λ b l. ap tint_of (tint_free b (here l))) (λ b w l. no_bits b w (here l))

  pub fresh_orderly : Orderly m h.regs.free (view h)
  unfolding formatted
  fresh_orderly =
      record {
        head = omega arith;
        links = λ b l t n. absurd (omega (arith, l.low));
        above =
            record {
              next = λ b l n i. word_at b 0 (here l) (omega arith) ∙ simp (ne_eqb (m + 1 - b) 0 (λ z. absurd (omega arith)));
              last = λ b l n i. word_at b 0 (here l) (omega arith) ∙ simp (eq-eqb (m + 1 - b) 0 (omega arith));
            };
      }

  pub fresh_formed : WellFormed h
  unfolding formatted
  fresh_formed = shape_wf h fresh_shape fresh_view
