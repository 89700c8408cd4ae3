-- The first n blocks of the free list, where the heap is well-formed: they are there, all different, and refused by 7 alone.
--     frees_in                 they are of the list
--     frees_same               they are the same where their links are
--     heads_fit                free head and free count agree
--     several_enough, several_few     where n are free nothing refuses, else 7 does
--     Several, several         what the tests of holder and list say
-- Assumes nothing.
use Prim.Native.Nat.{ℕ, zero, suc, ◌≤◌, ◌<◌}
use mathlib.Core.Path.{◌≡◌, refl, sym, ap, subst}
use mathlib.Core.Logic.{◌≢◌, ⊎_elim}
use mathlib.Core.Bool.{true, false, not}
use mathlib.Core.List.Memᴰ
use mathlib.Core.List.{List, [], ◌∷◌, Memᴰ}
use native.Mathlib.Omega.{arith}
use lib.Dec.{eqb}
use lib.ListN.{length}
use borrow.Author.Tests.{eqb-false, eq-eqb, ne_eqb, le-leb, lt-leb}
use Rattle.machine.specs.declared.Colour.TheVariants.{Free}
use Rattle.std.specs.Prelude.{if◌then◌else◌}
use Rattle.machine.specs.Tests.{◌▷◌}
use Rattle.machine.specs.Block.{word_of}
use Rattle.machine.specs.Colouring.{free_colour}
use Rattle.machine.specs.Heap.{Heap}
use Rattle.machine.specs.State.{holder_refusal}
use Rattle.machine.specs.Several.{link_of, frees, first_frees, list_walks, amongst, distinct, head_refusal, several_refusal, take_several_refusal}
use Rattle.machine.specs.WellFormed.{Block, Coloured, Listed, ends, goes}
use Rattle.machine.proofs.Tests.{both, if_ind, by_eq}
use Rattle.machine.proofs.Entering.{first_zero, block_or_none}
use Rattle.theory_reach.proofs.Splits.{by_le}
use Rattle.machine.proofs.Listing.{listed_distinct}
use Rattle.theory_promises.specs.View.{Shape}
use Rattle.machine.proofs.Chains.{not_again}
use Rattle.theory_promises.proofs.TakingMoves.{first_in, head_count, count_head}
use Rattle.theory_promises.proofs.Refusing.{Fine, small, holder_fine, fine_then}

amongst_not : (x : ℕ) (ys : List ℕ) → (Memᴰ x ys → ⊥) → amongst x ys ≡ false
unfolding amongst
amongst_not x [] n = refl
amongst_not x (y ∷ ys) n = simp (ne_eqb x y (λ e. n (Memᴰ.head e))) (amongst_not x ys (λ i. n (Memᴰ.tail i)))

pub frees_same : (n a : ℕ) (h k : Heap) → ((y : ℕ) → Memᴰ y (frees n a h) → link_of k y ≡ link_of h y) → frees n a k ≡ frees n a h
unfolding frees
frees_same zero a h k s = refl
frees_same (suc n) a h k s =
    subst (λ (z : ℕ). a ∷ frees n z k ≡ a ∷ frees n (link_of h a) h) (sym (s a (Memᴰ.head refl)))
    (ap (λ (l : List ℕ). a ∷ l) (frees_same n (link_of h a) h k (λ y i. s y (Memᴰ.tail i))))

module _ (h : Heap) where
  abbrev next : ℕ → ℕ
  next b = word_of h.words b 0

  pub frees_in : (n : ℕ) {a : ℕ} {l : List ℕ} → Listed next 0 a l → n ≤ length l → (y : ℕ) → Memᴰ y (frees n a h) → Memᴰ y l
  unfolding frees
  frees_in zero d i y m = absurd (Memᴰ.not-nil m)
  frees_in (suc n) (ends e) i y m = absurd (omega arith)
  frees_in (suc n) (goes o d) i y m =
      ⊎_elim (λ e. Memᴰ.head e) (λ j. Memᴰ.tail (frees_in n d (omega arith) y j)) (Memᴰ.cases_cons m)

  -- the tests of the blocks one by one
  frees_walk : (n : ℕ) {a : ℕ} {l : List ℕ} → Listed next 0 a l → n ≤ length l → ((y : ℕ) → Memᴰ y l → Coloured h Free y) → list_walks n a h ≡ true
  unfolding list_walks
  frees_walk zero d i c = refl
  frees_walk (suc n) (ends e) i c = absurd (omega arith)
  frees_walk (suc n) (goes {a} o d) i c =
      both (ap not (ne_eqb a 0 o))
      (both (ap free_colour (c a (Memᴰ.head refl)).colour)
      (both (block_or_none h.regs.blocks (next a) (λ z. (c (next a) (Memᴰ.tail (first_in d z))).block))
      (frees_walk n d (omega arith) (λ y j. c y (Memᴰ.tail j)))))

  frees_apart : (n : ℕ) {a : ℕ} {l : List ℕ} → Listed next 0 a l → n ≤ length l → distinct (frees n a h) ≡ true
  unfolding distinct frees
  frees_apart zero d i = refl
  frees_apart (suc n) (ends e) i = absurd (omega arith)
  frees_apart (suc n) (goes {a} o d) i =
      both (ap not (amongst_not a (frees n (next a) h) (λ m. not_again (listed_distinct (goes o d)) (frees_in n d (omega arith) a m))))
      (frees_apart n d (omega arith))

module _ (h : Heap) (p : Shape h) (n : ℕ) where
  abbrev heads : ℕ
  heads = head_refusal h.regs.free h.regs.count

  pub heads_fit : heads ≡ 0
  unfolding head_refusal
  heads_fit =
      by_eq h.regs.free 0
      (λ e. simp (eq-eqb h.regs.free 0 e, eq-eqb h.regs.count 0 (head_count h p e)))
      (λ z. simp (ne_eqb h.regs.free 0 z, ne_eqb h.regs.count 0 (λ c. z (count_head h p c))))

  pub several_enough : n ≤ h.regs.count → several_refusal n h ≡ 0
  unfolding several_refusal first_frees ◌▷◌
  several_enough l =
      let c = p.counted in
      let i : n ≤ length p.frees.blocks = omega arith in
      simp (heads_fit, le-leb n h.regs.count l, frees_walk h n p.frees.listed i (λ y j. (p.frees.members y).0 j), frees_apart h n p.frees.listed i)

  pub several_few : h.regs.count < n → several_refusal n h ≡ 7
  unfolding several_refusal ◌▷◌
  several_few l = simp (heads_fit, lt-leb n h.regs.count l)

  -- what the tests say where the holder is 0 or a block
  pub record Several (b : ℕ) : Type 0 where
    pub holder : take_several_refusal n b h ≡ 0 → (if eqb b 0 then 0 else holder_refusal h b) ≡ 0
    pub enough : take_several_refusal n b h ≡ 0 → n ≤ h.regs.count
    pub wanting : take_several_refusal n b h ≡ 7 → h.regs.count < n
    pub undamaged : take_several_refusal n b h ≢ 8

  abbrev first : ℕ → ℕ
  first b = if eqb b 0 then 0 else holder_refusal h b

  first_fine : (b : ℕ) → (b ≢ 0 → Block h.regs.blocks b) → Fine (first b)
  first_fine b l = if_ind Fine (eqb b 0) (λ t. small 0 (omega arith)) (λ t. holder_fine h p b (l (eqb-false b 0 t)))

  not_damaged : (b : ℕ) → (b ≢ 0 → Block h.regs.blocks b) → h.regs.count < n → first b ▷ several_refusal n h ≢ 8
  unfolding ◌▷◌
  not_damaged b l i =
      if_ind (λ (x : ℕ). x ≢ 8) (eqb (first b) 0) (λ t z. absurd (omega (arith, several_few i))) (λ t. (first_fine b l).eight)

  pub several : (b : ℕ) → (b ≢ 0 → Block h.regs.blocks b) → Several b
  unfolding take_several_refusal
  several b l =
      by_le n h.regs.count
      (λ i.
      let fine : Fine (first b ▷ several_refusal n h) = fine_then (first b) (several_refusal n h) (first_fine b l) (λ e. rw (several_enough i) (small 0 (omega arith))) in
      record {
        holder = λ e. (first_zero (first b) (several_refusal n h) e).0;
        enough = λ e. i;
        wanting = λ e. absurd (fine.seven e);
        undamaged = fine.eight;
      })
      (λ i.
      record {
        holder = λ e. (first_zero (first b) (several_refusal n h) e).0;
        enough = λ e. let q = (first_zero (first b) (several_refusal n h) e).1 in absurd (omega (arith, several_few (omega arith)));
        wanting = λ e. omega arith;
        undamaged = not_damaged b l i;
      })
