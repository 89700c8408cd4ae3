-- Greying: what it does to colours, and that the grey list keeps exactly the grey blocks.
--     TintIn k c               the tint of the block c in a colouring
--     turned_join, turned_as   turned by one set and then by another; turned by a set that has the same members
--     Greying S k j            from k to j the white blocks of S turned grey and all else stayed, and the grey list is right
--     greying_white, greying_all     grey_white and grey_all do that
--     greying_one              a white block is greyed
--     greying_none             0 is no block, so that nothing is greyed
-- Assumes nothing.
use Prim.Native.Nat.{ℕ}
use mathlib.Core.Path.{◌≡◌, refl, sym, ◌∙◌, ap}
use mathlib.Core.Logic.{◌≢◌, ◌⊎◌, inl, inr, ⊎_elim}
use mathlib.Core.Bool.{false}
use mathlib.Core.List.Memᴰ
use mathlib.Core.List.{List, [], ◌∷◌, Memᴰ}
use native.Mathlib.Omega.{arith}
use Rattle.machine.specs.declared.Colour.TheVariants.{White, Grey, Outside}
use Rattle.machine.specs.Colouring.{Colouring, colour_in, white_colour, to_grey, grey_white, grey_all, GreysOf}
use Rattle.machine.specs.WellFormed.{Block}
use Rattle.machine.specs.Layout.{Fitting}
use Rattle.machine.proofs.Tests.{by_eq, clash, if_ind}
use Rattle.machine.proofs.Hues.{tests_white}
use Rattle.machine.proofs.Steps.{never}
use Rattle.machine.proofs.Linked.{linked}
use Rattle.theory_moves.specs.Tints.{Tint, Turned, turned, stayed}
use Rattle.theory_promises.specs.View.{tint_of}
use Rattle.theory_promises.proofs.Viewing.{colour_is}

abbrev pub TintIn : Colouring → ℕ → Tint
TintIn k c = tint_of (colour_in k c)

pub turned_join : {S T : Type 0} {s t u : Tint} → Turned S s t → Turned T t u → Turned (S ⊎ T) s u
turned_join (turned i p q) (turned j x y) = turned (inl i) p y
turned_join (turned i p q) (stayed n e) = turned (inl i) p (e ∙ q)
turned_join (stayed n e) (turned j x y) = turned (inr j) (sym e ∙ x) y
turned_join (stayed n e) (stayed k f) = stayed (λ d. ⊎_elim (λ i. n i) (λ j z. k j (e ∙ z)) d) (f ∙ e)

pub turned_as : {S T : Type 0} {s t : Tint} → (S → T) → (T → S) → Turned S s t → Turned T s t
turned_as f g (turned i p q) = turned (f i) p q
turned_as f g (stayed n e) = stayed (λ j. n (g j)) e

pub record Greying (S : ℕ → Type 0) (k j : Colouring) : Type 0 where
  pub blocks : j.blocks ≡ k.blocks
  pub kept : Fitting j
  pub tints : (c : ℕ) → Turned (S c) (TintIn k c) (TintIn j c)
  pub legal : (c : ℕ) → colour_in k c ≢ Outside → colour_in j c ≢ Outside
  pub list : GreysOf k → GreysOf j

-- a white block is greyed
push : (b : ℕ) (k : Colouring) → Fitting k → colour_in k b ≡ White → Greying (λ c. c ≡ b) k (to_grey b k)
push b k d w =
    let l : Block k.blocks b = linked.inside k b (λ o. never (cc)) in
    let grey = linked.grey_here k b d l in
    record {
      blocks = refl;
      kept = linked.grey_keeps k b d l;
      tints = λ c. by_eq c b
          (λ z. turned z (ap (TintIn k) z ∙ ap tint_of w) (ap (TintIn (to_grey b k)) z ∙ ap tint_of grey))
          (λ n. stayed (λ z. absurd (n z)) (ap tint_of (linked.grey_there k b c l n)));
      legal = λ c o. by_eq c b
          (λ z q. let g : Grey ≡ Outside = sym grey ∙ ap (colour_in (to_grey b k)) (sym z) ∙ q in never (cc))
          (λ n q. o (sym (linked.grey_there k b c l n) ∙ q));
      list = λ e. linked.grey_greys k b d l (λ g. never (cc)) e;
    }

-- any other stays
stay : (b : ℕ) (k : Colouring) → Fitting k → white_colour (colour_in k b) ≡ false → Greying (λ c. c ≡ b) k k
stay b k d n =
    record {
      blocks = refl;
      kept = d;
      tints = λ c. stayed
          (λ z t. let w : colour_in k b ≡ White = colour_is (colour_in k b) White (ap (TintIn k) (sym z) ∙ t) (λ q. never (cc)) in clash (ap white_colour w) n)
          refl;
      legal = λ c o. o;
      list = λ e. e;
    }

pub greying_white : (b : ℕ) (k : Colouring) → Fitting k → Greying (λ c. c ≡ b) k (grey_white b k)
unfolding grey_white
greying_white b k d =
    if_ind (Greying (λ c. c ≡ b) k) (white_colour (colour_in k b)) (λ t. push b k d (tests_white (colour_in k b) t)) (λ t. stay b k d t)

pub greying_one : (b : ℕ) (k : Colouring) → colour_in k b ≡ White → grey_white b k ≡ to_grey b k
unfolding grey_white
greying_one b k w = simp w

no_block_lem : {m : ℕ} → Block m 0 → ⊥
no_block_lem l = omega arith

pub greying_none : (k : Colouring) → grey_white 0 k ≡ k
unfolding grey_white
greying_none k =
    if_ind (λ (j : Colouring). j ≡ k) (white_colour (colour_in k 0))
    (λ t. absurd (no_block_lem (linked.inside k 0 (λ o. let c = tests_white (colour_in k 0) t in never (cc)))))
    (λ t. refl)

pub greying_all : (bs : List ℕ) (k : Colouring) → Fitting k → Greying (λ c. Memᴰ c bs) k (grey_all bs k)
unfolding grey_all
greying_all [] k d =
    record { blocks = refl; kept = d; tints = λ c. stayed (λ z. absurd (Memᴰ.not-nil z)) refl; legal = λ c o. o; list = λ e. e }
greying_all (b ∷ bs) k d =
    let f = greying_white b k d in
    let g = greying_all bs (grey_white b k) f.kept in
    record {
      blocks = g.blocks ∙ f.blocks;
      kept = g.kept;
      tints = λ c. turned_as (λ s. ⊎_elim (λ z. Memᴰ.head z) (λ j. Memᴰ.tail j) s) (λ j. Memᴰ.cases_cons j) (turned_join (f.tints c) (g.tints c));
      legal = λ c o. g.legal c (f.legal c o);
      list = λ e. g.list (f.list e);
    }
