-- A linked list that has exactly the blocks of which something holds, when a block goes to its front, when the first is taken off, and
-- when nothing of it changes.
--     listed_same              a list whose members keep their next block is the same list
--     First, first_of          the first of a list, and the rest of it
--     chain_same, same_blocks  nothing of it changes
--     chain-push, push-length  a block goes to the front
--     chain_pop, pop_length    the first is taken off
--     not_again                which the rest doesn't have
--     none-listed, head-listed a list that is at its end has no block, and else its first is one of its blocks
-- Assumes nothing.
use Prim.Native.Nat.{ℕ, suc}
use mathlib.Core.Path.{◌≡◌, refl, sym, ap, subst}
use mathlib.Core.Logic.{◌≢◌, ◌↔◌, ⊎_elim}
use mathlib.Core.List.Memᴰ
use mathlib.Core.List.{List, ◌∷◌, Memᴰ}
use lib.ListN.{length}
use Rattle.machine.specs.Lists.{Listed, ends, goes, Exactly}
use Rattle.machine.proofs.Tests.{by_eq}
use Rattle.machine.specs.Lists.{Distinct, more}
use Rattle.machine.proofs.Listing.{listed_distinct}

pub listed_same : {next next' : ℕ → ℕ} {end a : ℕ} {l : List ℕ} → Listed next end a l → ((x : ℕ) → Memᴰ x l → next' x ≡ next x) → Listed next' end a l
listed_same (ends e) same = ends e
listed_same {next} {next'} {end} (goes {a} {l} n d) same =
    goes n (subst (λ (x : ℕ). Listed next' end x l) (sym (same a (Memᴰ.head refl))) (listed_same d (λ x i. same x (Memᴰ.tail i))))

module _ {P Q : ℕ → Type 0} {next next' : ℕ → ℕ} {end a : ℕ} (e : Exactly P next end a) where
  module _ (same : (x : ℕ) → P x → next' x ≡ next x) (iff : (x : ℕ) → Q x ↔ P x) {a' : ℕ} (start : a' ≡ a) where
    pub chain_same : Exactly Q next' end a'
    chain_same =
        record {
          blocks = e.blocks;
          listed = subst (λ (x : ℕ). Listed next' end x e.blocks) (sym start) (listed_same e.listed (λ x i. same x ((e.members x).0 i)));
          members = λ x. (λ i. (iff x).1 ((e.members x).0 i), λ q. (e.members x).1 ((iff x).0 q));
        }

    pub same_blocks : chain_same.blocks ≡ e.blocks
    unfolding chain_same
    same_blocks = refl

  module _ (b : ℕ) (apart : b ≢ end) (out : P b → ⊥) (link : next' b ≡ a) (same : (x : ℕ) → P x → next' x ≡ next x) (in' : Q b)
      (iff : (x : ℕ) → x ≢ b → Q x ↔ P x) where
    pub chain_push : Exactly Q next' end b
    chain_push =
        record {
          blocks = b ∷ e.blocks;
          listed = goes apart (subst (λ (x : ℕ). Listed next' end x e.blocks) (sym link) (listed_same e.listed (λ x i. same x ((e.members x).0 i))));
          members = λ x. (there x, back x);
        }
      where
        there : (x : ℕ) → Memᴰ x (b ∷ e.blocks) → Q x
        there x i =
            ⊎_elim (λ z. subst Q (sym z) in')
            (λ j. let p = (e.members x).0 j in (iff x (λ z. out (subst P z p))).1 p)
            (Memᴰ.cases_cons i)

        back : (x : ℕ) → Q x → Memᴰ x (b ∷ e.blocks)
        back x q = by_eq x b (λ z. Memᴰ.head z) (λ n. Memᴰ.tail ((e.members x).1 ((iff x n).0 q)))

    pub push_length : length chain_push.blocks ≡ suc (length e.blocks)
    unfolding chain_push
    push_length = refl

-- the first of a list, and the rest of it
pub record First (next : ℕ → ℕ) (end a : ℕ) (l : List ℕ) : Type 0 where
  pub rest : List ℕ
  pub whole : l ≡ a ∷ rest
  pub listed : Listed next end (next a) rest

pub first_of : {next : ℕ → ℕ} {end a : ℕ} {l : List ℕ} → Listed next end a l → a ≢ end → First next end a l
first_of (ends e) n = absurd (n e)
first_of (goes {a} {l} m d) n = record { rest = l; whole = refl; listed = d }

pub not_again : {a : ℕ} {l : List ℕ} → Distinct (a ∷ l) → Memᴰ a l → ⊥
not_again (more n d) i = n i

module _ {P Q : ℕ → Type 0} {next next' : ℕ → ℕ} {end a : ℕ} (e : Exactly P next end a) (apart : a ≢ end)
    (same : (x : ℕ) → P x → x ≢ a → next' x ≡ next x) (out : Q a → ⊥) (iff : (x : ℕ) → x ≢ a → Q x ↔ P x) where
  head_first : First next end a e.blocks
  head_first = first_of e.listed apart

  later : (x : ℕ) → Memᴰ x head_first.rest → x ≢ a
  later x i z = not_again (subst Distinct head_first.whole (listed_distinct e.listed)) (subst (λ (y : ℕ). Memᴰ y head_first.rest) z i)

  held : (x : ℕ) → Memᴰ x head_first.rest → P x
  held x i = (e.members x).0 (subst (λ (l : List ℕ). Memᴰ x l) (sym head_first.whole) (Memᴰ.tail i))

  pub chain_pop : Exactly Q next' end (next a)
  chain_pop =
      record {
        blocks = head_first.rest;
        listed = listed_same head_first.listed (λ x i. same x (held x i) (later x i));
        members = λ x. (λ i. (iff x (later x i)).1 (held x i), λ q. back x q);
      }
    where
      back : (x : ℕ) → Q x → Memᴰ x head_first.rest
      back x q =
          by_eq x a (λ z. absurd (out (subst Q z q)))
          (λ n. ⊎_elim (λ z. absurd (n z)) (λ i. i) (Memᴰ.cases_cons (subst (λ (l : List ℕ). Memᴰ x l) head_first.whole ((e.members x).1 ((iff x n).0 q)))))

  pub pop_length : suc (length chain_pop.blocks) ≡ length e.blocks
  unfolding chain_pop
  pop_length = sym (ap length head_first.whole)

none_in : {next : ℕ → ℕ} {end a x : ℕ} {l : List ℕ} → Listed next end a l → a ≡ end → Memᴰ x l → ⊥
none_in (ends e) z i = Memᴰ.not-nil i
none_in (goes n d) z i = n z

pub none_listed : {P : ℕ → Type 0} {next : ℕ → ℕ} {end a x : ℕ} → Exactly P next end a → a ≡ end → P x → ⊥
none_listed {x} e z p = none_in e.listed z ((e.members x).1 p)

head_in : {next : ℕ → ℕ} {end a : ℕ} {l : List ℕ} → Listed next end a l → a ≢ end → Memᴰ a l
head_in (ends e) n = absurd (n e)
head_in (goes m d) n = Memᴰ.head refl

-- the first of a list that isn't at its end is one of its blocks
pub head_listed : {P : ℕ → Type 0} {next : ℕ → ℕ} {end a : ℕ} → Exactly P next end a → a ≢ end → P a
head_listed {a} e n = (e.members a).0 (head_in e.listed n)
