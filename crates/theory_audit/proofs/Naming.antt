-- What may be named: the test may_name, and the facts that it establishes.
--     MayName h strict x       x is 0 or a live block, and where strict not a white one
--     name_holds, holds_name   may_name is true exactly there
--     all_name, name_all       may_name_all is true exactly where this holds of every member of the list
--     names_hold, hold_names   may_name_all over a block's references is true exactly where this holds of whatever the block names
-- Nothing here says how colours are kept.
-- Assumes nothing.
use Prim.Native.Nat.{ℕ}
use mathlib.Core.Path.{◌≡◌, refl}
use mathlib.Core.Logic.{◌≢◌, ⊎_elim}
use mathlib.Core.Bool.{Bool, true}
use mathlib.Core.List.Memᴰ
use mathlib.Core.List.{List, [], ◌∷◌, Memᴰ}
use native.Mathlib.Omega.{arith}
use borrow.Author.Tests.{eq-eqb, ne_eqb}
use Rattle.machine.specs.declared.Regs.{Regs}
use Rattle.machine.specs.declared.Colour.{Colour}
use Rattle.machine.specs.declared.Colour.TheVariants as colours
use Rattle.machine.specs.declared.State.{State}
use Rattle.machine.specs.declared.State.TheVariants.{LiveWhite, Doomed, Grey, Black, Free, Outside}
use Rattle.machine.specs.Colouring.{Colouring, colour_in}
use Rattle.machine.specs.Heap.{Heap, colouring, references_of}
use Rattle.machine.specs.State.{ahead, state_from, state_in, state_of, is_live}
use Rattle.machine.specs.Audit.{may_be_named, may_name, may_name_all}
use Rattle.machine.specs.WellFormed.{Coloured, Live, Names}
use Rattle.machine.proofs.Tests.{both_true, both, by_eq, by_test, clash}
use Rattle.machine.proofs.States.{live_block}
use Rattle.theory_audit.proofs.Words.{names_member, member_names}

pub record MayName (h : Heap) (strict : Bool) (x : ℕ) : Type 0 where
  pub alive : x ≢ 0 → Live h x
  pub marked : strict ≡ true → Coloured h colours.White x → ⊥

named_live : (strict : Bool) (s : State) → may_be_named strict s ≡ true → is_live s ≡ true
named_live strict LiveWhite e = refl
named_live strict Doomed e = e
named_live strict Grey e = refl
named_live strict Black e = refl
named_live strict Free e = e
named_live strict Outside e = e

module _ (r : Regs) (k : Colouring) (strict : Bool) (x : ℕ) where
  named_marked_lem : may_be_named strict (state_in r k x) ≡ true → strict ≡ true → colour_in k x ≢ colours.White
  unfolding state_in state_from
  named_marked_lem e s c = by_test (ahead r x) (λ t. clash e (rw (c, t) refl)) (λ t. clash e (rw (c, t, s) refl))

  named : is_live (state_in r k x) ≡ true → (strict ≡ true → colour_in k x ≢ colours.White) → may_be_named strict (state_in r k x) ≡ true
  unfolding state_in state_from
  named l f = go (colour_in k x) (λ s. f s) l
    where
      go : (c : Colour) → (strict ≡ true → c ≢ colours.White) → is_live (state_from r x c) ≡ true → may_be_named strict (state_from r x c) ≡ true
      go colours.White f l =
          by_test (ahead r x) (λ t. clash l (rw t refl))
          (λ t. rw t (by_test strict (λ s. absurd (f s refl)) (λ s. rw s refl)))
      go colours.Grey f l = refl
      go colours.Black f l = refl
      go colours.Free f l = l
      go colours.Outside f l = l

module _ (h : Heap) (strict : Bool) where
  pub name_holds : (x : ℕ) → may_name h.regs (colouring h) strict x ≡ true → MayName h strict x
  unfolding may_name
  name_holds x e =
      let test : (x ≢ 0) → may_be_named strict (state_of h x) ≡ true = λ n. simp (ne_eqb x 0 n) at e in
      let live : (x ≢ 0) → is_live (state_of h x) ≡ true = λ n. named_live strict (state_of h x) (test n) in
      record {
        alive = λ n. record { block = live_block h.regs (colouring h) x (live n); live = live n };
        marked = λ s w. named_marked_lem h.regs (colouring h) strict x (test (λ z. let l = w.block in omega arith)) s w.colour;
      }

  pub holds_name : (x : ℕ) → MayName h strict x → may_name h.regs (colouring h) strict x ≡ true
  unfolding may_name
  holds_name x f =
      by_eq x 0 (λ z. simp (eq-eqb x 0 z))
      (λ n. let l = f.alive n in
      simp (ne_eqb x 0 n)
      (named h.regs (colouring h) strict x l.live (λ s w. f.marked s (record { block = l.block; colour = w }))))

  pub all_name : (xs : List ℕ) → may_name_all h.regs (colouring h) strict xs ≡ true → (x : ℕ) → Memᴰ x xs → MayName h strict x
  unfolding may_name_all
  all_name [] e x i = absurd (Memᴰ.not-nil i)
  all_name (a ∷ xs) e x i =
      let t = both_true (may_name h.regs (colouring h) strict a) (may_name_all h.regs (colouring h) strict xs) e in
      ⊎_elim (λ s. rw s (name_holds a t.0)) (λ j. all_name xs t.1 x j) (Memᴰ.cases_cons i)

  pub name_all : (xs : List ℕ) → ((x : ℕ) → Memᴰ x xs → MayName h strict x) → may_name_all h.regs (colouring h) strict xs ≡ true
  unfolding may_name_all
  name_all [] f = refl
  name_all (a ∷ xs) f = both (holds_name a (f a (Memᴰ.head refl))) (name_all xs (λ x i. f x (Memᴰ.tail i)))

  pub names_hold : (b : ℕ) → may_name_all h.regs (colouring h) strict (references_of h b) ≡ true → (x : ℕ) → Names h b x → MayName h strict x
  names_hold b e x v = all_name (references_of h b) e x (names_member h b x v)

  pub hold_names : (b : ℕ) → ((x : ℕ) → Names h b x → MayName h strict x) → may_name_all h.regs (colouring h) strict (references_of h b) ≡ true
  hold_names b f = name_all (references_of h b) (λ x i. f x (member_names h b x i))
