-- Splits on colours, and what Turned says of the colour before and after.
--     tint_cases           a case split on a colour, kept with its equation
--     by_free, by_white    whether it is that colour
--     was_white, was_black, was_free, stays_free, stays_black     the colour before and after
--     white_out            what is white afterwards is not of S
-- Assumes nothing.
use mathlib.Core.Path.{◌≡◌, refl}
use mathlib.Core.Logic.{◌≢◌}
use Rattle.theory_reach.proofs.Splits.{never}
use Rattle.theory_moves.specs.Tints.{Tint, White, Grey, Black, Free, Turned, turned, stayed}

pub tint_cases : {A : Type 0} (t : Tint) → (t ≡ White → A) → (t ≡ Grey → A) → (t ≡ Black → A) → (t ≡ Free → A) → A
tint_cases White w g k f = w refl
tint_cases Grey w g k f = g refl
tint_cases Black w g k f = k refl
tint_cases Free w g k f = f refl

pub by_free : {A : Type 0} (t : Tint) → (t ≡ Free → A) → (t ≢ Free → A) → A
by_free White f n = n (λ z. never (cc))
by_free Grey f n = n (λ z. never (cc))
by_free Black f n = n (λ z. never (cc))
by_free Free f n = f refl

pub by_white : {A : Type 0} (t : Tint) → (t ≡ White → A) → (t ≢ White → A) → A
by_white White f n = f refl
by_white Grey f n = n (λ z. never (cc))
by_white Black f n = n (λ z. never (cc))
by_white Free f n = n (λ z. never (cc))

module _ {S : Type 0} {s t : Tint} where
  pub was_white : Turned S s t → t ≡ White → s ≡ White
  was_white (turned i p q) e = never (cc)
  was_white (stayed n q) e = cc

  pub white_out : Turned S s t → t ≡ White → S → ⊥
  white_out (turned i p q) e z = never (cc)
  white_out (stayed n q) e z = n z (cc)

  pub was_black : Turned S s t → t ≡ Black → s ≡ Black
  was_black (turned i p q) e = never (cc)
  was_black (stayed n q) e = cc

  pub was_free : Turned S s t → t ≡ Free → s ≡ Free
  was_free (turned i p q) e = never (cc)
  was_free (stayed n q) e = cc

  pub stays_free : Turned S s t → s ≡ Free → t ≡ Free
  stays_free (turned i p q) e = never (cc)
  stays_free (stayed n q) e = cc

  pub stays_black : Turned S s t → s ≡ Black → t ≡ Black
  stays_black (turned i p q) e = never (cc)
  stays_black (stayed n q) e = cc
