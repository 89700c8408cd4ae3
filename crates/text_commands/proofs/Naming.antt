-- Laws of a line's first piece: a law for each way out of reading a line.
--     too_long             a line of more than 40 bytes
--     no_letter            a line whose first piece isn't one byte
--     after_letter         what stands after a letter alone
--     named_off, named_on  a letter with something else than numbers, or with too many; with numbers
-- Assumes nothing.
use Prim.Native.Nat.{ℕ, ◌+◌, ◌≤◌, ◌<◌}
use mathlib.Core.Path.{◌≡◌, refl, sym, ◌∙◌, ap}
use mathlib.Core.Logic.{◌≢◌}
use mathlib.Core.Bool.{Bool, true, false}
use mathlib.Core.List.{List, [], ◌∷◌}
use native.Mathlib.Omega.{arith}
use native.Mathlib.Nat.{zero-add}
use lib.ListN.{length, get_or, take, drop}
use borrow.Author.Tests.{le-leb, lt-leb}
use Rattle.std.specs.Prelude.{Option, None, if◌then◌else◌}
use Rattle.text_numbers.specs.Numbers.{space, piece, later}
use Rattle.text_numbers.proofs.Pieces.{later_past, piece_stops}
use Rattle.text_commands.specs.declared.Command.{Command}
use Rattle.text_commands.specs.Command.{all_numbers, values, meant, named, command_of}
use Rattle.text_commands.proofs.Meaning.{meant_more}

pub too_long : (text : List ℕ) → 40 < length text → None ≡ command_of text
unfolding command_of
too_long text h = simp (lt-leb (length text) 40 h)

named_none : (ls : List ℕ) (ps : List (List ℕ)) → length ls ≢ 1 → None ≡ named ls ps
unfolding named
named_none [] ps e = refl
named_none (l ∷ []) ps e = absurd (e refl)
named_none (l ∷ k ∷ ls) ps e = refl

named_one : (ls : List ℕ) (ps : List (List ℕ)) → length ls ≡ 1 → named ls ps ≡ (if all_numbers ps then meant (get_or ls 0 0) (values ps) else None)
unfolding named
named_one [] ps e = absurd (omega arith)
named_one (l ∷ []) ps e = refl
named_one (l ∷ k ∷ ls) ps e = absurd (omega arith)

module _ (text : List ℕ) (h : length text ≤ 40) where
  pub no_letter : length (piece text) ≢ 1 → None ≡ command_of text
  unfolding command_of
  no_letter e = named_none (piece text) (later text) e ∙ simp (le-leb (length text) 40 h)

  module _ (e : length (piece text) ≡ 1) where
    place : 0 + length (piece (drop 0 text)) ≡ 1
    place = zero-add (length (piece text)) ∙ e

    pub after_letter : 1 < length text → get_or text 1 0 ≡ space
    after_letter l = ap (λ (k : ℕ). get_or text k 0) (sym place) ∙ piece_stops text 0 (rw place l)

    later_letter : later text ≡ later (drop 1 text)
    later_letter = later_past text 0 ∙ ap (λ (k : ℕ). later (drop k text)) place

    asks : command_of text ≡ (if all_numbers (later (drop 1 text)) then meant (get_or (piece text) 0 0) (values (later (drop 1 text))) else None)
    unfolding command_of
    asks = simp (le-leb (length text) 40 h) (rw (← later_letter) (named_one (piece text) (later text) e))

    pub named_off : (all_numbers (later (drop 1 text)) ≡ true → 3 < length (values (later (drop 1 text)))) → None ≡ command_of text
    named_off f = go (all_numbers (later (drop 1 text))) refl
      where
        go : (t : Bool) → all_numbers (later (drop 1 text)) ≡ t → None ≡ command_of text
        go true q = sym (asks ∙ simp q (meant_more (get_or (piece text) 0 0) (values (later (drop 1 text))) (f q)))
        go false q = sym (asks ∙ simp q)

    pub named_on : (n : ℕ) (ns : List ℕ) (c : Option Command) → (all_numbers (later (drop 1 text)) ≡ true) × (take n ns ≡ values (later (drop 1 text))) → c ≡ meant (get_or (piece text) 0 0) (take n ns) → c ≡ command_of text
    named_on n ns c (a, v) m = m ∙ ap (meant (get_or (piece text) 0 0)) v ∙ sym (asks ∙ simp a)
