-- Laws of the loop that reads a line's numbers: those read so far, and those still to come.
--     Gathered             what holds from turn to turn
--     gather_start, gather_on, gather_off, gather_more, gather_end     the start, a number, something else, more numbers than 3, the end
--     gather_stays         a number's place is left as it is
-- Assumes nothing.
use Prim.Native.Nat.{ℕ, ◌+◌, ◌≤◌, ◌<◌, suc}
use mathlib.Core.Path.{◌≡◌, refl, sym, ◌∙◌, ap}
use mathlib.Core.Bool.{Bool, true, false}
use mathlib.Core.List.{List, [], ◌∷◌, ◌++◌, append_assoc, append-nil}
use native.Mathlib.Omega.{arith}
use native.Mathlib.Numerals.{add-one}
use lib.ListN.{length, get_or, take, drop, set, length-append, length-set, length-take}
use lib.Seq.{take-suc-set}
use Rattle.std.specs.Prelude.{Some, None}
use Rattle.std.proofs.lemmas.Bool.{false≢true}
use Rattle.std.proofs.lemmas.List.{set-get_or}
use Rattle.machine.proofs.Steps.{never}
use Rattle.text_numbers.specs.declared.Number.{Number}
use Rattle.text_numbers.specs.Numbers.{space, piece, later, value, is_number, number_at}
use Rattle.text_numbers.proofs.Pieces.{later_space, later_end, later_past, piece_stops}
use Rattle.text_commands.specs.Command.{all_numbers, values, NumbersOf}

pub record Gathered (text : List ℕ) (first at i : ℕ) (ns : List ℕ) : Type 0 where
  pub room : length ns ≡ 3
  pub stands : at < length text → get_or text at 0 ≡ space
  pub whole : all_numbers (later (drop first text)) ≡ all_numbers (later (drop at text))
  pub rest : values (later (drop first text)) ≡ take i ns ++ values (later (drop at text))

pub gather_start :
    (text : List ℕ) (at : ℕ) (ns : List ℕ) → length ns ≡ 3 → (at < length text → get_or text at 0 ≡ space) → Gathered text at at 0 ns
gather_start text at ns r h = record { room = r; stands = h; whole = refl; rest = refl }

pub gather_stays : {text : List ℕ} {first at i : ℕ} {ns : List ℕ} → Gathered text first at i ns → Gathered text first at i (set ns i (get_or ns i 0))
gather_stays {ns} g = rw (set-get_or ns _ 0) g

-- what reading a number found, taken apart
record Found (text : List ℕ) (at : ℕ) (n : Number) : Type 0 where
  number : is_number (piece (drop at text)) ≡ true
  worth : n.value ≡ value 0 (piece (drop at text))
  reached : n.end.at ≡ at + length (piece (drop at text))

some_is : {n m : Number} → Some n ≡ Some m → n ≡ m
some_is e = cc

found : (text : List ℕ) (at : ℕ) (n : Number) → Some n ≡ number_at text at → Found text at n
unfolding number_at
found text at n e = go (is_number (piece (drop at text))) refl
  where
    go : (t : Bool) → is_number (piece (drop at text)) ≡ t → Found text at n
    go true q =
        let f = some_is (simp q at e) in
        record { number = q; worth = ap (λ (k : Number). k.value) f; reached = ap (λ (k : Number). k.end.at) f }
    go false q = let f = simp q at e in never (cc)

not_found : (text : List ℕ) (at : ℕ) → None ≡ number_at text at → is_number (piece (drop at text)) ≡ false
unfolding number_at
not_found text at e = go (is_number (piece (drop at text))) refl
  where
    go : (t : Bool) → is_number (piece (drop at text)) ≡ t → is_number (piece (drop at text)) ≡ false
    go true q = let f = simp q at e in never (cc)
    go false q = q

module _ (text : List ℕ) (first at i : ℕ) (ns : List ℕ) (g : Gathered text first at i ns) where
  pub gather_on :
      {n : Number} → at < length text → i < 3 → Some n ≡ number_at text (at + 1)
      → Gathered text first n.end.at (i + 1) (set ns i n.value)
  unfolding all_numbers values
  gather_on {n} l k e =
      let d = found text (at + 1) n e in
      let s = later_space text at l (g.stands l) in
      let r = g.room in
      record {
        room = length-set ns i n.value ∙ r;
        stands = rw d.reached (piece_stops text (at + 1));
        whole = g.whole ∙ ap all_numbers s ∙ simp d.number (rw d.reached (ap all_numbers (later_past text (at + 1))));
        rest =
            g.rest
            ∙ ap (λ (ps : List (List ℕ)). take i ns ++ values ps) s
            ∙ ap (λ (v : ℕ). take i ns ++ (v ∷ values (later (drop (at + 1) text)))) (sym d.worth)
            ∙ sym (append_assoc (take i ns) (n.value ∷ []) (values (later (drop (at + 1) text))))
            ∙ ap (λ (vs : List ℕ). vs ++ values (later (drop (at + 1) text))) (sym (take-suc-set ns i n.value (omega arith)))
            ∙ rw (add-one i, d.reached) (ap (λ (ps : List (List ℕ)). take (suc i) (set ns i n.value) ++ values ps) (later_past text (at + 1)));
      }

  pub gather_off : at < length text → None ≡ number_at text (at + 1) → all_numbers (later (drop first text)) ≡ true → 3 < length (values (later (drop first text)))
  unfolding all_numbers
  gather_off l e t =
      absurd (false≢true (sym (g.whole ∙ ap all_numbers (later_space text at l (g.stands l)) ∙ simp (not_found text (at + 1) e)) ∙ t))

  pub gather_more : at < length text → 3 ≤ i → all_numbers (later (drop first text)) ≡ true → 3 < length (values (later (drop first text)))
  unfolding values
  gather_more l k a =
      let r = g.room in
      let t = length-take i ns in
      let s = ap length (g.rest ∙ ap (λ (ps : List (List ℕ)). take i ns ++ values ps) (later_space text at l (g.stands l))) in
      let z = length-append (take i ns) (values (piece (drop (at + 1) text) ∷ later (drop (at + 1) text))) in
      omega arith

  pub gather_end : (k : ℕ) → k ≡ i → length text ≤ at → k ≤ 3 → NumbersOf (later (drop first text)) (Some k) ns
  unfolding all_numbers values
  gather_end k e l b =
      (b, g.whole ∙ ap all_numbers (later_end text at l), rw e (sym (g.rest ∙ ap (λ (ps : List (List ℕ)). take i ns ++ values ps) (later_end text at l) ∙ append-nil (take i ns))))
