-- Laws of the byte of white words, which the first pass over a block's references gathers and the second greys.
--     whites_fit               it fits a byte
--     to_come, come_first       what is to come of the first pass: the byte gathered, and the rest of the reference byte
--     come_settled, come_white, come_damaged, come_end     over the word of the lowest bit, by what was seen; at the end
--     whites_named, whites_ask     the words it has name blocks
--     whites_grey, greyed_as   greying over them is greying over all references: what wasn't white is not greyed
--     looked_whites, looked_damaged     what the first pass's answer says
-- Assumes nothing.
use Prim.Native.Nat.{ℕ, zero, suc, ◌+◌, ◌-◌, ◌*◌, ◌/◌, ◌%◌, ◌^◌, ◌≤◌, ◌<◌}
use mathlib.Core.Path.{◌≡◌, refl, sym, ◌∙◌, ap, subst}
use mathlib.Core.Logic.{◌≢◌}
use mathlib.Core.Bool.{Bool, true, false}
use mathlib.Core.List.{List, ◌∷◌}
use native.Mathlib.Nat.{pow-suc}
use native.Mathlib.Omega.{arith}
use lib.Count.{count_trailing_zeros, under}
use lib.Dec.{eqb}
use lib.ListN.{length, get_or}
use Rattle.machine.specs.declared.Seen.{Seen}
use Rattle.machine.specs.declared.Seen.TheVariants.{Settled, ToGrey, Damaged}
use Rattle.std.specs.Prelude.{if◌then◌else◌}
use Rattle.machine.specs.Block.{references}
use Rattle.machine.specs.Colouring.{Colouring, to_black, first_grey, grey_white, grey_all}
use Rattle.machine.specs.OneUnit.{all_sound}
use Rattle.machine.specs.Seen.{seen, Named}
use Rattle.machine.proofs.Tests.{by_test}
use Rattle.machine.proofs.Blocks.{is_block_block}
use Rattle.machine.proofs.Steps.{never}
use Rattle.machine.proofs.LowestBit.{along, along_all, lowest_shift, trailing_within, trailing_byte}
use Rattle.machine.proofs.Marking.{sound_on, sound_off, sound_end}
use Rattle.machine.proofs.Seeing.{sound_seen, white_block, Darker, darker_black, darker_grey, not_greyed}
use Rattle.std.specs.Prelude.{Result, Ok, Err}
use Rattle.machine.specs.declared.Damaged as damaged
use Rattle.part_mark.specs.Whites.{if_white, whites_from, whites, looked}

abbrev byte_in : Result ℕ damaged.Damaged → ℕ
byte_in (Ok v) = v
byte_in (Err d) = 0

-- what an answer says: all are sound, and the byte; or not
pub looked_whites : (s : Bool) (w : ℕ) {v : ℕ} {x : Result ℕ damaged.Damaged} → x ≡ looked s w → x ≡ Ok v → (s ≡ true) × (v ≡ w)
unfolding looked
looked_whites true w e q = (refl, ap byte_in (sym q ∙ e))
looked_whites false w e q = never (cc)

pub looked_damaged : (s : Bool) (w : ℕ) {x : Result ℕ damaged.Damaged} {d : damaged.Damaged} → x ≡ looked s w → x ≡ Err d → s ≡ false
unfolding looked
looked_damaged true w e q = never (cc)
looked_damaged false w e q = refl

twice : (s : Seen) (v : ℕ) → if_white s (v * 2) ≡ 2 * if_white s v
twice Settled v = refl
twice ToGrey v = omega arith
twice Damaged v = refl

most : (s : Seen) → if_white s 1 ≤ 1
most Settled = omega arith
most ToGrey = omega arith
most Damaged = omega arith

module _ (now : Colouring) (part : List ℕ) where
  abbrev m : ℕ
  m = now.blocks

  -- the lowest bit of the white words from word w on
  abbrev low : ℕ → ℕ → ℕ
  low w rest = if eqb (rest % 2) 1 then if_white (seen now (get_or part w 0)) 1 else 0

  low_most : (w rest : ℕ) → low w rest ≤ 1
  low_most w rest = by_test (eqb (rest % 2) 1) (λ t. rw t (most (seen now (get_or part w 0)))) (λ t. rw t (omega arith))

  from_fits : (n w rest : ℕ) → whites_from n w now part rest < 2 ^ n
  unfolding whites_from
  from_fits zero w rest = omega arith
  from_fits (suc n) w rest =
      let p : 2 ^ suc n ≡ 2 ^ n * 2 = pow-suc 2 n in
      let i = from_fits n (w + 1) (rest / 2) in
      let l = low_most w rest in omega arith

  pub whites_fit : (byte : ℕ) → whites now part byte < 256
  whites_fit byte = from_fits 8 0 byte

  from_none : (n w : ℕ) → whites_from n w now part 0 ≡ 0
  unfolding whites_from
  from_none zero w = refl
  from_none (suc n) w = let i = from_none n (w + 1) in omega arith

  from_lowest : (n w rest : ℕ) → count_trailing_zeros n rest < n
      → whites_from n w now part rest ≡ if_white (seen now (get_or part (w + count_trailing_zeros n rest) 0)) (2 ^ count_trailing_zeros n rest) + whites_from n w now part (rest - 2 ^ count_trailing_zeros n rest)
  unfolding whites_from count_trailing_zeros
  from_lowest zero w rest l = absurd (omega arith)
  from_lowest (suc n) w rest l = go (rest % 2) refl l (from_lowest n (w + 1) (rest / 2))
    where
      go : (d : ℕ) → rest % 2 ≡ d → under d (count_trailing_zeros n (rest / 2)) < suc n
          → (count_trailing_zeros n (rest / 2) < n
          → whites_from n (w + 1) now part (rest / 2) ≡ if_white (seen now (get_or part (w + 1 + count_trailing_zeros n (rest / 2)) 0)) (2 ^ count_trailing_zeros n (rest / 2)) + whites_from n (w + 1) now part (rest / 2 - 2 ^ count_trailing_zeros n (rest / 2)))
          → whites_from (suc n) w now part rest ≡ if_white (seen now (get_or part (w + under d (count_trailing_zeros n (rest / 2))) 0)) (2 ^ under d (count_trailing_zeros n (rest / 2))) + whites_from (suc n) w now part (rest - 2 ^ under d (count_trailing_zeros n (rest / 2)))
      go zero e l i =
          let t = count_trailing_zeros n (rest / 2) in
          let p : 2 ^ suc t ≡ 2 ^ t * 2 = pow-suc 2 t in
          let a : w + 1 + t ≡ w + suc t = omega arith in
          let b : (rest - 2 ^ suc t) % 2 ≡ 0 = omega arith in
          let c : (rest - 2 ^ suc t) / 2 ≡ rest / 2 - 2 ^ t = omega arith in
          let h = rw a at (i (omega arith)) in
          let v : if_white (seen now (get_or part (w + suc t) 0)) (2 ^ suc t) ≡ 2 * if_white (seen now (get_or part (w + suc t) 0)) (2 ^ t) = rw p (twice (seen now (get_or part (w + suc t) 0)) (2 ^ t)) in
          rw (e, b, c) (omega arith)
      go (suc d) e l i =
          let o : rest % 2 ≡ 1 = omega arith in
          let b : (rest - 1) % 2 ≡ 0 = omega arith in
          let c : (rest - 1) / 2 ≡ rest / 2 = omega arith in
          let a : w + 0 ≡ w = omega arith in
          rw (o, b, c, a) (omega arith)

  -- what is to come of the first pass, with white gathered and the rest of the byte
  abbrev pub to_come : ℕ → ℕ → Result ℕ damaged.Damaged
  to_come white rest = looked (all_sound now (references part rest)) (white + whites now part rest)

  pub come_first : (byte : ℕ) → looked (all_sound now (references part byte)) (whites now part byte) ≡ to_come 0 byte
  come_first byte = let z : 0 + whites now part byte ≡ whites now part byte = omega arith in rw z refl

  pub come_end : (white rest : ℕ) → rest ≡ 0 → Ok white ≡ to_come white rest
  unfolding looked
  come_end white rest z =
      let a : white + whites now part rest ≡ white = rw z (rw (from_none 8 0) (omega arith)) in
      rw (sound_end part rest z now, a) refl

  module _ (rest t : ℕ) (f : rest < 256) (n : rest ≢ 0) (e : t ≡ count_trailing_zeros 32 rest) (x : Seen) (s : x ≡ seen now (get_or part t 0)) (white : ℕ) where
    abbrev left : ℕ
    left = rest - 1 * 2 ^ t % 4294967296

    gathered : whites now part rest ≡ if_white x (2 ^ t) + whites now part left
    gathered =
        let z : 0 + count_trailing_zeros 8 rest ≡ count_trailing_zeros 8 rest = omega arith in
        rw (lowest_shift rest t f n e, s, trailing_byte rest t f n e) (rw z at (from_lowest 8 0 rest (trailing_within rest t f n e)))

    pub come_settled : x ≡ Settled → to_come white rest ≡ to_come white left
    come_settled q =
        let h : whites now part rest ≡ 0 + whites now part left = rw q at gathered in
        let g : whites now part rest ≡ whites now part left = omega arith in
        rw (sound_on part rest t f n e now (sound_seen now (get_or part t 0) ∙ rw (← s, q) refl), g) refl

    pub come_white : x ≡ ToGrey → to_come white rest ≡ to_come (white + 1 * 2 ^ t % 4294967296) left
    come_white q =
        let g : whites now part rest ≡ 2 ^ t + whites now part left = rw q at gathered in
        let h = lowest_shift rest t f n e in
        let a : white + whites now part rest ≡ white + 1 * 2 ^ t % 4294967296 + whites now part left = omega arith in
        rw (sound_on part rest t f n e now (sound_seen now (get_or part t 0) ∙ rw (← s, q) refl), a) refl

    pub come_damaged : {d : damaged.Damaged} → x ≡ Damaged → Err d ≡ to_come white rest
    unfolding looked
    come_damaged q = rw (sound_off part rest t f n e now (sound_seen now (get_or part t 0) ∙ rw (← s, q) refl)) refl

  -- the second pass: the words after word w, where its bit is clear and where it is set
  skipped : (n w k : ℕ) → along part (suc n) w (0 + 2 * k) ≡ along part n (w + 1) k
  unfolding along
  skipped n w k =
      let a : (0 + 2 * k) % 2 ≡ 0 = omega arith in
      let b : (0 + 2 * k) / 2 ≡ k = omega arith in
      rw (a, b) refl

  taken : (n w k : ℕ) → along part (suc n) w (1 + 2 * k) ≡ get_or part w 0 ∷ along part n (w + 1) k
  unfolding along
  taken n w k =
      let a : (1 + 2 * k) % 2 ≡ 1 = omega arith in
      let b : (1 + 2 * k) / 2 ≡ k = omega arith in
      rw (a, b) refl

  from_named : (n w rest : ℕ) → Named m (along part n w (whites_from n w now part rest))
  unfolding whites_from along
  from_named zero w rest = tt
  from_named (suc n) w rest =
      by_test (eqb (rest % 2) 1)
      (λ t. rw t (go (seen now (get_or part w 0)) refl (from_named n (w + 1) (rest / 2))))
      (λ t. rw (t, skipped n w (whites_from n (w + 1) now part (rest / 2))) (from_named n (w + 1) (rest / 2)))
    where
      go : (s : Seen) → seen now (get_or part w 0) ≡ s → Named m (along part n (w + 1) (whites_from n (w + 1) now part (rest / 2)))
          → Named m (along part (suc n) w (if_white s 1 + 2 * whites_from n (w + 1) now part (rest / 2)))
      go Settled q i = rw (skipped n w (whites_from n (w + 1) now part (rest / 2))) i
      go ToGrey q i = rw (taken n w (whites_from n (w + 1) now part (rest / 2))) ((λ z. is_block_block m (get_or part w 0) (white_block now (get_or part w 0) q)), i)
      go Damaged q i = rw (skipped n w (whites_from n (w + 1) now part (rest / 2))) i

  from_grey : (n w rest : ℕ) (k : Colouring) → Darker now k → grey_all (along part n w rest) k ≡ grey_all (along part n w (whites_from n w now part rest)) k
  unfolding whites_from along grey_all
  from_grey zero w rest k d = refl
  from_grey (suc n) w rest k d =
      by_test (eqb (rest % 2) 1)
      (λ t. rw t (go (seen now (get_or part w 0)) refl (from_grey n (w + 1) (rest / 2))))
      (λ t. rw (t, skipped n w (whites_from n (w + 1) now part (rest / 2))) (from_grey n (w + 1) (rest / 2) k d))
    where
      stays : seen now (get_or part w 0) ≢ ToGrey
          → ((j : Colouring) → Darker now j → grey_all (along part n (w + 1) (rest / 2)) j ≡ grey_all (along part n (w + 1) (whites_from n (w + 1) now part (rest / 2))) j)
          → grey_all (along part n (w + 1) (rest / 2)) (grey_white (get_or part w 0) k) ≡ grey_all (along part (suc n) w (0 + 2 * whites_from n (w + 1) now part (rest / 2))) k
      stays o i = rw (skipped n w (whites_from n (w + 1) now part (rest / 2)), ← not_greyed now (get_or part w 0) k d o) (i k d)

      go : (s : Seen) → seen now (get_or part w 0) ≡ s
          → ((j : Colouring) → Darker now j → grey_all (along part n (w + 1) (rest / 2)) j ≡ grey_all (along part n (w + 1) (whites_from n (w + 1) now part (rest / 2))) j)
          → grey_all (along part n (w + 1) (rest / 2)) (grey_white (get_or part w 0) k) ≡ grey_all (along part (suc n) w (if_white s 1 + 2 * whites_from n (w + 1) now part (rest / 2))) k
      go Settled q i = stays (λ z. never (cc)) i
      go ToGrey q i = rw (taken n w (whites_from n (w + 1) now part (rest / 2))) (i (grey_white (get_or part w 0) k) (darker_grey now (get_or part w 0) k d))
      go Damaged q i = stays (λ z. never (cc)) i

  pub whites_named : (n byte : ℕ) → n ≡ m → Named n (references part (whites now part byte))
  whites_named n byte e = rw e (subst (Named m) (sym (along_all part (whites now part byte))) (from_named 8 0 byte))

  pub whites_grey : (byte : ℕ) (k : Colouring) → Darker now k → grey_all (references part (whites now part byte)) k ≡ grey_all (references part byte) k
  whites_grey byte k d = rw (along_all part (whites now part byte), along_all part byte) (sym (from_grey 8 0 byte k d))

  -- what the second pass asks of the byte that the first answered
  pub whites_ask : (n v byte : ℕ) {x : Result ℕ damaged.Damaged} → x ≡ looked (all_sound now (references part byte)) (whites now part byte) → x ≡ Ok v → n ≡ m
      → (v < 256) × Named n (references part v)
  whites_ask n v byte a b e =
      let (s, q) = looked_whites (all_sound now (references part byte)) (whites now part byte) a b in
      (rw q (whites_fit byte), rw q (whites_named n byte e))

  -- once the first grey block, which is marked, is black; v is what the code has for the byte
  pub greyed_as : (v byte : ℕ) (k : Colouring) → v ≡ whites now part byte → first_grey now - 2 < length now.cells → k ≡ to_black now
      → grey_all (references part v) k ≡ grey_all (references part byte) k
  greyed_as v byte k q l b = rw (q, b) (whites_grey byte (to_black now) (darker_black now l))
