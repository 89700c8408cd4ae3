-- What waits to be written on standard output, in a buffer of 65,536 bytes.
-- Document 01: "It prints answer, value, units". What is written lies outside the logic: here is what the buffer has of it.
--     Flushed              nothing waits any more, what has failed stays failed, and the buffer stays as it is
--     Roomy                there is room for a number and a byte, 21 bytes: where there was none, what waited has been written
--     Spelt                a number in decimal, in the fewest digits that hold it, and a byte, after what stands before a place
--     Put                  the same after what waits, or at the buffer's start once that has been written
--     PutThree             three numbers, parted by spaces and ended by byte 10
-- Assumes nothing.
use Rattle.std.specs.Prelude.{ℕ, ◌+◌, ◌≤◌, ◌<◌, ◌≡◌, false, List, [], ◌∷◌, ◌++◌, take}
use Rattle.io.specs.Digits.{last_digits, IsDigitCount}
use Rattle.text_output.specs.declared.Output.{Output}

pub record Flushed (o r : Output) : Type 0 where
  pub none : r.used ≡ 0
  pub ill : o.well ≡ false → r.well ≡ false
  pub same : r.buffer ≡ o.buffer

pub record Roomy (o r : Output) : Type 0 where
  pub stays : o.used ≤ 65515 → r ≡ o
  pub flushed : 65515 < o.used → Flushed o r
  pub fits : r.used ≤ 65515

pub record Spelt (out : List ℕ) (at n stop r : ℕ) (after : List ℕ) : Type 0 where
  pub places : ℕ
  pub fewest : IsDigitCount 10 1 n places
  pub place : r ≡ at + places + 1
  pub fits : r ≤ 65536
  pub bytes : take r after ≡ take at out ++ (last_digits 10 places n ++ stop ∷ [])

pub record Put (o : Output) (n stop : ℕ) (r : Output) : Type 0 where
  pub to : Output
  pub roomy : Roomy o to
  pub spelt : Spelt to.buffer to.used n stop r.used r.buffer
  pub well : r.well ≡ to.well

pub record PutThree (o : Output) (x y z : ℕ) (r : Output) : Type 0 where
  pub one : Output
  pub two : Output
  pub first : Put o x 32 one
  pub second : Put one y 32 two
  pub third : Put two z 10 r
