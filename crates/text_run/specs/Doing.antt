-- What is done with a line from standard input.
-- Document 01: "The program `heaprun` reads lines" and "prints answer, value, units".
--     Did                  a line was done: the heap is the one that it gives, and its three numbers wait to be written
--     Turn                 a line that is whole is done; one that is not changes nothing
-- Assumes nothing.
use Rattle.std.specs.Prelude.{ℕ, ◌≡◌, Option, Some, None, List}
use denote.Bor.{Bor}
use Rattle.machine.specs.declared.Regs.{Regs}
use Rattle.machine.specs.Heap.{heap}
use Rattle.text_commands.specs.Saying.{Spoken}
use Rattle.text_lines.specs.Line.{line_gives}
use Rattle.text_output.specs.declared.Output.{Output}
use Rattle.text_output.specs.Output.{PutThree}

-- s is what the line gives
pub record Did (s : Spoken) (o : Output) (r : Regs) (words colours bytes : List ℕ) (p : Output) : Type 0 where
  pub left : heap r words colours bytes ≡ s.heap
  pub puts : PutThree o s.first s.second s.third p

pub record Turn
    (r : Regs) (words colours bytes : List ℕ) (line : Option (Bor (List ℕ))) (o : Output) (r_after : Regs) (words_after colours_after bytes_after : List ℕ) (p : Output)
    : Type 0 where
  pub does : (l : Bor (List ℕ)) → line ≡ Some l → Did (line_gives l.now (heap r words colours bytes)) o r_after words_after colours_after bytes_after p
  pub waits : line ≡ None → (heap r_after words_after colours_after bytes_after ≡ heap r words colours bytes) × (p ≡ o)
