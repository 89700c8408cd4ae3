-- What a line of text says: three numbers, and the heap afterwards.
-- Document 01: "It prints answer, value, units; for R the third number is 1 for a reference."
--     Spoken               what a line gives; said s ws cs bs puts one together from a result and the buffers
--     plainly g, reading g     what is said of what a call gives, and of what Read gives
--     blocks_of c r         how many blocks a command acts on
-- Assumes nothing.
use Rattle.std.specs.Prelude.{ℕ, List}
use Rattle.machine.specs.declared.Regs.{Regs}
use Rattle.machine.specs.Heap.{Heap, heap}
use Rattle.machine.specs.Answers.{Given, ReadGiven}
use Rattle.text_commands.specs.declared.Said.{Said}
use Rattle.text_commands.specs.declared.Command.{Command}
use Rattle.text_commands.specs.declared.Command.TheVariants.{Format, Read, StoreNumber, StoreReference, SetRoot, Allocate, Work, Audit}

pub record Spoken : Type 0 where
  pub first : ℕ
  pub second : ℕ
  pub third : ℕ
  pub heap : Heap

abbrev pub spoken : ℕ → ℕ → ℕ → Heap → Spoken
spoken a b c h = record { first = a; second = b; third = c; heap = h }

abbrev pub said : Said → List ℕ → List ℕ → List ℕ → Spoken
said s ws cs bs = spoken s.first s.second s.third (heap s.regs ws cs bs)

-- "answer, value, units"
abbrev pub plainly : Given → Spoken
plainly g = spoken g.answer.refusal g.answer.value g.answer.units g.heap

-- "for R the third number is 1 for a reference"
abbrev pub reading : ReadGiven → Spoken
reading g = spoken g.answer.refusal g.answer.value g.answer.reference g.heap

-- Format's own M, else that of the registers
abbrev pub blocks_of : Command → Regs → ℕ
blocks_of (Format m u) r = m
blocks_of (Read b w) r = r.blocks
blocks_of (StoreNumber b w v) r = r.blocks
blocks_of (StoreReference b w t) r = r.blocks
blocks_of (SetRoot t) r = r.blocks
blocks_of (Allocate b w) r = r.blocks
blocks_of (Work n) r = r.blocks
blocks_of Audit r = r.blocks
