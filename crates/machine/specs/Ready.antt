-- What tests 1 and 2 establish, as facts about numbers: what the functions below the calls ask of their caller.
--     Ready h              the heap h passes tests 1 and 2
-- Assumes nothing.
use Rattle.std.specs.Prelude.{◌+◌, ◌*◌, ◌≤◌, ◌≡◌, ◌≢◌, true, length}
use Rattle.machine.specs.Registers.{sweeping, sweep_end}
use Rattle.machine.specs.Colouring.{CellsFit, head_legal}
use Rattle.machine.specs.Heap.{Heap}
use Rattle.machine.specs.WellFormed.{Block}

pub record Ready (h : Heap) : Type 0 where
  pub some : 1 ≤ h.regs.blocks
  pub most : h.regs.blocks ≤ 16384
  pub pace : h.regs.pace ≤ 65535
  pub words : length h.words ≡ 8 * h.regs.blocks
  pub colours : CellsFit h.regs.blocks h.colours
  pub bytes : length h.bytes ≡ h.regs.blocks
  pub phase : h.regs.phase ≤ 2
  pub grey : head_legal h.regs.blocks h.regs.phase h.regs.grey ≡ true
  pub free : h.regs.free ≢ 0 → Block h.regs.blocks h.regs.free
  pub root : h.regs.root ≢ 0 → Block h.regs.blocks h.regs.root
  pub count : h.regs.count ≤ h.regs.blocks
  pub marked : (1 ≤ h.regs.mark) × (h.regs.mark ≤ h.regs.blocks + 1)
  pub placed : h.regs.phase ≡ sweeping → (2 ≤ h.regs.position) × (h.regs.position ≤ sweep_end h.regs)
  pub parked : h.regs.phase ≢ sweeping → h.regs.position ≡ 0
