-- The register record: its setters, and the registers of a fresh heap. No other definition writes the record out but `regs_of` (Image.antt).
-- "Register record: M; pace U (0 to 65,535); phase (0 idle, 1 marking, 2 sweeping); grey head (1 when none); free head; free count;
-- sweep position; root (0 or a block); cycle number, which goes from 4,294,967,295 back to 0."
-- "Keep in the register record the highest block number handed out since format (the mark; 1 when none)."
-- The fields are blocks (M), pace, phase, grey, free, count, position, root, cycle, mark.
--     idle, marking, sweeping              the phases
--     with_phase p r, .. with_mark b r       r with that register changed
--     raised b r                           r with its mark raised to b, where it is lower
--     fresh_regs m u                        the registers that Format leaves
--     next_cycle n                          the cycle number after n
--     sweep_end r                           the last block that a sweep reaches
-- Assumes nothing.
use Rattle.std.specs.Prelude.{ℕ, ◌+◌, ◌%◌, ◌^◌, max}
use Rattle.machine.specs.declared.Regs.{Regs}

abbrev pub idle : ℕ
idle = 0

abbrev pub marking : ℕ
marking = 1

abbrev pub sweeping : ℕ
sweeping = 2

abbrev pub with_phase : ℕ → Regs → Regs
with_phase p r = record { blocks = r.blocks; pace = r.pace; phase = p; grey = r.grey; free = r.free; count = r.count; position = r.position; root = r.root; cycle = r.cycle; mark = r.mark }

abbrev pub with_grey : ℕ → Regs → Regs
with_grey b r = record { blocks = r.blocks; pace = r.pace; phase = r.phase; grey = b; free = r.free; count = r.count; position = r.position; root = r.root; cycle = r.cycle; mark = r.mark }

abbrev pub with_free : ℕ → Regs → Regs
with_free b r = record { blocks = r.blocks; pace = r.pace; phase = r.phase; grey = r.grey; free = b; count = r.count; position = r.position; root = r.root; cycle = r.cycle; mark = r.mark }

abbrev pub with_count : ℕ → Regs → Regs
with_count n r = record { blocks = r.blocks; pace = r.pace; phase = r.phase; grey = r.grey; free = r.free; count = n; position = r.position; root = r.root; cycle = r.cycle; mark = r.mark }

abbrev pub with_position : ℕ → Regs → Regs
with_position b r = record { blocks = r.blocks; pace = r.pace; phase = r.phase; grey = r.grey; free = r.free; count = r.count; position = b; root = r.root; cycle = r.cycle; mark = r.mark }

abbrev pub with_root : ℕ → Regs → Regs
with_root b r = record { blocks = r.blocks; pace = r.pace; phase = r.phase; grey = r.grey; free = r.free; count = r.count; position = r.position; root = b; cycle = r.cycle; mark = r.mark }

abbrev pub with_cycle : ℕ → Regs → Regs
with_cycle n r = record { blocks = r.blocks; pace = r.pace; phase = r.phase; grey = r.grey; free = r.free; count = r.count; position = r.position; root = r.root; cycle = n; mark = r.mark }

abbrev pub with_mark : ℕ → Regs → Regs
with_mark b r = record { blocks = r.blocks; pace = r.pace; phase = r.phase; grey = r.grey; free = r.free; count = r.count; position = r.position; root = r.root; cycle = r.cycle; mark = b }

abbrev pub raised : ℕ → Regs → Regs
raised b r = with_mark (max r.mark b) r

-- "free head 2, free count M, phase 0, grey head 1, position, root and cycle 0"; the mark is "1 when none"
abbrev pub fresh_regs : ℕ → ℕ → Regs
fresh_regs m u = record { blocks = m; pace = u; phase = idle; grey = 1; free = 2; count = m; position = 0; root = 0; cycle = 0; mark = 1 }

-- "cycle number, which goes from 4,294,967,295 back to 0"
abbrev pub next_cycle : ℕ → ℕ
next_cycle n = (n + 1) % 2 ^ 32

-- "The sweep ends after that block": the mark
abbrev pub sweep_end : Regs → ℕ
sweep_end r = r.mark
