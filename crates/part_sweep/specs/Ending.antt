-- The end of a sweep, met behind the last unit of a row. Within the row each unit moves the position on by one, past the sweep's last
-- block too; "after M + 1, phase 0 and position 0", which is now after the mark, is done once, behind it.
--     settled r            the registers r, with a sweep that has gone past its last block ended
--     settling p           the same of what a unit answers
--     Onward r p           where the unit is done, the position has gone on by one; the mark and the phase stay
-- Assumes nothing.
use Rattle.std.specs.Prelude.{◌+◌, ◌≡◌, Result, Ok, Err, eqb, if◌then◌else◌}
use Rattle.machine.specs.declared.Regs.{Regs}
use Rattle.machine.specs.declared.Damaged.{Damaged}
use Rattle.machine.specs.Registers.{idle, with_phase, with_position, sweep_end}

unfoldable pub settled : Regs → Regs
settled r = if eqb r.position (sweep_end r + 1) then with_position 0 (with_phase idle r) else r

abbrev pub settling : Result Regs Damaged → Result Regs Damaged
settling (Ok s) = Ok (settled s)
settling (Err d) = Err d

abbrev pub Onward : Regs → Result Regs Damaged → Type 0
Onward r (Ok s) = (s.position ≡ r.position + 1) × (s.mark ≡ r.mark) × (s.phase ≡ r.phase)
Onward r (Err d) = Unit {0}
