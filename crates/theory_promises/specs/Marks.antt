-- The mark, as document 02 says it of all calls together: "the highest block number handed out since format (the mark; 1 when none)".
--     handed_out d h        the block that the deed d takes on h, 1 where it takes none
--     highest ds h         the highest block that the deeds ds take, one after another from h on, 1 where they take none
--     MarkIsHighest        on a fresh heap, without Format and Load, the mark is that of the session's deeds
-- Assumes nothing.
use Rattle.std.specs.Prelude.{ℕ, max, ◌≤◌, ◌≡◌, List, [], ◌∷◌}
use Rattle.machine.specs.Heap.{Heap}
use Rattle.machine.specs.Format.{formatted}
use Rattle.machine.specs.Session.{Call, session}
use Rattle.theory_promises.specs.Deeds.{Deed, a_unit, an_act, a_number, a_reference, a_root, a_take, deed}
use Rattle.theory_promises.specs.Sessions.{NoReset, session_deeds}

-- "takes the first free block"
abbrev pub handed_out : Deed → Heap → ℕ
handed_out a_unit h = 1
handed_out (an_act (a_number b w v)) h = 1
handed_out (an_act (a_reference b w t)) h = 1
handed_out (an_act (a_root t)) h = 1
handed_out (an_act (a_take b w)) h = h.regs.free

abbrev pub highest : List Deed → Heap → ℕ
highest [] h = 1
highest (d ∷ ds) h = max (handed_out d h) (highest ds (deed d h))

abbrev pub MarkIsHighest : Type 0
MarkIsHighest =
    (m u : ℕ) → 1 ≤ m → m ≤ 16384 → u ≤ 65535 → (cs : List Call) → NoReset cs (formatted m u)
    → (session cs (formatted m u)).regs.mark ≡ highest (session_deeds cs (formatted m u)) (formatted m u)
