-- State: what a number is, told to the host.
--     state_number s        the number that a state is told by
--     tell_state b h        the call
-- Assumes nothing.
use Rattle.std.specs.Prelude.{ℕ}
use Rattle.machine.specs.declared.State.{State}
use Rattle.machine.specs.declared.State.TheVariants.{LiveWhite, Doomed, Grey, Black, Free, Outside}
use Rattle.machine.specs.Heap.{Heap}
use Rattle.machine.specs.State.{state_of}
use Rattle.machine.specs.Entry.{entry}
use Rattle.machine.specs.Answers.{Given, done, unless}

-- 1 live white, 2 doomed, 3 grey, 4 black, 5 free, 6 outside
abbrev pub state_number : State → ℕ
state_number LiveWhite = 1
state_number Doomed = 2
state_number Grey = 3
state_number Black = 4
state_number Free = 5
state_number Outside = 6

-- for any number, refused by 1 and 2 alone; a number that is no block is outside the layout
unfoldable pub tell_state : ℕ → Heap → Given
tell_state b h = unless (entry h) h (done (state_number (state_of h b)) h)
