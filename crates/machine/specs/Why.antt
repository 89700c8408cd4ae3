-- Why: the reason why a block is still here.
--     path_of h b           the path from the root to b, of a block that is allocated and not doomed; of any other none
--     reason_of h b         the reason
--     WhyGiven             what the call gives: the answer, Ok with the reason or Err with the refusal, and the three lent buffers afterwards; the heap stays
--     why_refusal lp lq lc b h     the first refusal, in the order tested, or 0; the numbers are the lengths of the lent buffers
--     why path queue came b h     the call
--     why_numbers a         the answer in numbers, for a caller that takes no enum
-- Assumes nothing.
use Rattle.std.specs.Prelude.{ℕ, ◌*◌, ◌-◌, ◌&&◌, List, [], ◌++◌, eqb, leb, length, replicate, if◌then◌else◌, Result, Ok, Err}
use Rattle.machine.specs.declared.Colour.{Colour}
use Rattle.machine.specs.declared.Colour.TheVariants as colours
use Rattle.machine.specs.declared.State.{State}
use Rattle.machine.specs.declared.State.TheVariants as states
use Rattle.machine.specs.declared.Reason.{Reason}
use Rattle.machine.specs.declared.Reason.TheVariants.{Free, Doomed, Reachable, Kept}
use Rattle.machine.specs.declared.Why.{Why}
use Rattle.machine.specs.declared.WhyNumbers.{WhyNumbers}
use Rattle.machine.specs.Tests.{◌▷◌}
use Rattle.machine.specs.Block.{is_block}
use Rattle.machine.specs.Heap.{Heap}
use Rattle.machine.specs.State.{state_of, is_live}
use Rattle.machine.specs.Entry.{heap_fits}
use Rattle.machine.specs.Audit.{passes}
use Rattle.machine.specs.Search.{came_to, search_of, Hop, path_to, path_numbers}

-- "The root itself has an empty path."
unfoldable pub path_of : Heap → ℕ → List Hop
path_of h b = if is_live (state_of h b) then path_to h.regs.blocks (search_of h).came b else []

-- "reachable, with a path .. from the root to it ..; or out of reach but not doomed, with its colour"
unfoldable pub live_reason : Heap → ℕ → Colour → Reason
live_reason h b c = if eqb (came_to (search_of h).came b) 0 then Kept c else Reachable (length (path_of h b))

-- "free; doomed; reachable ..; or out of reach"; no block of a heap that the audit accepts is outside the layout
unfoldable pub reason_from : Heap → ℕ → State → Reason
reason_from h b states.LiveWhite = live_reason h b colours.White
reason_from h b states.Doomed = Doomed
reason_from h b states.Grey = live_reason h b colours.Grey
reason_from h b states.Black = live_reason h b colours.Black
reason_from h b states.Free = Free
reason_from h b states.Outside = live_reason h b colours.Outside

abbrev pub reason_of : Heap → ℕ → Reason
reason_of h b = reason_from h b (state_of h b)

pub record WhyGiven : Type 0 where
  pub answer : Result Why ℕ
  pub path : List ℕ
  pub queue : List ℕ
  pub came : List ℕ

-- "1; 10 for a heap not accepted; 3 for the block; 13 when the lent buffers are shorter than M entries": an entry of the path is a pair
unfoldable pub why_refusal : ℕ → ℕ → ℕ → ℕ → Heap → ℕ
why_refusal lp lq lc b h =
    (if heap_fits h then 0 else 1)
    ▷ (if passes h then 0 else 10)
    ▷ (if is_block h.regs.blocks b then 0 else 3)
    ▷ (if leb (2 * h.regs.blocks) lp && (leb h.regs.blocks lq && leb h.regs.blocks lc) then 0 else 13)

-- these numbers, then 0 up to n of them
unfoldable pub padded : List ℕ → ℕ → List ℕ
padded ns n = ns ++ replicate (n - length ns) 0

-- "Path entries past the path and all working buffers end as 0." "Refusals .. changing no buffer"
unfoldable pub why : List ℕ → List ℕ → List ℕ → ℕ → Heap → WhyGiven
why path queue came b h =
    if eqb (why_refusal (length path) (length queue) (length came) b h) 0
    then
    record {
      answer = Ok (record { reason = reason_of h b });
      path = padded (path_numbers (path_of h b)) (length path);
      queue = replicate (length queue) 0;
      came = replicate (length came) 0;
    }
    else
    record {
      answer = Err (why_refusal (length path) (length queue) (length came) b h);
      path = path;
      queue = queue;
      came = came;
    }

abbrev pub told : ℕ → ℕ → ℕ → WhyNumbers
told reason pairs state = record { refusal = 0; reason = reason; pairs = pairs; state = state }

-- a kept block's colour by State's numbers: 1 live white, 3 grey, 4 black
abbrev pub kept_number : Colour → ℕ
kept_number colours.White = 1
kept_number colours.Grey = 3
kept_number colours.Black = 4
kept_number colours.Free = 5
kept_number colours.Outside = 6

abbrev pub reason_numbers : Reason → WhyNumbers
reason_numbers Free = told 1 0 0
reason_numbers Doomed = told 2 0 0
reason_numbers (Reachable n) = told 3 n 0
reason_numbers (Kept c) = told 4 0 (kept_number c)

abbrev pub why_numbers : Result Why ℕ → WhyNumbers
why_numbers (Err n) = record { refusal = n; reason = 0; pairs = 0; state = 0 }
why_numbers (Ok w) = reason_numbers w.reason
