-- Load: the heap of an image, read into lent buffers.
--     same_lengths h k      the three buffers of h and of k have the same lengths
--     load_refusal i h      the first refusal, in the order tested, or 0
--     load i h             the call; of h it looks at the buffers' lengths alone
-- Assumes nothing.
use Rattle.std.specs.Prelude.{ℕ, Bool, ◌&&◌, List, eqb, length, if◌then◌else◌}
use Rattle.machine.specs.Tests.{◌▷◌}
use Rattle.machine.specs.Heap.{Heap}
use Rattle.machine.specs.Answers.{Given, unless, done}
use Rattle.machine.specs.Image.{decode, is_image}

unfoldable pub same_lengths : Heap → Heap → Bool
same_lengths h k =
    eqb (length h.words) (length k.words)
    && (eqb (length h.colours) (length k.colours) && eqb (length h.bytes) (length k.bytes))

-- "on reading, 10 for a bad image, then 13 for lent buffers of other lengths"
unfoldable pub load_refusal : List ℕ → Heap → ℕ
load_refusal i h = (if is_image i then 0 else 10) ▷ (if same_lengths h (decode i) then 0 else 13)

-- "A refusal writes nothing."
unfoldable pub load : List ℕ → Heap → Given
load i h = unless (load_refusal i h) h (done 0 (decode i))
