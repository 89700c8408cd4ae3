-- Lines out of standard input, read into a buffer of 65,536 bytes.
-- Document 01: "A line ends at byte 10, which isn't counted in it, or at the end of input; nothing after the last byte 10 is no line."
--     begun s most         how many bytes are kept of the line that is gone on with, most being what its buffer holds
--     ended                nothing is read any more, and no line is whole
--     read_gives           where reading stands after a read that failed, or gave so many bytes
--     WentOn               going on in what was read: a cut
--     ReadOnce             a read, whatever came of it
--     Reads                what waits is written out, and then there is a read; none where that write fails
--     Next                 going on in what was read, or reading where nothing of it is left
-- Assumes nothing.
use Rattle.std.specs.Prelude.{ℕ, ◌≤◌, ◌<◌, min, ◌≡◌, true, false, List, Option, Some, None, MatchOption, eqb, ltb, length, take, if◌then◌else◌}
use Rattle.text_output.specs.declared.Output.{Output}
use Rattle.text_output.specs.Output.{Flushed}
use Rattle.text_streams.specs.declared.input.Input.{Input}
use Rattle.text_streams.specs.Streams.{CutOut}

abbrev pub begun : Input → ℕ → ℕ
begun s most = if s.ready then 0 else min s.kept most

abbrev pub ended : Input
ended = record { at = 0; upto = 0; kept = 0; ready = false; more = false }

-- after a failure no line is whole; at the end of the input one that has any byte is
unfoldable pub read_gives : Option ℕ → ℕ → Input
read_gives None kept = ended
read_gives (Some n) kept =
    if eqb n 0
    then record { at = 0; upto = 0; kept = kept; ready = ltb 0 kept; more = false }
    else record { at = 0; upto = n; kept = kept; ready = false; more = true }

pub record WentOn (buffer : List ℕ) (at n : ℕ) (line : List ℕ) (kept : ℕ) (r : Input) (after : List ℕ) : Type 0 where
  pub cut : CutOut (take n buffer) at line kept (record { at = r.at; length = r.kept; ended = r.ready }) after
  pub upto : r.upto ≡ n
  pub more : r.more ≡ true

-- some answer came of the read
pub record ReadOnce (kept : ℕ) (r : Input) : Type 0 where
  pub got : Option ℕ
  pub fits : MatchOption got (Unit {0}) (λ n. n ≤ 65536)
  pub gives : r ≡ read_gives got kept

-- the line's buffer stays as it was
pub record Reads (kept : ℕ) (o : Output) (buffer line : List ℕ) (r : Input) (p : Output) (buffer_after line_after : List ℕ) : Type 0 where
  pub flushed : Flushed o p
  pub reads : p.well ≡ true → ReadOnce kept r
  pub ends : p.well ≡ false → (r ≡ ended) × (buffer_after ≡ buffer)
  pub same : line_after ≡ line

pub record Next (s : Input) (o : Output) (buffer line : List ℕ) (r : Input) (p : Output) (buffer_after line_after : List ℕ) : Type 0 where
  pub on :
      s.at < min s.upto 65536
      → (p ≡ o) × (buffer_after ≡ buffer) × WentOn buffer s.at (min s.upto 65536) line (begun s (length line)) r line_after
  pub read : min s.upto 65536 ≤ s.at → Reads (begun s (length line)) o buffer line r p buffer_after line_after
