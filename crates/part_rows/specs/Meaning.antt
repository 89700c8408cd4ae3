-- What an export's answer means.
--     Completes s b n out     the list from b on has n rows, at most M, and they fit the buffer
--     Halts s b n room r   at the block b, after n rows, an export stops for the reason r, and for none that is tested before it
--     Stops s b n r out    the list from b on goes through n blocks, whose rows fit, to a block at which the export stops for r
--     ExportMeans s b out  an export answers complete exactly where it Completes, and stopped exactly where it Stops; either way the
--                          buffer then has the rows of the blocks passed, and behind them what it had
-- Assumes nothing.
use Rattle.std.specs.Prelude.{ℕ, ◌+◌, ◌*◌, ◌≤◌, ◌<◌, ◌≡◌, ◌↔◌, ◌≢◌, List, ◌++◌, Ok, length, drop}
use Rattle.part_rows.specs.declared.Reason.{Reason}
use Rattle.part_rows.specs.declared.Reason.TheVariants.{Circle, NoRoom, Refused, NoReference}
use Rattle.part_rows.specs.Shape.{Shape}
use Rattle.part_rows.specs.Rows.{complete, off, export_rows}
use Rattle.part_rows.specs.Lists.{Along, Listed, rows_of}

pub record Completes (s : Shape) (b n : ℕ) (out : List ℕ) : Type 0 where
  pub blocks : List ℕ
  pub listed : Listed s b blocks
  pub many : length blocks ≡ n
  pub few : n ≤ s.most
  pub room : s.width * n ≤ length out

pub data Halts (s : Shape) (b n room : ℕ) : Reason → Type 0 where
  circle : n ≡ s.most → Halts s b n room Circle
  full : n < s.most → room < s.width * n + s.width → Halts s b n room NoRoom
  refused : {e : ℕ} → n < s.most → s.width * n + s.width ≤ room → e ≢ 0 → (s.link b).refusal ≡ e → Halts s b n room (Refused e)
  number : n < s.most → s.width * n + s.width ≤ room → (s.link b).refusal ≡ 0 → (s.link b).reference ≢ 1 → Halts s b n room NoReference

pub record Stops (s : Shape) (b n : ℕ) (r : Reason) (out : List ℕ) : Type 0 where
  pub blocks : List ℕ
  pub at : ℕ
  pub along : Along s b blocks at
  pub more : at ≢ 0
  pub many : length blocks ≡ n
  pub few : n ≤ s.most
  pub room : s.width * n ≤ length out
  pub why : Halts s at n (length out) r

pub record ExportMeans (s : Shape) (b : ℕ) (out : List ℕ) : Type 0 where
  pub completes : (n : ℕ) → ((export_rows s b out).answer ≡ Ok n) ↔ Completes s b n out
  pub stops : (n : ℕ) (r : Reason) → ((export_rows s b out).answer ≡ off n r) ↔ Stops s b n r out
  -- "the buffer's first 8n words are those blocks' words in order and the rest is as before"
  pub rows : {n : ℕ} (c : Completes s b n out) → (export_rows s b out).out ≡ rows_of s c.blocks ++ drop (s.width * n) out
  -- "a stopped export has written exactly the rows counted, the rest of the buffer is as before"
  pub written : {n : ℕ} {r : Reason} (t : Stops s b n r out) → (export_rows s b out).out ≡ rows_of s t.blocks ++ drop (s.width * n) out
  -- "Start 0 is complete with 0 rows whatever the heap."
  pub empty : export_rows s 0 out ≡ complete 0 out
