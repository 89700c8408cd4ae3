-- A search as it lies in two buffers of M numbers each: one has the blocks found, from its front on, the other how each block was come to.
--     so_far n queue came       the search that lies in them, with n blocks found
--     Lies m n queue came      one lies in them
--     Gives n queue came f     it is f
--     named_by words bytes b w  what word w of b names, by the word buffer and the reference bytes
-- Assumes nothing.
use Rattle.std.specs.Prelude.{ℕ, ◌≤◌, ◌≡◌, List, length, take}
use Rattle.machine.specs.Block.{eight_words, byte_of}
use Rattle.machine.specs.Search.{named_in, Found, found}
use Rattle.machine.specs.Searched.{Searched}

abbrev pub so_far : ℕ → List ℕ → List ℕ → Found
so_far n queue came = found (take n queue) came

pub record Lies (m n : ℕ) (queue came : List ℕ) : Type 0 where
  pub places : length queue ≡ m
  pub within : n ≤ m
  pub searched : Searched m (so_far n queue came)

abbrev pub Gives : ℕ → List ℕ → List ℕ → Found → Type 0
Gives n queue came f = (n ≡ length f.blocks) × (so_far n queue came ≡ f)

abbrev pub named_by : List ℕ → List ℕ → ℕ → ℕ → ℕ
named_by words bytes b w = named_in (eight_words words b) (byte_of bytes b) w
