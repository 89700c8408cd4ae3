-- The abstract heap and what is asked of it.
--     Abs                  phase, position, root, the mark, a colour for each block, and each block's words and reference bits
--     idle, marking, sweeping    the phases
--     named t x            x where the word is a reference, else 0
--     ref h b w            the block that word w of b names as a reference, or 0
--     Reached h x          x is reachable from the root
--     Doomed h b           sweeping, at or above the position, white
--     Live M h b           an allocated block that isn't doomed
--     Sound M h            what every move keeps
--     span h               how many blocks lie at or below the mark: those that a sweep visits
-- No block above the mark was handed out so far; it is 1 where none was.
-- "0 or P x" is always said as: x ≢ 0 → P x.
-- Assumes nothing.
use Rattle.std.specs.Prelude.{ℕ, ◌+◌, ◌-◌, ◌≤◌, ◌<◌, ◌≡◌, ◌≢◌, Bool, true, false}
use Rattle.theory_reach.specs.Reaching.{Reach}
use Rattle.theory_reach.specs.Sums.{Block}
use Rattle.theory_moves.specs.Tints.{Tint, White, Grey, Black, Free}

pub record Abs : Type 0 where
  pub phase : ℕ
  pub position : ℕ
  pub root : ℕ
  pub mark : ℕ
  pub tint : ℕ → Tint
  pub word : ℕ → ℕ → ℕ
  pub is_ref : ℕ → ℕ → Bool

abbrev pub idle : ℕ
idle = 0

abbrev pub marking : ℕ
marking = 1

abbrev pub sweeping : ℕ
sweeping = 2

-- a word, read as a reference
unfoldable pub named : Bool → ℕ → ℕ
named true x = x
named false x = 0

abbrev pub ref : Abs → ℕ → ℕ → ℕ
ref h b w = named (h.is_ref b w) (h.word b w)

abbrev pub Reached : Abs → ℕ → Type 0
Reached h x = Reach h.root (ref h) x

pub record Doomed (h : Abs) (b : ℕ) : Type 0 where
  pub phase : h.phase ≡ sweeping
  pub ahead : h.position ≤ b
  pub white : h.tint b ≡ White

pub record Live (M : ℕ) (h : Abs) (b : ℕ) : Type 0 where
  pub block : Block M b
  pub allocated : h.tint b ≢ Free
  pub spared : Doomed h b → ⊥

pub record Sound (M : ℕ) (h : Abs) : Type 0 where
  -- idle: none grey or black
  pub idle_grey : h.phase ≡ idle → (b : ℕ) → Block M b → h.tint b ≢ Grey
  pub idle_black : h.phase ≡ idle → (b : ℕ) → Block M b → h.tint b ≢ Black
  -- marking: the root isn't white, no black block names a white one
  pub root_marked : h.phase ≡ marking → h.root ≢ 0 → h.tint h.root ≢ White
  pub named_marked : h.phase ≡ marking → (b w x : ℕ) → Block M b → h.tint b ≡ Black → ref h b w ≡ x → x ≢ 0 → h.tint x ≢ White
  -- sweeping: none grey, none black below the position
  pub swept_grey : h.phase ≡ sweeping → (b : ℕ) → Block M b → h.tint b ≢ Grey
  pub swept_black : h.phase ≡ sweeping → (b : ℕ) → Block M b → b < h.position → h.tint b ≢ Black
  -- the mark is 1 or a block, the blocks above it are free, and the sweep doesn't pass it
  pub mark_low : 1 ≤ h.mark
  pub mark_high : h.mark ≤ M + 1
  pub mark_over : (b : ℕ) → Block M b → h.mark < b → h.tint b ≡ Free
  pub swept_mark : h.phase ≡ sweeping → h.position ≤ h.mark
  -- always: the root is 0 or live, each reference of a live block is 0 or names a live block, a free block names nothing
  pub root_live : h.root ≢ 0 → Live M h h.root
  pub named_live : (b w x : ℕ) → Live M h b → ref h b w ≡ x → x ≢ 0 → Live M h x
  pub free_names : (b w : ℕ) → Block M b → h.tint b ≡ Free → h.is_ref b w ≡ false

-- the blocks 2 to the mark
abbrev pub span : Abs → ℕ
span h = h.mark - 1
