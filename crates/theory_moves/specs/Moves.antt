-- The moves: relations between the abstract heap before (h) and after (k), as pointwise equations.
--     SameCells h k b      b's words and reference bits are as they were
--     Begin, Mark, Turn, Sweep      the collector's units; Names: a word of a block names another; Swept: what became of the block at the position;
--                          Turning: whether a sweep begins; Onward: where the position went
--     WriteNumber, WriteRef, SetRoot, TakeHeld, TakeRoot      what the running program does; Steady: phase and position stay; Holds: one word of a
--                          block is written; Barred: the barrier's one block; Taken, Fresh: a free block is taken, and its colour
--     Move M h k           any one of them
-- Which grey block is marked and which free block is taken is left open: no order of a list is in it.
-- Of blocks outside 2 to M + 1 nothing is said, nor of the position away from sweeping.
-- Assumes nothing.
use Rattle.std.specs.Prelude.{ℕ, ◌+◌, max, ◌≤◌, ◌<◌, ◌≡◌, ◌≢◌, Bool, true, false}
use Rattle.theory_reach.specs.Sums.{Block}
use Rattle.theory_moves.specs.Tints.{Tint, White, Grey, Black, Free, Turned}
use Rattle.theory_moves.specs.Heaps.{Abs, idle, marking, sweeping, ref, Live}

pub record SameCells (h k : Abs) (b : ℕ) : Type 0 where
  pub words : (w : ℕ) → k.word b w ≡ h.word b w
  pub bits : (w : ℕ) → k.is_ref b w ≡ h.is_ref b w

-- an idle collector begins: a root that isn't 0 becomes grey
pub record Begin (M : ℕ) (h k : Abs) : Type 0 where
  pub before : h.phase ≡ idle
  pub after : k.phase ≡ marking
  pub root : k.root ≡ h.root
  pub mark : k.mark ≡ h.mark
  pub tints : (b : ℕ) → Block M b → Turned (b ≡ h.root) (h.tint b) (k.tint b)
  pub cells : (b : ℕ) → Block M b → SameCells h k b

-- a word of b names c
pub record Names (h : Abs) (b c : ℕ) : Type 0 where
  pub at : ℕ
  pub names : ref h b at ≡ c

-- a grey block becomes black, and the white blocks that it names become grey
pub record Mark (M b : ℕ) (h k : Abs) : Type 0 where
  pub before : h.phase ≡ marking
  pub after : k.phase ≡ marking
  pub root : k.root ≡ h.root
  pub mark : k.mark ≡ h.mark
  pub block : Block M b
  pub grey : h.tint b ≡ Grey
  pub black : k.tint b ≡ Black
  pub tints : (c : ℕ) → Block M c → c ≢ b → Turned (Names h b c) (h.tint c) (k.tint c)
  pub cells : (c : ℕ) → Block M c → SameCells h k c

-- the sweep begins, or there is nothing to sweep
pub data Turning (h k : Abs) : Type 0 where
  entering : h.mark ≢ 1 → k.phase ≡ sweeping → k.position ≡ 2 → Turning h k
  skipping : h.mark ≡ 1 → k.phase ≡ idle → Turning h k

-- none is grey: marking is over
pub record Turn (M : ℕ) (h k : Abs) : Type 0 where
  pub before : h.phase ≡ marking
  pub turning : Turning h k
  pub root : k.root ≡ h.root
  pub mark : k.mark ≡ h.mark
  pub none : (b : ℕ) → Block M b → h.tint b ≢ Grey
  pub tints : (b : ℕ) → Block M b → k.tint b ≡ h.tint b
  pub cells : (b : ℕ) → Block M b → SameCells h k b

-- the block p at the position: freed, whitened or passed
pub data Swept (h k : Abs) (p : ℕ) : Type 0 where
  freeing : h.tint p ≡ White → k.tint p ≡ Free → ((w : ℕ) → k.is_ref p w ≡ false) → Swept h k p
  whitening : h.tint p ≡ Black → k.tint p ≡ White → SameCells h k p → Swept h k p
  passing : h.tint p ≡ Free → k.tint p ≡ Free → SameCells h k p → Swept h k p

-- the position goes on by one, or the sweep has come to its end
pub data Onward (h k : Abs) (last : ℕ) : Type 0 where
  going : h.position ≢ last → k.phase ≡ sweeping → k.position ≡ h.position + 1 → Onward h k last
  ending : h.position ≡ last → k.phase ≡ idle → Onward h k last

pub record Sweep (M : ℕ) (h k : Abs) : Type 0 where
  pub before : h.phase ≡ sweeping
  pub block : Block M h.position
  pub short : h.position ≤ h.mark
  pub onward : Onward h k h.mark
  pub root : k.root ≡ h.root
  pub mark : k.mark ≡ h.mark
  pub here : Swept h k h.position
  pub tints : (c : ℕ) → Block M c → c ≢ h.position → k.tint c ≡ h.tint c
  pub cells : (c : ℕ) → Block M c → c ≢ h.position → SameCells h k c

-- the collector stands still
pub record Steady (h k : Abs) : Type 0 where
  pub phase : k.phase ≡ h.phase
  pub position : k.position ≡ h.position

-- word w of b holds v, as a reference or as a number, and b's other words are as they were
pub record Holds (h k : Abs) (b w v : ℕ) (t : Bool) : Type 0 where
  pub word : k.word b w ≡ v
  pub bit : k.is_ref b w ≡ t
  pub words : (u : ℕ) → u ≢ w → k.word b u ≡ h.word b u
  pub bits : (u : ℕ) → u ≢ w → k.is_ref b u ≡ h.is_ref b u

pub record WriteNumber (M b w v : ℕ) (h k : Abs) : Type 0 where
  pub steady : Steady h k
  pub root : k.root ≡ h.root
  pub mark : k.mark ≡ h.mark
  pub live : Live M h b
  pub tints : (c : ℕ) → Block M c → k.tint c ≡ h.tint c
  pub holds : Holds h k b w v false
  pub others : (c : ℕ) → Block M c → c ≢ b → SameCells h k c

-- the barrier: while marking, a white target is greyed
pub record Barred (h : Abs) (t c : ℕ) : Type 0 where
  pub phase : h.phase ≡ marking
  pub target : c ≡ t

pub record WriteRef (M b w t : ℕ) (h k : Abs) : Type 0 where
  pub steady : Steady h k
  pub root : k.root ≡ h.root
  pub mark : k.mark ≡ h.mark
  pub live : Live M h b
  pub target : t ≢ 0 → Live M h t
  pub tints : (c : ℕ) → Block M c → Turned (Barred h t c) (h.tint c) (k.tint c)
  pub holds : Holds h k b w t true
  pub others : (c : ℕ) → Block M c → c ≢ b → SameCells h k c

pub record SetRoot (M t : ℕ) (h k : Abs) : Type 0 where
  pub steady : Steady h k
  pub root : k.root ≡ t
  pub mark : k.mark ≡ h.mark
  pub target : t ≢ 0 → Live M h t
  pub tints : (c : ℕ) → Block M c → Turned (Barred h t c) (h.tint c) (k.tint c)
  pub cells : (c : ℕ) → Block M c → SameCells h k c

-- the colour t of a new block x: black while marking, black while sweeping at or above the position, else white
pub data Fresh (h : Abs) (x : ℕ) (t : Tint) : Type 0 where
  new_marking : h.phase ≡ marking → t ≡ Black → Fresh h x t
  new_ahead : h.phase ≡ sweeping → h.position ≤ x → t ≡ Black → Fresh h x t
  new_behind : h.phase ≡ sweeping → x < h.position → t ≡ White → Fresh h x t
  new_idle : h.phase ≡ idle → t ≡ White → Fresh h x t

-- the free block x is taken: word 0 becomes 0, the other words and all bits stay, and the mark rises to x where it was below
pub record Taken (M x : ℕ) (h k : Abs) : Type 0 where
  pub block : Block M x
  pub free : h.tint x ≡ Free
  pub fresh : Fresh h x (k.tint x)
  pub mark : k.mark ≡ max h.mark x
  pub tints : (c : ℕ) → Block M c → c ≢ x → k.tint c ≡ h.tint c
  pub emptied : k.word x 0 ≡ 0
  pub words : (u : ℕ) → u ≢ 0 → k.word x u ≡ h.word x u
  pub bits : (u : ℕ) → k.is_ref x u ≡ h.is_ref x u

pub record TakeHeld (M x b w : ℕ) (h k : Abs) : Type 0 where
  pub steady : Steady h k
  pub root : k.root ≡ h.root
  pub live : Live M h b
  pub taken : Taken M x h k
  pub holds : Holds h k b w x true
  pub others : (c : ℕ) → Block M c → c ≢ b → c ≢ x → SameCells h k c

pub record TakeRoot (M x : ℕ) (h k : Abs) : Type 0 where
  pub steady : Steady h k
  pub root : k.root ≡ x
  pub taken : Taken M x h k
  pub others : (c : ℕ) → Block M c → c ≢ x → SameCells h k c

pub data Move (M : ℕ) (h k : Abs) : Type 0 where
  begin : Begin M h k → Move M h k
  mark : (b : ℕ) → Mark M b h k → Move M h k
  turn : Turn M h k → Move M h k
  sweep : Sweep M h k → Move M h k
  write_number : (b w v : ℕ) → WriteNumber M b w v h k → Move M h k
  write_ref : (b w t : ℕ) → WriteRef M b w t h k → Move M h k
  set_root : (t : ℕ) → SetRoot M t h k → Move M h k
  take_held : (x b w : ℕ) → TakeHeld M x b w h k → Move M h k
  take_root : (x : ℕ) → TakeRoot M x h k → Move M h k
