-- What the promise asks of a kind of rows, and what follows for its lists.
--     Stays                a row that leads on is the same on another heap
--     Steady kind          the kind's rows are sound, and stay where the words of their blocks do
--     along_hangs          what a list leads to hangs from the root if its start does
--     along_reaches        and so each block of its rows is reachable
-- Assumes nothing.
use Prim.Native.Nat.{ℕ}
use mathlib.Core.Path.{◌≡◌, subst}
use mathlib.Core.Logic.{⊎_elim}
use mathlib.Core.List.Memᴰ
use mathlib.Core.List.{List, Memᴰ}
use Rattle.machine.specs.Heap.{Heap}
use Rattle.machine.specs.WellFormed.{Block, WellFormed}
use Rattle.theory_promises.specs.Reachable.{Reachable}
use Rattle.part_rows.specs.Shape.{Sound}
use Rattle.part_rows.specs.Lists.{Leads, Along, here, past}
use Rattle.theory_clause.specs.Lasting.{Kind, blocks_of, Hangs, SameWords}

pub record Stays (kind : Kind) (h k : Heap) (b x : ℕ) : Type 0 where
  pub leads : Leads (kind.shape k) b x
  pub row : (kind.shape k).row b ≡ (kind.shape h).row b
  pub blocks : kind.blocks k b ≡ kind.blocks h b

pub record Steady (kind : Kind) : Type 0 where
  pub sound : (h : Heap) → Sound (kind.shape h)
  pub width : (h k : Heap) → (kind.shape k).width ≡ (kind.shape h).width
  pub most : (h : Heap) → (kind.shape h).most ≡ h.regs.blocks
  pub block : (h : Heap) {b x : ℕ} → Leads (kind.shape h) b x → Block h.regs.blocks b
  -- a row's blocks are reachable where its first one is, and so is what its link names
  pub reaches : {h : Heap} {b x : ℕ} → Leads (kind.shape h) b x → Reachable h b → (y : ℕ) → Memᴰ y (kind.blocks h b) → Reachable h y
  pub onward : {h : Heap} {b x : ℕ} → Leads (kind.shape h) b x → Reachable h b → Hangs h x
  pub stays :
      {h k : Heap} {b x : ℕ} → WellFormed k → Leads (kind.shape h) b x → Reachable k b
      → SameWords h k (kind.blocks h b) → Stays kind h k b x

module _ {kind : Kind} (d : Steady kind) where
  onto : {h : Heap} {b x : ℕ} → Leads (kind.shape h) b x → Hangs h b → Hangs h x
  onto {h} {b} l g = d.onward l (g ((d.sound h).some b l.readable))

  pub along_hangs : {h : Heap} {b c : ℕ} {bs : List ℕ} → Along (kind.shape h) b bs c → Hangs h b → Hangs h c
  along_hangs {h} (here e) g = subst (Hangs h) e g
  along_hangs (past l a) g = along_hangs a (onto l g)

  pub along_reaches : {h : Heap} {b c : ℕ} {bs : List ℕ} → Along (kind.shape h) b bs c → Hangs h b → (x : ℕ) → Memᴰ x (blocks_of kind h bs) → Reachable h x
  along_reaches (here e) g x i = absurd (Memᴰ.not-nil i)
  along_reaches {h} (past {b} l a) g x i =
      ⊎_elim (λ j. d.reaches l (g ((d.sound h).some b l.readable)) x j) (λ j. along_reaches a (onto l g) x j) (Memᴰ.append_cases (kind.blocks h b) i)
