-- Ready is kept setter by setter: one law for each register and for each buffer.
--     Course m p g q e         phase p, grey head g and sweep position q are legal together, where there are m blocks and the sweep ends at e
--     course                   so they are on a Ready heap
--     ready_words, ready_colours, ready_bytes     a buffer replaced by another as long
--     ready_grey, ready_free, ready_count, ready_root, ready_cycle     that register set
--     ready_course             phase and position set
--     ready_raised             the mark raised
-- Whatever changes a heap in several places keeps Ready by these laws one after another.
-- Assumes nothing.
use Prim.Native.Nat.{ℕ, ◌+◌, ◌≤◌}
use mathlib.Core.Path.{◌≡◌, refl}
use mathlib.Core.Logic.{◌≢◌}
use mathlib.Core.Bool.{true}
use mathlib.Core.List.{List}
use native.Mathlib.Omega.{arith}
use lib.ListN.{length}
use Rattle.machine.specs.declared.Regs.{Regs}
use Rattle.machine.specs.Registers.{sweeping, sweep_end, with_phase, with_grey, with_free, with_count, with_position, with_root, with_cycle, raised}
use Rattle.machine.specs.Colouring.{head_legal}
use Rattle.machine.specs.Heap.{Heap, heap, with_regs}
use Rattle.machine.specs.WellFormed.{Block}
use Rattle.machine.specs.Ready.{Ready}

pub record Course (m p g q e : ℕ) : Type 0 where
  pub phase : p ≤ 2
  pub grey : head_legal m p g ≡ true
  pub placed : p ≡ sweeping → (2 ≤ q) × (q ≤ e)
  pub parked : p ≢ sweeping → q ≡ 0

abbrev CourseOf : Regs → Type 0
CourseOf r = Course r.blocks r.phase r.grey r.position (sweep_end r)

pub course : {h : Heap} → Ready h → CourseOf h.regs
course d = record { phase = d.phase; grey = d.grey; placed = d.placed; parked = d.parked }

-- what is legal of a mark
abbrev Marked : Regs → Type 0
Marked r = (1 ≤ r.mark) × (r.mark ≤ r.blocks + 1)

-- the registers and buffers that a heap is left with
record Left (h : Heap) (r : Regs) (ws cs bs : List ℕ) : Type 0 where
  blocks : r.blocks ≡ h.regs.blocks
  pace : r.pace ≡ h.regs.pace
  words : length ws ≡ length h.words
  colours : length cs ≡ length h.colours
  bytes : length bs ≡ length h.bytes

left_ready : {h : Heap} → Ready h → (r : Regs) (ws cs bs : List ℕ) → Left h r ws cs bs → CourseOf r
    → (r.free ≢ 0 → Block r.blocks r.free) → (r.root ≢ 0 → Block r.blocks r.root) → r.count ≤ r.blocks → Marked r
    → Ready (heap r ws cs bs)
left_ready d r ws cs bs l c free root count marked =
    record {
      some = omega (arith, d.some, l.blocks);
      most = omega (arith, d.most, l.blocks);
      pace = omega (arith, d.pace, l.pace);
      words = omega (arith, d.words, l.words, l.blocks);
      colours = omega (arith, d.colours, l.colours, l.blocks);
      bytes = omega (arith, d.bytes, l.bytes, l.blocks);
      phase = c.phase;
      grey = c.grey;
      free = free;
      root = root;
      count = count;
      marked = marked;
      placed = c.placed;
      parked = c.parked;
    }

module _ {h : Heap} (d : Ready h) where
  pub ready_words : (ws : List ℕ) → length ws ≡ length h.words → Ready (heap h.regs ws h.colours h.bytes)
  ready_words ws e =
      left_ready d h.regs ws h.colours h.bytes (record { blocks = refl; pace = refl; words = e; colours = refl; bytes = refl })
      (course d) d.free d.root d.count d.marked

  pub ready_colours : (cs : List ℕ) → length cs ≡ length h.colours → Ready (heap h.regs h.words cs h.bytes)
  ready_colours cs e =
      left_ready d h.regs h.words cs h.bytes (record { blocks = refl; pace = refl; words = refl; colours = e; bytes = refl })
      (course d) d.free d.root d.count d.marked

  pub ready_bytes : (bs : List ℕ) → length bs ≡ length h.bytes → Ready (heap h.regs h.words h.colours bs)
  ready_bytes bs e =
      left_ready d h.regs h.words h.colours bs (record { blocks = refl; pace = refl; words = refl; colours = refl; bytes = e })
      (course d) d.free d.root d.count d.marked

  -- other registers, with M and the pace as they are
  set_ready : (r : Regs) → r.blocks ≡ h.regs.blocks → r.pace ≡ h.regs.pace → CourseOf r
      → (r.free ≢ 0 → Block r.blocks r.free) → (r.root ≢ 0 → Block r.blocks r.root) → r.count ≤ r.blocks → Marked r
      → Ready (with_regs r h)
  set_ready r e p = left_ready d r h.words h.colours h.bytes (record { blocks = e; pace = p; words = refl; colours = refl; bytes = refl })

  pub ready_free : (b : ℕ) → (b ≢ 0 → Block h.regs.blocks b) → Ready (with_regs (with_free b h.regs) h)
  ready_free b l = set_ready (with_free b h.regs) refl refl (course d) l d.root d.count d.marked

  pub ready_root : (b : ℕ) → (b ≢ 0 → Block h.regs.blocks b) → Ready (with_regs (with_root b h.regs) h)
  ready_root b l = set_ready (with_root b h.regs) refl refl (course d) d.free l d.count d.marked

  pub ready_count : (n : ℕ) → n ≤ h.regs.blocks → Ready (with_regs (with_count n h.regs) h)
  ready_count n l = set_ready (with_count n h.regs) refl refl (course d) d.free d.root l d.marked

  pub ready_cycle : (n : ℕ) → Ready (with_regs (with_cycle n h.regs) h)
  ready_cycle n = set_ready (with_cycle n h.regs) refl refl (course d) d.free d.root d.count d.marked

  pub ready_grey : (g : ℕ) → head_legal h.regs.blocks h.regs.phase g ≡ true → Ready (with_regs (with_grey g h.regs) h)
  ready_grey g e =
      set_ready (with_grey g h.regs) refl refl (record { phase = d.phase; grey = e; placed = d.placed; parked = d.parked })
      d.free d.root d.count d.marked

  pub ready_course : (p q : ℕ) → Course h.regs.blocks p h.regs.grey q (sweep_end h.regs) → Ready (with_regs (with_position q (with_phase p h.regs)) h)
  ready_course p q c = set_ready (with_position q (with_phase p h.regs)) refl refl c d.free d.root d.count d.marked

  -- a position that is at or below the mark stays so
  pub ready_raised : (b : ℕ) → Block h.regs.blocks b → Ready (with_regs (raised b h.regs) h)
  ready_raised b l =
      let k = d.marked in
      set_ready (raised b h.regs) refl refl
      (record { phase = d.phase; grey = d.grey; placed = λ s. (let p = d.placed s in (p.0, omega arith)); parked = d.parked })
      d.free d.root d.count (omega arith, omega arith)
