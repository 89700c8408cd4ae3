-- Laws of units in a row, cut into stretches.
--     went_on, went_off            a stretch that ended with no damage, and one that met some
--     single_on, single_off        a stretch of one unit, done or damaged
--     loop_on, loop_off            a unit more of a loop, done or damaged
--     done_marking                 a unit that marks leaves the phase
--     left_on, left_off            what is left after a stretch, and where damage ended it
--     run_first, run_at, run_out   a run before its first unit, with j units left, and with none
--     run_as                       a run by equal numbers
-- Assumes nothing.
use Prim.Native.Nat.{ℕ, suc, ◌+◌, ◌-◌, ◌≤◌}
use mathlib.Core.Path.{◌≡◌, refl, sym, ◌∙◌, ap}
use mathlib.Core.Logic.{◌≢◌}
use mathlib.Core.List.{List}
use native.Mathlib.Omega.{arith}
use Rattle.machine.specs.declared.Regs.{Regs}
use Rattle.machine.specs.declared.Damaged.{Damaged}
use Rattle.machine.specs.declared.Ran.{Ran}
use Rattle.machine.specs.Registers.{marking}
use Rattle.machine.specs.Heap.{Heap, heap}
use Rattle.machine.specs.Ready.{Ready}
use Rattle.machine.specs.OneUnit.{UnitEnd, unit, finish, damage, ended}
use Rattle.machine.specs.Units.{run, stopped}
use Rattle.machine.proofs.Steps.{never}
use Rattle.machine.proofs.Running.{marking_stays}
use Rattle.machine.proofs.Kept.{done_kept}
use Rattle.std.specs.Prelude.{Result, Ok, Err}
use Rattle.part_step.specs.Going.{left_by, Went}

abbrev pub went : Regs → ℕ → Result (Unit {0}) Damaged → Ran
went s i e = record { regs = s; units = i; end = e }

-- a unit done, of a run with units left
unit_on : (h : Heap) (r s : Regs) (ws cs bs : List ℕ) (k i : ℕ) {p : Result Regs Damaged} → ended r p ws cs bs ≡ unit h → p ≡ Ok s
    → run (suc k) i h ≡ run k (i + 1) (heap s ws cs bs)
unfolding run ended
unit_on h r s ws cs bs k i e d = rw (← e, d) refl

unit_off : (h : Heap) (r : Regs) (ws cs bs : List ℕ) (k i : ℕ) {p : Result Regs Damaged} {d : Damaged} → ended r p ws cs bs ≡ unit h → p ≡ Err d
    → run (suc k) i h ≡ stopped 8 i (heap r ws cs bs)
unfolding run ended
unit_off h r ws cs bs k i e d = rw (← e, d) refl

module _ (h : Heap) (n : ℕ) (ws cs bs : List ℕ) where
  -- a stretch that ended with j units done, k to do, and no damage
  pub went_on : (s : Regs) (k j : ℕ) → 1 ≤ j → j ≤ n → k ≡ n - j → Ready (heap s ws cs bs) → ((i : ℕ) → run n i h ≡ run k (i + j) (heap s ws cs bs))
      → Went n h (went s j (Ok tt)) ws cs bs
  unfolding left_by
  went_on s k j l b q d e =
      record { within = b; onward = λ z. l; ready = λ z. d; whole = λ i. e i ∙ ap (λ (x : ℕ). run x (i + j) (heap s ws cs bs)) q }

  -- a stretch that met damage after j units
  pub went_off : (s : Regs) (j : ℕ) {d : Damaged} → j ≤ n → ((i : ℕ) → run n i h ≡ stopped 8 (i + j) (heap s ws cs bs)) → Went n h (went s j (Err d)) ws cs bs
  unfolding left_by
  went_off s j b e = record { within = b; onward = λ z. never (cc); ready = λ z. never (cc); whole = e }

  module _ (l : 1 ≤ n) where
    less : n ≡ suc (n - 1)
    less = omega arith

    pub single_on : (s : Regs) → Ready h → finish (heap s ws cs bs) ≡ unit h → Went n h (went s 1 (Ok tt)) ws cs bs
    unfolding ended
    single_on s d e =
        went_on s (n - 1) 1 (omega arith) l refl (done_kept h d s s ws cs bs (Ok s) e refl)
        (λ i. ap (λ (x : ℕ). run x i h) less ∙ unit_on h s s ws cs bs (n - 1) i {p = Ok s} e refl)

    pub single_off : (r : Regs) {d : Damaged} → damage (heap r ws cs bs) ≡ unit h → Went n h (went r 0 (Err d)) ws cs bs
    unfolding ended
    single_off r {d} e =
        went_off r 0 (omega arith)
        (λ i. ap (λ (x : ℕ). run x i h) less ∙ unit_off h r ws cs bs (n - 1) i {p = Err d} e refl ∙ ap (λ (x : ℕ). stopped 8 x (heap r ws cs bs)) (omega arith))

-- one more unit of a loop that has j units done and x to do: k is the run's heap
module _ (k : Heap) (n : ℕ) (s : Regs) (ws cs bs : List ℕ) (x j : ℕ) (whole : (i : ℕ) → run n i k ≡ run x (i + j) (heap s ws cs bs))
    (ws' cs' bs' : List ℕ) {p : Result Regs Damaged} (e : ended s p ws' cs' bs' ≡ unit (heap s ws cs bs)) where
  pub loop_on : (t : Regs) → p ≡ Ok t → (y l : ℕ) → x ≡ suc y → l ≡ j + 1 → (i : ℕ) → run n i k ≡ run y (i + l) (heap t ws' cs' bs')
  loop_on t q y l a b i =
      whole i ∙ ap (λ (z : ℕ). run z (i + j) (heap s ws cs bs)) a ∙ unit_on (heap s ws cs bs) s t ws' cs' bs' y (i + j) e q ∙ ap (λ (z : ℕ). run y z (heap t ws' cs' bs')) (omega arith)

  pub loop_off : {d : Damaged} → p ≡ Err d → (y : ℕ) → x ≡ suc y → j ≤ n → Went n k (went s j (Err d)) ws' cs' bs'
  loop_off q y a b =
      went_off k n ws' cs' bs' s j b
      (λ i. whole i ∙ ap (λ (z : ℕ). run z (i + j) (heap s ws cs bs)) a ∙ unit_off (heap s ws cs bs) s ws' cs' bs' y (i + j) e q)

-- a unit that marks leaves the phase
pub done_marking : (h : Heap) (s t : Regs) (ws cs bs : List ℕ) {p : Result Regs Damaged} → ended s p ws cs bs ≡ unit h → p ≡ Ok t → h.regs.phase ≡ marking → h.regs.grey ≢ 1 → t.phase ≡ marking
unfolding ended
done_marking h s t ws cs bs e q k n =
    ap (λ (u : UnitEnd). u.heap.regs.phase) (ap (λ (x : Result Regs Damaged). ended s x ws cs bs) (sym q) ∙ e) ∙ marking_stays h k n

-- what is left after a stretch of a run that has k units to do and i done
module _ (k i : ℕ) (h : Heap) {e : Result (Unit {0}) Damaged} where
  pub left_on : e ≡ Ok tt → left_by e k i h ≡ run k i h
  unfolding left_by
  left_on z = rw z refl

  pub left_off : {d : Damaged} → e ≡ Err d → left_by e k i h ≡ stopped 8 i h
  unfolding left_by
  left_off z = rw z refl

-- a run that has done as many units as are not left
pub run_at : (n j : ℕ) (h k : Heap) {x y : ℕ} → run n 0 h ≡ run x y k → x ≡ j → y ≡ n - j → run n 0 h ≡ run j (n - j) k
run_at n j h k {y = y} e a b = e ∙ ap (λ (z : ℕ). run z y k) a ∙ ap (λ (z : ℕ). run j z k) b

-- a run before its first unit
pub run_first : (n i : ℕ) (h : Heap) {x : ℕ} → i ≡ x → run n i h ≡ run n x h
run_first n i h e = ap (λ (x : ℕ). run n x h) e

-- a run with no unit left
pub run_out : (n : ℕ) (h : Heap) {x : ℕ} → x ≡ 0 → run x (n - x) h ≡ stopped 0 n h
unfolding run
run_out n h z = rw z (ap (λ (x : ℕ). stopped 0 x h) (omega arith))

pub run_as : (h : Heap) {x y u v : ℕ} → x ≡ u → y ≡ v → run x y h ≡ run u v h
run_as h a b = rw (a, b) refl
