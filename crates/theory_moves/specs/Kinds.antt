-- The moves by kind: what each costs, takes and names.
--     cost m               1 for the collector's units, 0 for what the running program does
--     At b w c u           word u of c is word w of b
--     Writes m b w         m writes word w of b, or takes a block for it
--     marked m, begun m    1 for a mark, for a beginning, else 0
--     ended m (skipping?, ending?)     1 for the turn or the sweep move that returns to idle, else 0
--     taking m             the block that m takes, as a list
--     target m             the block that a write of a reference or a root change names, else 0
-- Assumes nothing.
use Rattle.std.specs.Prelude.{ℕ, ◌≡◌, List, [], ◌∷◌}
use Rattle.theory_moves.specs.Heaps.{Abs}
use Rattle.theory_moves.specs.Moves.{Turning, entering, skipping, Onward, going, ending}
use Rattle.theory_moves.specs.Moves.{Move, begin, mark, turn, sweep, write_number, write_ref, set_root, take_held, take_root}

abbrev pub cost : {M : ℕ} {h k : Abs} → Move M h k → ℕ
cost (begin m) = 1
cost (mark b m) = 1
cost (turn m) = 1
cost (sweep m) = 1
cost (write_number b w v m) = 0
cost (write_ref b w t m) = 0
cost (set_root t m) = 0
cost (take_held x b w m) = 0
cost (take_root x m) = 0

pub record At (b w c u : ℕ) : Type 0 where
  pub block : c ≡ b
  pub word : u ≡ w

abbrev pub Writes : {M : ℕ} {h k : Abs} → Move M h k → ℕ → ℕ → Type 0
Writes (begin m) c u = ⊥
Writes (mark b m) c u = ⊥
Writes (turn m) c u = ⊥
Writes (sweep m) c u = ⊥
Writes (write_number b w v m) c u = At b w c u
Writes (write_ref b w t m) c u = At b w c u
Writes (set_root t m) c u = ⊥
Writes (take_held x b w m) c u = At b w c u
Writes (take_root x m) c u = ⊥

abbrev pub marked : {M : ℕ} {h k : Abs} → Move M h k → ℕ
marked (begin m) = 0
marked (mark b m) = 1
marked (turn m) = 0
marked (sweep m) = 0
marked (write_number b w v m) = 0
marked (write_ref b w t m) = 0
marked (set_root t m) = 0
marked (take_held x b w m) = 0
marked (take_root x m) = 0

abbrev pub begun : {M : ℕ} {h k : Abs} → Move M h k → ℕ
begun (begin m) = 1
begun (mark b m) = 0
begun (turn m) = 0
begun (sweep m) = 0
begun (write_number b w v m) = 0
begun (write_ref b w t m) = 0
begun (set_root t m) = 0
begun (take_held x b w m) = 0
begun (take_root x m) = 0

abbrev pub skipping? : {h k : Abs} → Turning h k → ℕ
skipping? (entering n p e) = 0
skipping? (skipping e p) = 1

abbrev pub ending? : {h k : Abs} {n : ℕ} → Onward h k n → ℕ
ending? (going n p e) = 0
ending? (ending e p) = 1

abbrev pub ended : {M : ℕ} {h k : Abs} → Move M h k → ℕ
ended (begin m) = 0
ended (mark b m) = 0
ended (turn m) = skipping? m.turning
ended (sweep m) = ending? m.onward
ended (write_number b w v m) = 0
ended (write_ref b w t m) = 0
ended (set_root t m) = 0
ended (take_held x b w m) = 0
ended (take_root x m) = 0

abbrev pub taking : {M : ℕ} {h k : Abs} → Move M h k → List ℕ
taking (begin m) = []
taking (mark b m) = []
taking (turn m) = []
taking (sweep m) = []
taking (write_number b w v m) = []
taking (write_ref b w t m) = []
taking (set_root t m) = []
taking (take_held x b w m) = x ∷ []
taking (take_root x m) = x ∷ []

abbrev pub target : {M : ℕ} {h k : Abs} → Move M h k → ℕ
target (begin m) = 0
target (mark b m) = 0
target (turn m) = 0
target (sweep m) = 0
target (write_number b w v m) = 0
target (write_ref b w t m) = t
target (set_root t m) = t
target (take_held x b w m) = 0
target (take_root x m) = 0
