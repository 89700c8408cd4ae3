-- What the call answers on every input.
--     path_numbers_lem         a path of n pairs is 2 · n numbers
--     why_answers          the refusals in order, and else the answer; what is left in the lent buffers
-- Assumes nothing.
use Prim.Native.Nat.{ℕ, ◌*◌}
use mathlib.Core.Path.{◌≡◌, refl}
use mathlib.Core.Bool.{Bool, true, false, ◌&&◌}
use mathlib.Core.List.{List, [], ◌∷◌}
use native.Mathlib.Omega.{arith}
use lib.Dec.{eqb, leb}
use lib.ListN.{length}
use borrow.Author.Tests.{leb-true, le-leb}
use Rattle.std.specs.Prelude.{if◌then◌else◌}
use Rattle.machine.specs.Tests.{◌▷◌}
use Rattle.machine.specs.Block.{is_block}
use Rattle.machine.specs.Heap.{Heap}
use Rattle.machine.specs.Entry.{heap_fits}
use Rattle.machine.specs.Audit.{passes}
use Rattle.machine.specs.WellFormed.{Block, WellFormed}
use Rattle.machine.specs.Search.{Hop, path_numbers}
use Rattle.machine.specs.Why.{path_of, why_refusal, padded, why}
use Rattle.machine.proofs.Tests.{both_true, both, by_test}
use Rattle.machine.proofs.Blocks.{is_block_block, block_is_block}
use Rattle.theory_audit.proofs.Audit.{audit_meaning}
use Rattle.theory_why.specs.Answers.{Lent, why_lent, Room, Refuses, Tells, WhyAnswers}
use Rattle.theory_why.proofs.Means.{path_short}

pub path_numbers_lem : (ps : List Hop) → length (path_numbers ps) ≡ 2 * length ps
unfolding path_numbers
path_numbers_lem [] = refl
path_numbers_lem (p ∷ ps) = omega (arith, path_numbers_lem ps)

-- a test that isn't true is false
is_false : (t : Bool) → (t ≡ true → ⊥) → t ≡ false
is_false t n = by_test t (λ e. absurd (n e)) (λ e. e)

module _ (l : Lent) (b : ℕ) (h : Heap) where
  refusal : ℕ
  refusal = why_refusal (length l.path) (length l.queue) (length l.came) b h

  roomy : Bool
  roomy =
      leb (2 * h.regs.blocks) (length l.path)
      && (leb h.regs.blocks (length l.queue) && leb h.regs.blocks (length l.came))

  room_roomy : Room h l → roomy ≡ true
  unfolding roomy
  room_roomy r = both (le-leb _ _ r.path) (both (le-leb _ _ r.queue) (le-leb _ _ r.came))

  roomy_room : roomy ≡ true → Room h l
  unfolding roomy
  roomy_room e =
      let queue = leb h.regs.blocks (length l.queue) in
      let came = leb h.regs.blocks (length l.came) in
      let p = both_true (leb (2 * h.regs.blocks) (length l.path)) (queue && came) e in
      let q = both_true queue came p.1 in
      record { path = leb-true _ _ p.0; queue = leb-true _ _ q.0; came = leb-true _ _ q.1 }

  refuses : (n : ℕ) → eqb n 0 ≡ false → refusal ≡ n → Refuses n l (why_lent l b h)
  unfolding why refusal
  refuses n z e = rw (e, z) (record { answer = refl; path = refl; queue = refl; came = refl })

  unfit : heap_fits h ≡ false → refusal ≡ 1
  unfolding refusal why_refusal ◌▷◌
  unfit e = rw e refl

  unaccepted : heap_fits h ≡ true → passes h ≡ false → refusal ≡ 10
  unfolding refusal why_refusal ◌▷◌
  unaccepted e p = rw (e, p) refl

  no_block_lem : heap_fits h ≡ true → passes h ≡ true → is_block h.regs.blocks b ≡ false → refusal ≡ 3
  unfolding refusal why_refusal ◌▷◌
  no_block_lem e p i = rw (e, p, i) refl

  last :
      heap_fits h ≡ true → passes h ≡ true → is_block h.regs.blocks b ≡ true → (t : Bool) → roomy ≡ t
      → refusal ≡ (if t then 0 else 13)
  unfolding refusal why_refusal ◌▷◌ roomy
  last e p i t r = rw (e, p, i, r) refl

  tells : WellFormed h → Block h.regs.blocks b → Room h l → refusal ≡ 0 → Tells b h l (why_lent l b h)
  unfolding why refusal padded
  tells f k r e =
      let short = path_short h b f k in
      rw e
      (record {
        answer = refl;
        fits = omega (arith, r.path);
        path = rw (path_numbers_lem (path_of h b)) refl;
        queue = refl;
        came = refl;
      })

  pub why_answers : WhyAnswers l b h
  why_answers =
      record {
        unfit = λ e. refuses 1 refl (unfit e);
        unaccepted = λ e n. refuses 10 refl (unaccepted e (is_false (passes h) (λ t. n ((audit_meaning h).0 t))));
        no_block = λ f n. refuses 3 refl
            (no_block_lem f.fitting ((audit_meaning h).1 f) (is_false (is_block h.regs.blocks b) (λ t. n (is_block_block _ b t))));
        cramped = λ f k n. refuses 13 refl
            (last f.fitting ((audit_meaning h).1 f) (block_is_block _ b k) false (is_false roomy (λ t. n (roomy_room t))));
        tells = λ f k r. tells f k r (last f.fitting ((audit_meaning h).1 f) (block_is_block _ b k) true (room_roomy r));
      }
