-- The promises are not hollow: a heap in the middle of marking is saved, and loads again. So does its image with nine registers.
--     heap_saved           it is in range, and Save takes it, with four bytes to spare
--     heap_loaded          from what Save wrote, Load gives it to buffers that were all 0
--     nine_loaded          from its image with nine registers, Load gives it with the mark at M + 1, which is 3
--     nine_saved           and Save writes that with ten
--     mark_refused         an image with ten registers is refused by 10 where a block above its mark isn't free, or its mark is above M + 1
-- Assumes nothing.
use Prim.Native.Nat.{ℕ, zero, suc, ◌^◌, ◌<◌}
use mathlib.Core.Path.{◌≡◌, refl}
use mathlib.Core.Bool.{Bool, true, ◌&&◌}
use mathlib.Core.List.{List, [], ◌∷◌}
use native.Mathlib.Omega.{arith}
use lib.Dec.{ltb}
use lib.ListN.{take, replicate}
use borrow.Author.Tests.{ltb-true}
use Rattle.machine.specs.Registers.{with_mark}
use Rattle.machine.specs.Heap.{Heap, heap, with_regs}
use Rattle.machine.specs.Answers.{done, refuse}
use Rattle.machine.specs.WellFormed.{WellFormed}
use Rattle.machine.specs.Image.{registers_of, earlier_count, regs_of, encode_with, encode, Below, InRange}
use Rattle.machine.specs.Save.{save}
use Rattle.machine.specs.Load.{load}
use Rattle.machine.proofs.Tests.{both_true}
use Rattle.machine.proofs.Computing.{the_machine}
use Rattle.theory_audit.proofs.Audit.{audit_meaning}
use Rattle.theory_image.specs.Images.{size, topped}
use Rattle.theory_image.proofs.Images.{load_saved, read_nine, saved_ten}

-- a test that computes what Below says
unfoldable all_below : ℕ → List ℕ → Bool
all_below m [] = true
all_below m (x ∷ xs) = ltb x m && all_below m xs

below : (m : ℕ) (xs : List ℕ) → 0 < m → all_below m xs ≡ true → Below m xs
unfolding all_below
below m [] z e k = z
below m (x ∷ xs) z e zero = ltb-true x m (both_true (ltb x m) (all_below m xs) e).0
below m (x ∷ xs) z e (suc k) = below m xs z (both_true (ltb x m) (all_below m xs) e).1 k

-- block 2 is the root, grey and alone on the grey list, and names itself; block 3 is free and was never handed out
abbrev marking : Heap
marking =
    heap
    (regs_of (2 ∷ 3 ∷ 1 ∷ 2 ∷ 3 ∷ 1 ∷ 0 ∷ 2 ∷ 5 ∷ 2 ∷ []))
    (7 ∷ 2 ∷ 4294967295 ∷ replicate 13 0)
    (1 ∷ 4294967294 ∷ [])
    (2 ∷ 0 ∷ [])

abbrev blank : Heap
blank = heap (regs_of []) (replicate 16 0) (replicate 2 0) (replicate 2 0)

abbrev out : List ℕ
out = replicate 134 9

marking_in_range : InRange marking
unfolding all_below
marking_in_range =
    record {
      registers = below (2 ^ 32) (registers_of marking.regs) (omega arith) refl;
      colours = below (2 ^ 32) marking.colours (omega arith) refl;
      bytes = below 256 marking.bytes (omega arith) refl;
      words = below (2 ^ 32) marking.words (omega arith) refl;
    }

pub heap_saved : (InRange marking) × ((save out marking).answer.refusal ≡ 0)
unfolding the_machine
heap_saved = (marking_in_range, refl)

pub heap_loaded : load (take (size marking) (save out marking).out) blank ≡ done 0 marking
unfolding the_machine
heap_loaded = load_saved marking blank out heap_saved.0 heap_saved.1 refl

marking_topped : WellFormed (topped marking)
unfolding the_machine
marking_topped = (audit_meaning (topped marking)).0 refl

pub nine_loaded : (load (encode_with earlier_count marking) blank ≡ done 0 (topped marking)) × ((topped marking).regs.mark ≡ 3)
unfolding the_machine
nine_loaded = (read_nine marking blank marking_topped marking_in_range refl, refl)

pub nine_saved : take (size marking) (save out (load (encode_with earlier_count marking) blank).heap).out ≡ encode (topped marking)
unfolding the_machine
nine_saved = saved_ten marking blank out marking_topped marking_in_range refl (omega arith)

-- marking with another mark
abbrev marked : ℕ → Heap
marked b = with_regs (with_mark b marking.regs) marking

pub mark_refused : (load (encode (marked 1)) blank ≡ refuse 10 blank) × (load (encode (marked 4)) blank ≡ refuse 10 blank)
unfolding the_machine
mark_refused = (refl, refl)
