-- Laws of Save and Load: one for each way out, and what an answer of 0 says.
--     save_unfit, save_bad, save_short, save_done     the ways of Save
--     save_zero            what Save found where it refuses nothing
--     load_bad, load_other, load_done     the ways of Load
--     refusal_zero, load_zero     what Load found where it refuses nothing
-- Assumes nothing.
use Prim.Native.Nat.{ℕ, ◌≤◌, ◌<◌}
use mathlib.Core.Path.{◌≡◌}
use mathlib.Core.Bool.{true, false}
use mathlib.Core.List.{List, ◌++◌}
use native.Mathlib.Omega.{arith}
use lib.Dec.{leb}
use lib.ListN.{length, drop}
use borrow.Author.Tests.{leb-true, le-leb, lt-leb, ne_eqb}
use Rattle.std.specs.Prelude.{if◌then◌else◌}
use Rattle.machine.specs.Tests.{◌▷◌}
use Rattle.machine.specs.Heap.{Heap}
use Rattle.machine.specs.Entry.{heap_fits}
use Rattle.machine.specs.Answers.{refuse, unless, done}
use Rattle.machine.specs.Audit.{passes}
use Rattle.machine.specs.Image.{encode, decode, is_image}
use Rattle.machine.specs.Frame.{image_length}
use Rattle.machine.specs.Save.{SaveGiven, save_refusal, save}
use Rattle.machine.specs.Load.{same_lengths, load_refusal, load}
use Rattle.machine.proofs.Tests.{by_eq}
use Rattle.machine.proofs.Entering.{first_zero, choose_zero}
use Rattle.machine.proofs.Images.{encode_length}

-- what a Save gives that refuses by n, or has done with 0
abbrev pub save_given : ℕ → List ℕ → SaveGiven
save_given n out = record { answer = record { refusal = n; value = 0; units = 0 }; out = out }

module _ (h : Heap) (out : List ℕ) where
  pub save_unfit : heap_fits h ≡ false → save_given 1 out ≡ save out h
  unfolding save save_refusal ◌▷◌
  save_unfit e = simp e

  pub save_bad : heap_fits h ≡ true → passes h ≡ false → save_given 10 out ≡ save out h
  unfolding save save_refusal ◌▷◌
  save_bad f e = simp (f, e)

  module _ (f : heap_fits h ≡ true) (p : passes h ≡ true) where
    pub save_short : length out < image_length h.regs.blocks → save_given 13 out ≡ save out h
    unfolding save save_refusal ◌▷◌
    save_short l =
        let n = encode_length h f in
        simp (f, p, lt-leb (length (encode h)) (length out) (omega arith))

    pub save_done : {out' : List ℕ} → image_length h.regs.blocks ≤ length out
        → out' ≡ encode h ++ drop (length (encode h)) out → save_given 0 out' ≡ save out h
    unfolding save save_refusal ◌▷◌
    save_done l e =
        let n = encode_length h f in
        rw e (simp (f, p, le-leb (length (encode h)) (length out) (omega arith)))

  pub save_zero : (save out h).answer.refusal ≡ 0
      → (heap_fits h ≡ true) × (passes h ≡ true) × (length (encode h) ≤ length out)
  unfolding save save_refusal
  save_zero e =
      let l = leb (length (encode h)) (length out) in
      let y = first_zero (if heap_fits h then 0 else 1) ((if passes h then 0 else 10) ▷ (if l then 0 else 13)) e in
      let z = first_zero (if passes h then 0 else 10) (if l then 0 else 13) y.1 in (
        choose_zero (heap_fits h) 1 (omega arith) y.0,
        choose_zero (passes h) 10 (omega arith) z.0,
        leb-true _ _ (choose_zero l 13 (omega arith) z.1),
      )

module _ (i : List ℕ) (h : Heap) where
  pub load_bad : is_image i ≡ false → refuse 10 h ≡ load i h
  unfolding load load_refusal unless ◌▷◌
  load_bad e = simp e

  pub load_other : is_image i ≡ true → same_lengths h (decode i) ≡ false → refuse 13 h ≡ load i h
  unfolding load load_refusal unless ◌▷◌
  load_other e l = simp (e, l)

  pub load_done : is_image i ≡ true → same_lengths h (decode i) ≡ true → done 0 (decode i) ≡ load i h
  unfolding load load_refusal unless ◌▷◌
  load_done e l = simp (e, l)

  pub refusal_zero : load_refusal i h ≡ 0 → (is_image i ≡ true) × (same_lengths h (decode i) ≡ true)
  unfolding load_refusal
  refusal_zero e =
      let y = first_zero (if is_image i then 0 else 10) (if same_lengths h (decode i) then 0 else 13) e in
      (choose_zero (is_image i) 10 (omega arith) y.0, choose_zero (same_lengths h (decode i)) 13 (omega arith) y.1)

  pub load_zero : (load i h).answer.refusal ≡ 0 → (is_image i ≡ true) × (same_lengths h (decode i) ≡ true)
  unfolding load unless
  load_zero e =
      refusal_zero (by_eq (load_refusal i h) 0 (λ z. z) (λ n. simp (ne_eqb (load_refusal i h) 0 n) at e))
