-- A heap that differs in its registers and colours alone, and in which the same blocks are free.
--     free_of, of_free         a free block by its tint
--     recoloured               such a heap has the shape of a well-formed heap
-- Assumes nothing.
use Prim.Native.Nat.{ℕ}
use mathlib.Core.Path.{◌≡◌, refl, sym, ◌∙◌, ap, subst}
use mathlib.Core.Logic.{◌≢◌, ◌↔◌}
use lib.ListN.{length}
use Rattle.machine.specs.declared.Regs.{Regs}
use Rattle.machine.specs.declared.Colour.TheVariants.{Free, Outside}
use Rattle.machine.specs.Colouring.{Colouring, coloured, colour_in, GreysOf}
use Rattle.machine.specs.Heap.{Heap, heap, colour_of}
use Rattle.machine.specs.WellFormed.{Block, Coloured}
use Rattle.machine.specs.Ready.{Ready}
use Rattle.theory_moves.specs.Tints as tints
use Rattle.theory_promises.specs.View.{tint_of, Shape}
use Rattle.theory_promises.proofs.Viewing.{free_is}
use Rattle.machine.proofs.Chains.{chain_same, same_blocks}
use Rattle.theory_promises.proofs.Greys.{TintIn}

pub free_of : {h : Heap} {b : ℕ} → Coloured h Free b → tint_of (colour_of h b) ≡ tints.Free
free_of f = ap tint_of f.colour

pub of_free : {h : Heap} {b : ℕ} → Block h.regs.blocks b → colour_of h b ≢ Outside → tint_of (colour_of h b) ≡ tints.Free → Coloured h Free b
of_free {h} {b} l o e = record { block = l; colour = free_is (colour_of h b) e o }

-- the registers r and the colours k, which are those of the heap afterwards
module _ (h : Heap) (p : Shape h) (r : Regs) (k : Colouring) (kept_as : coloured r.blocks r.grey k.cells ≡ k) (blocks : k.blocks ≡ h.regs.blocks)
    (free : r.free ≡ h.regs.free) (count : r.count ≡ h.regs.count)
    (ready : Ready (heap r h.words k.cells h.bytes))
    (legal : (c : ℕ) → Block h.regs.blocks c → colour_in k c ≢ Outside)
    (frees : (c : ℕ) → Block h.regs.blocks c → (TintIn k c ≡ tints.Free) ↔ (tint_of (colour_of h c) ≡ tints.Free))
    (list : GreysOf k) where
  abbrev next : Heap
  next = heap r h.words k.cells h.bytes

  same : r.blocks ≡ h.regs.blocks
  same = ap (λ (j : Colouring). j.blocks) kept_as ∙ blocks

  inside : {c : ℕ} → Block r.blocks c → Block h.regs.blocks c
  inside {c} l = subst (λ (m : ℕ). Block m c) same l

  now : (c : ℕ) → colour_of next c ≡ colour_in k c
  now c = ap (λ (j : Colouring). colour_in j c) kept_as

  over : (c : ℕ) → Coloured next Free c → Coloured h Free c
  over c f =
      let l = inside f.block in
      of_free {h = h} l (p.colours c l) ((frees c l).0 (ap tint_of (sym (now c)) ∙ free_of {h = next} f))

  back : (c : ℕ) → Coloured h Free c → Coloured next Free c
  back c f =
      record {
        block = subst (λ (m : ℕ). Block m c) (sym same) f.block;
        colour = now c ∙ free_is _ ((frees c f.block).1 (free_of {h = h} f)) (legal c f.block);
      }

  pub recoloured : Shape next
  recoloured =
      record {
        ready = ready;
        colours = λ c l e. legal c (inside l) (sym (now c) ∙ e);
        greys = subst GreysOf (sym kept_as) list;
        frees = chain_same p.frees (λ x f. refl) (λ x. (over x, back x)) free;
        laid = λ b f. let d = p.laid b (over b f) in record { byte = d.byte; words = d.words };
        counted = ap length (same_blocks p.frees (λ x f. refl) (λ x. (over x, back x)) free) ∙ p.counted ∙ sym count;
      }
