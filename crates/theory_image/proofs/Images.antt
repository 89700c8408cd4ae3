-- What saving and loading a heap promise, proved.
--     save_means, saves_image, load_means, load_gives, one_heap, load_saved, read_nine, saved_ten     the statements of specs/Images.antt
-- An image of a heap in range decodes to that heap, so an image has one heap and Load finds it. What Load accepts it has encoded
-- again and found equal, so it is an image. That the audit accepts exactly the well-formed heaps is theory_audit's.
-- Assumes nothing.
use Prim.Native.Nat.{ℕ, ◌+◌, ◌^◌, ◌≤◌}
use mathlib.Core.Path.{◌≡◌, refl, sym, ◌∙◌, ap}
use mathlib.Core.Bool.{true}
use mathlib.Core.List.{List, ◌++◌}
use native.Mathlib.Omega.{arith}
use lib.ListN.{length, take, drop}
use lib.Seq.{take_at, drop_at}
use Rattle.machine.specs.Heap.{Heap}
use Rattle.machine.specs.Answers.{done}
use Rattle.machine.specs.Audit.{passes}
use Rattle.machine.specs.WellFormed.{WellFormed}
use Rattle.machine.specs.Image.{registers_of, register_count, earlier_count, encode_blocks, encode_with, encode, number, numbers_from, decode, count_known, is_image, InRange}
use Rattle.machine.specs.Save.{save}
use Rattle.machine.specs.Load.{same_lengths}
use Rattle.machine.proofs.Fours.{take_below}
use Rattle.machine.proofs.Images.{sizes, passes_fits, by_count, read_with, encode_length, count_with, decode_with, image_known, image_encoded, image_passes, encoded_image, below_registers, decode_range}
use Rattle.machine.proofs.Saving.{save_done, save_zero, load_done, load_zero}
use Rattle.theory_audit.proofs.Audit.{audit_meaning}
use Rattle.theory_image.specs.Images.{ImageOf, size, topped, SaveMeans, SavesImage, LoadMeans, LoadGives, OneHeap, LoadSaved, ReadNine, SavedTen}

-- where Save refuses nothing
module _ (h : Heap) (out : List ℕ) (z : (save out h).answer.refusal ≡ 0) where
  saved_passes : passes h ≡ true
  saved_passes = (save_zero h out z).1

  saved_size : length (encode h) ≡ size h
  saved_size = encode_length h (save_zero h out z).0

  saved_fits : size h ≤ length out
  saved_fits = let l = saved_size in omega (arith, save_zero h out z)

  saved_out : (save out h).out ≡ encode h ++ drop (length (encode h)) out
  saved_out =
      sym (ap (λ g. g.out) (save_done h out (save_zero h out z).0 saved_passes saved_fits refl))

pub save_means : SaveMeans
save_means h out = (
  λ z. ((audit_meaning h).0 (saved_passes h out z), saved_fits h out z),
  λ w. let p = (audit_meaning h).1 w.0 in
      sym (ap (λ g. g.answer.refusal) (save_done h out (passes_fits h p) p w.1 refl)),
)

pub saves_image : SavesImage
saves_image h out z =
    let n = saved_size h out z in
    rw (saved_out h out z, n)
    (take_at (encode h) (drop (size h) out) (size h) n, drop_at (encode h) (drop (size h) out) (size h) n)

-- an image of a heap decodes to that heap, and Load takes it
module _ {i : List ℕ} {h : Heap} (m : ImageOf i h) where
  accepted : passes h ≡ true
  accepted = (audit_meaning h).1 m.formed

  -- what is read is h: of ten registers all, of nine all but a mark that h has
  reread : read_with m.registers h ≡ h
  reread =
      by_count (λ (n : ℕ). (n ≡ earlier_count → h.regs.mark ≡ h.regs.blocks + 1) → read_with n h ≡ h) m.registers m.known
      (λ f. refl) (λ f. rw (← f refl) refl) m.mark

  back : decode i ≡ h
  back = rw m.image (decode_with h (passes_fits h accepted) m.registers m.known m.range ∙ reread)

  counted : number i ≡ m.registers
  counted = rw m.image (count_with h m.registers m.known)

  taken : is_image i ≡ true
  taken =
      let k : count_known (number i) ≡ true = rw counted m.known in
      let e : encode_with (number i) (decode i) ≡ i = rw (counted, back) (sym m.image) in
      sym (encoded_image i k e) ∙ ap passes back ∙ accepted

pub load_gives : LoadGives
load_gives i k h m l =
    let d : same_lengths k (decode i) ≡ true = rw (back m) l in
    sym (load_done i k (taken m) d) ∙ ap (λ x. done 0 x) (back m)

pub one_heap : OneHeap
one_heap i h k m n = sym (back m) ∙ back n

-- with nine registers the mark is at M + 1
nine_mark : (i : List ℕ) → number i ≡ earlier_count → (decode i).regs.mark ≡ (decode i).regs.blocks + 1
unfolding decode numbers_from
nine_mark i e = rw e refl

pub load_means : LoadMeans
load_means i k b = (
  λ z. let y = load_zero i k z in
      let p = image_passes i y.0 in
      record {
        loaded = decode i;
        imaged =
            record {
              formed = (audit_meaning (decode i)).0 p;
              range = decode_range i b (passes_fits (decode i) p);
              registers = number i;
              known = image_known i y.0;
              image = sym (image_encoded i y.0);
              mark = nine_mark i;
            };
        lengths = y.1;
      },
  λ m. ap (λ g. g.answer.refusal) (load_gives i k m.loaded m.imaged m.lengths),
)

-- the image that Save writes
written : (h : Heap) → WellFormed h → InRange h → ImageOf (encode h) h
unfolding count_known
written h w r =
    record { formed = w; range = r; registers = register_count; known = refl; image = refl; mark = λ e. absurd (omega (arith, e)) }

pub load_saved : LoadSaved
load_saved h k out r z l =
    let w = (audit_meaning h).0 (saved_passes h out z) in
    rw (saves_image h out z).0 (load_gives (encode h) k h (written h w r) l)

-- an image with nine registers, of a heap with any mark
module _ (h : Heap) (w : WellFormed (topped h)) (r : InRange h) where
  topped_range : InRange (topped h)
  topped_range =
      let nine = take earlier_count (registers_of h.regs) in
      let m = (sizes (topped h) w.fitting).most in
      record {
        registers =
            below_registers (2 ^ 32) nine (omega arith) (take_below (2 ^ 32) earlier_count (registers_of h.regs) (omega arith) r.registers)
            (omega arith);
        colours = r.colours;
        bytes = r.bytes;
        words = r.words;
      }

  nine_image : ImageOf (encode_with earlier_count h) (topped h)
  unfolding count_known encode_with encode_blocks
  nine_image =
      record { formed = w; range = topped_range; registers = earlier_count; known = refl; image = refl; mark = λ e. refl }

pub read_nine : ReadNine
unfolding same_lengths
read_nine h k w r l = load_gives (encode_with earlier_count h) k (topped h) (nine_image h w r) l

pub saved_ten : SavedTen
saved_ten h k out w r l s =
    rw (read_nine h k w r l) (saves_image (topped h) out ((save_means (topped h) out).1 (w, s))).0
