-- What saving and loading a heap promise.
--     ImageOf i h          the bytes i are an image of the well-formed heap h, with ten registers or with nine
--     Loadable i k         they are the image of one whose lengths are those of k's buffers
--     SaveMeans            Save refuses nothing exactly where the heap is well-formed and the output is long enough
--     SavesImage           it then writes the heap's image, and leaves the output past it as it was
--     LoadMeans            Load refuses nothing exactly where the bytes are loadable
--     LoadGives            it then gives the heap whose image they are, and no other is: OneHeap
--     LoadSaved            what was saved loads as the same heap: registers, words, colours and reference bytes
--     topped h             h with its mark at M + 1
--     ToppedFormed         it is well-formed where h is
--     ReadNine             an image with nine registers loads as its heap, the mark at M + 1
--     SavedTen             and what is saved then is the image of that heap, with ten
-- A heap in range is one that a host's memory can hold: 32-bit numbers, and bytes below 256. Every image is bytes below 256.
-- Assumes nothing.
use Rattle.std.specs.Prelude.{ℕ, ◌+◌, ◌≤◌, ◌≡◌, ◌↔◌, true, List, length, take, drop}
use Rattle.machine.specs.Registers.{with_mark}
use Rattle.machine.specs.Heap.{Heap, with_regs}
use Rattle.machine.specs.Answers.{done}
use Rattle.machine.specs.WellFormed.{WellFormed}
use Rattle.machine.specs.Image.{earlier_count, encode_with, encode, count_known, Below, InRange}
use Rattle.machine.specs.Frame.{image_length}
use Rattle.machine.specs.Save.{save}
use Rattle.machine.specs.Load.{same_lengths, load}

-- "Images gain the register as tenth; those with nine are read with the mark at M + 1."
pub record ImageOf (i : List ℕ) (h : Heap) : Type 0 where
  pub formed : WellFormed h
  pub range : InRange h
  pub registers : ℕ
  pub known : count_known registers ≡ true
  pub image : i ≡ encode_with registers h
  pub mark : registers ≡ earlier_count → h.regs.mark ≡ h.regs.blocks + 1

pub record Loadable (i : List ℕ) (k : Heap) : Type 0 where
  pub loaded : Heap
  pub imaged : ImageOf i loaded
  pub lengths : same_lengths k loaded ≡ true

-- as long as the image of h
abbrev pub size : Heap → ℕ
size h = image_length h.regs.blocks

abbrev pub SaveMeans : Type 0
SaveMeans = (h : Heap) (out : List ℕ) → ((save out h).answer.refusal ≡ 0) ↔ ((WellFormed h) × (size h ≤ length out))

abbrev pub SavesImage : Type 0
SavesImage =
    (h : Heap) (out : List ℕ) → (save out h).answer.refusal ≡ 0
    → (take (size h) (save out h).out ≡ encode h) × (drop (size h) (save out h).out ≡ drop (size h) out)

abbrev pub LoadMeans : Type 0
LoadMeans = (i : List ℕ) (k : Heap) → Below 256 i → ((load i k).answer.refusal ≡ 0) ↔ Loadable i k

abbrev pub LoadGives : Type 0
LoadGives = (i : List ℕ) (k h : Heap) → ImageOf i h → same_lengths k h ≡ true → load i k ≡ done 0 h

abbrev pub OneHeap : Type 0
OneHeap = (i : List ℕ) (h k : Heap) → ImageOf i h → ImageOf i k → h ≡ k

-- "loading what was saved gives the same heap"
abbrev pub LoadSaved : Type 0
LoadSaved =
    (h k : Heap) (out : List ℕ) → InRange h → (save out h).answer.refusal ≡ 0 → same_lengths k h ≡ true
    → load (take (size h) (save out h).out) k ≡ done 0 h

abbrev pub topped : Heap → Heap
topped h = with_regs (with_mark (h.regs.blocks + 1) h.regs) h

abbrev pub ToppedFormed : Type 0
ToppedFormed = (h : Heap) → WellFormed h → WellFormed (topped h)

-- "those with nine are read with the mark at M + 1"; the mark of h is not among the nine
abbrev pub ReadNine : Type 0
ReadNine =
    (h k : Heap) → WellFormed (topped h) → InRange h → same_lengths k h ≡ true → load (encode_with earlier_count h) k ≡ done 0 (topped h)

-- "Images gain the register as tenth"
abbrev pub SavedTen : Type 0
SavedTen =
    (h k : Heap) (out : List ℕ) → WellFormed (topped h) → InRange h → same_lengths k h ≡ true → size h ≤ length out
    → take (size h) (save out (load (encode_with earlier_count h) k).heap).out ≡ encode (topped h)
