-- Taking several free blocks at once, in a form.
--     Form                 how the blocks hang together: which earlier block names each one, by which word; what is filled in
--     frees n b h, first_frees n h     n blocks by their links, from b on and from the head of the free list on
--     list_walks n b h      n blocks of the list from b on are there and free, each with a link that is 0 or a block
--     distinct xs          no number comes twice
--     head_refusal head count     8 for a free head and a free count that disagree
--     several_refusal n h   8 or 7 for the first n of the free list
--     filled f i x h       what the form fills in in x, the block i
--     serve f b w xs n i h     n more blocks taken, of which the first is the block i of the form; xs are all of them
--     several_taken f n b w e   what the taking of n blocks gives once the units are done
-- All n are taken or none: every test stands before the first block is taken.
-- Assumes nothing.
use Rattle.std.specs.Prelude.{ℕ, zero, suc, ◌+◌, Bool, true, false, ◌&&◌, ◌||◌, not, List, [], ◌∷◌, eqb, leb, get_or, if◌then◌else◌}
use Rattle.machine.specs.Tests.{◌▷◌}
use Rattle.machine.specs.Block.{word_of}
use Rattle.machine.specs.Colouring.{is_free}
use Rattle.machine.specs.Heap.{Heap, colouring}
use Rattle.machine.specs.Entry.{is_block_or_none}
use Rattle.machine.specs.State.{holder_refusal}
use Rattle.machine.specs.Answers.{Given, answering}
use Rattle.machine.specs.Units.{RunEnd}
use Rattle.machine.specs.Store.{put_number, put_reference}
use Rattle.machine.specs.Allocate.{taken, held}

-- block i is named by word `word i` of block `parent i`, which comes earlier; block 0 by the call's own holder. Of block i the words
-- `nulls i` become null references, and the words `zeros i` the number 0
pub record Form : Type 0 where
  pub parent : ℕ → ℕ
  pub word : ℕ → ℕ
  pub nulls : ℕ → List ℕ
  pub zeros : ℕ → List ℕ

-- the link of a free block
abbrev pub link_of : Heap → ℕ → ℕ
link_of h b = word_of h.words b 0

-- n blocks from b on, by their links
unfoldable pub frees : ℕ → ℕ → Heap → List ℕ
frees zero b h = []
frees (suc n) b h = b ∷ frees n (link_of h b) h

-- "the first n of the free list"
unfoldable pub first_frees : ℕ → Heap → List ℕ
first_frees n h = frees n h.regs.free h

-- "8 for each block, also when the list ends early": a block not coloured free, or whose link is no block and not 0
unfoldable pub list_walks : ℕ → ℕ → Heap → Bool
list_walks zero b h = true
list_walks (suc n) b h =
    not (eqb b 0) && (is_free (colouring h) b && (is_block_or_none h.regs.blocks (link_of h b) && list_walks n (link_of h b) h))

unfoldable pub amongst : ℕ → List ℕ → Bool
amongst x [] = false
amongst x (y ∷ ys) = eqb x y || amongst x ys

-- "or repeats one"
unfoldable pub distinct : List ℕ → Bool
distinct [] = true
distinct (x ∷ xs) = not (amongst x xs) && distinct xs

-- "8 for head and count": "a free head that is 0 while the count isn't, or the reverse"
unfoldable pub head_refusal : ℕ → ℕ → ℕ
head_refusal head count =
    if eqb head 0 then (if eqb count 0 then 0 else 8) else (if eqb count 0 then 8 else 0)

-- "in taking, 8 for head and count, 7 exactly when fewer than n are free, 8 for each block, also when the list ends early or repeats
-- one"
unfoldable pub several_refusal : ℕ → Heap → ℕ
several_refusal n h =
    head_refusal h.regs.free h.regs.count
    ▷ (if leb n h.regs.count then 0 else 7)
    ▷ (if list_walks n h.regs.free h && distinct (first_frees n h) then 0 else 8)

-- "then tests the holder, then takes all n or none"
unfoldable pub take_several_refusal : ℕ → ℕ → Heap → ℕ
take_several_refusal n b h = (if eqb b 0 then 0 else holder_refusal h b) ▷ several_refusal n h

unfoldable pub nulled : List ℕ → ℕ → Heap → Heap
nulled [] x h = h
nulled (w ∷ ws) x h = nulled ws x (put_reference x w 0 h)

unfoldable pub zeroed : List ℕ → ℕ → Heap → Heap
zeroed [] x h = h
zeroed (w ∷ ws) x h = zeroed ws x (put_number x w 0 h)

abbrev pub filled : Form → ℕ → ℕ → Heap → Heap
filled f i x h = zeroed (f.zeros i) x (nulled (f.nulls i) x h)

-- the block that names block i, and the word by which it does
abbrev pub holder_of : Form → ℕ → List ℕ → ℕ → ℕ
holder_of f b xs i = if eqb i 0 then b else get_or xs (f.parent i) 0

abbrev pub by_word : Form → ℕ → ℕ → ℕ
by_word f w i = if eqb i 0 then w else f.word i

unfoldable pub serve : Form → ℕ → ℕ → List ℕ → ℕ → ℕ → Heap → Heap
serve f b w xs zero i h = h
serve f b w xs (suc n) i h =
    serve f b w xs n (i + 1) (filled f i h.regs.free (held (holder_of f b xs i) (by_word f w i) h.regs.free (taken h)))

-- "the value the first"
unfoldable pub several_taken : Form → ℕ → ℕ → ℕ → RunEnd → Given
several_taken f n b w e =
    if eqb (e.refusal ▷ take_several_refusal n b e.heap) 0
    then answering 0 e.heap.regs.free e.units (serve f b w (first_frees n e.heap) n 0 e.heap)
    else answering (e.refusal ▷ take_several_refusal n b e.heap) 0 e.units e.heap
