-- Laws of taking several blocks, over any form: what holds before each take.
--     Listed n at m            the blocks to take: at 0 .. at (n - 1) are different blocks
--     Waiting n i at m h       of those the first i are taken, and the others are still the first of the free list, in order
--     Placed n i at m p w      word w of p may name block i: p is 0, or a block and none of those that wait
--     taken_waits, held_waits, put_waits     a take, the storing of a reference, a word written elsewhere: the others wait on
--     nulled_waits, zeroed_waits     and so on for the words that a form fills in
--     Hanging f n              each block of the form is named by an earlier one
--     placed                   then its holder is placed
--     Served f b w n h₀ i h    of the n takes from h₀ on i are done, h is the heap, and the whole is what is left
--     served_start, served_on, served_end     the start, one more take, the end;     serves-next: what the take asks for
--     serves_refused, serves_done, serves_damaged     what follows the units
-- The takes write words of blocks that are taken, and of the holder, which isn't free. So the links of the blocks that wait stay.
-- Assumes nothing.
use Prim.Native.Nat.{ℕ, ◌+◌, ◌-◌, ◌*◌, ◌<◌, ◌≤◌}
use mathlib.Core.Path.{◌≡◌, refl, sym, ◌∙◌, ap}
use mathlib.Core.Logic.{◌≢◌}
use mathlib.Core.Bool.{true}
use mathlib.Core.List.{List, [], ◌∷◌}
use native.Mathlib.Omega.{arith}
use native.Mathlib.Numerals.{add-one}
use lib.ListN.{get_or, set, length, length-set}
use lib.Seq.{get_or-set_other}
use borrow.Author.Tests.{eq-eqb, ne_eqb}
use Rattle.machine.specs.Block.{place}
use Rattle.machine.specs.Heap.{Heap}
use Rattle.machine.specs.WellFormed.{Block}
use Rattle.machine.specs.Store.{put_number, put_reference}
use Rattle.machine.specs.Allocate.{taken, held}
use Rattle.machine.specs.Several.{Form, link_of, first_frees, take_several_refusal, nulled, zeroed, filled, holder_of, by_word, serve, several_taken}
use Rattle.machine.specs.declared.Colour.{Colour}
use Rattle.machine.specs.declared.Colour.TheVariants.{White, Grey, Black, Free, Outside}
use Rattle.machine.specs.Tests.{◌▷◌}
use Rattle.machine.specs.Answers.{Given, answering}
use Rattle.machine.specs.Units.{RunEnd, stopped}
use Rattle.machine.specs.Colouring.{free_colour, is_free}
use Rattle.machine.specs.Heap.{colouring, colour_of}
use Rattle.machine.specs.State.{is_live, state_from, state_in, state_of, new_colour}
use Rattle.machine.specs.Ready.{Ready}
use Rattle.machine.proofs.Tests.{by_eq, clash}
use Rattle.machine.proofs.Blocks.{block_as}
use Rattle.machine.proofs.Colours.{repaint_length}
use Rattle.machine.proofs.Refusals.{stops, holder_live}
use Rattle.machine.proofs.Walking.{onward, at_frees, apart, walks_blocks, walks_free}
use Rattle.machine.proofs.Gathering.{gathered}

pub record Listed (n : ℕ) (at : ℕ → ℕ) (m : ℕ) : Type 0 where
  pub block : (j : ℕ) → j < n → Block m (at j)
  pub apart : (j k : ℕ) → j < k → k < n → at j ≢ at k

pub record Waiting (n i : ℕ) (at : ℕ → ℕ) (m : ℕ) (h : Heap) : Type 0 where
  pub blocks : h.regs.blocks ≡ m
  pub words : length h.words ≡ 8 * m
  pub colours : length h.colours ≡ m
  pub bytes : length h.bytes ≡ m
  pub count : n ≤ i + h.regs.count
  pub first : i < n → h.regs.free ≡ at i
  pub links : (j : ℕ) → i ≤ j → j + 1 < n → link_of h (at j) ≡ at (j + 1)

pub record Placed (n i : ℕ) (at : ℕ → ℕ) (m p w : ℕ) : Type 0 where
  pub block : p ≢ 0 → Block m p
  pub low : p ≢ 0 → w ≤ 7
  pub other : p ≢ 0 → (j : ℕ) → i ≤ j → j < n → p ≢ at j

-- word 0 of another block stays where a word of p is written
other_word : (ws : List ℕ) {m p x : ℕ} (w v : ℕ) → Block m p → Block m x → w ≤ 7 → p ≢ x → get_or (set ws (place p w) v) (place x 0) 0 ≡ get_or ws (place x 0) 0
other_word ws {m} {p} {x} w v b c l n =
    let o : place x 0 ≢ place p w = λ e. n (let lo = b.low in let lx = c.low in omega arith) in
    get_or-set_other ws (place p w) (place x 0) v 0 o

module _ (n i : ℕ) (at : ℕ → ℕ) (m : ℕ) (h : Heap) (s : Listed n at m) where
  -- the block i is taken
  pub taken_waits : i < n → Waiting n i at m h → Waiting n (i + 1) at m (taken h)
  unfolding taken
  taken_waits l d =
      let f = d.first l in
      let c = d.count in
      record {
        blocks = d.blocks;
        words = simp length-set d.words;
        colours = repaint_length h.regs.free (new_colour h.regs h.regs.free) h.colours ∙ d.colours;
        bytes = d.bytes;
        count = omega arith;
        first = λ k. ap (link_of h) f ∙ d.links i (omega arith) k;
        links = λ j g k.
            let o : h.regs.free ≢ at j = λ e. s.apart i j (omega arith) (omega arith) (sym f ∙ e) in
            let b : Block m h.regs.free = rw f (s.block i l) in
            other_word h.words 0 0 b (s.block j (omega arith)) (omega arith) o ∙ d.links j (omega arith) k;
      }

module _ (n i : ℕ) (at : ℕ → ℕ) (m : ℕ) (h : Heap) (s : Listed n at m) (d : Waiting n i at m h) where
  -- a word of a block that isn't waiting is written
  module _ (p w t : ℕ) (b : Block m p) (l : w ≤ 7) (o : (j : ℕ) → i ≤ j → j < n → p ≢ at j) where
    pub put_waits : Waiting n i at m (put_reference p w t h)
    unfolding put_reference
    put_waits =
        record {
          blocks = d.blocks;
          words = simp length-set d.words;
          colours = d.colours;
          bytes = simp length-set d.bytes;
          count = d.count;
          first = d.first;
          links = λ j g k. other_word h.words w t b (s.block j (omega arith)) l (o j g (omega arith)) ∙ d.links j g k;
        }

    pub put_number_waits : Waiting n i at m (put_number p w t h)
    unfolding put_number
    put_number_waits =
        record {
          blocks = d.blocks;
          words = simp length-set d.words;
          colours = d.colours;
          bytes = simp length-set d.bytes;
          count = d.count;
          first = d.first;
          links = λ j g k. other_word h.words w t b (s.block j (omega arith)) l (o j g (omega arith)) ∙ d.links j g k;
        }

  pub held_waits : (p w x : ℕ) → Placed n i at m p w → Waiting n i at m (held p w x h)
  unfolding held
  held_waits p w x q = by_eq p 0
      (λ z.
      simp (eq-eqb p 0 z)
      (record { blocks = d.blocks; words = d.words; colours = d.colours; bytes = d.bytes; count = d.count; first = d.first; links = d.links }))
      (λ z. simp (ne_eqb p 0 z) (put_waits p w x (q.block z) (q.low z) (q.other z)))

abbrev pub Low : List ℕ → Type 0
Low [] = Unit {0}
Low (w ∷ ws) = (w ≤ 7) × Low ws

module _ (n i : ℕ) (at : ℕ → ℕ) (m x : ℕ) (s : Listed n at m) (b : Block m x) (o : (j : ℕ) → i ≤ j → j < n → x ≢ at j) where
  pub nulled_waits : (ws : List ℕ) → Low ws → (h : Heap) → Waiting n i at m h → Waiting n i at m (nulled ws x h)
  unfolding nulled
  nulled_waits [] l h d = d
  nulled_waits (w ∷ ws) l h d = nulled_waits ws l.1 (put_reference x w 0 h) (put_waits n i at m h s d x w 0 b l.0 o)

  pub zeroed_waits : (ws : List ℕ) → Low ws → (h : Heap) → Waiting n i at m h → Waiting n i at m (zeroed ws x h)
  unfolding zeroed
  zeroed_waits [] l h d = d
  zeroed_waits (w ∷ ws) l h d = zeroed_waits ws l.1 (put_number x w 0 h) (put_number_waits n i at m h s d x w 0 b l.0 o)

pub record Hanging (f : Form) (n : ℕ) : Type 0 where
  pub earlier : (i : ℕ) → i ≢ 0 → i < n → f.parent i < i
  pub low : (i : ℕ) → i < n → f.word i ≤ 7
  pub nulls : (i : ℕ) → i < n → Low (f.nulls i)
  pub zeros : (i : ℕ) → i < n → Low (f.zeros i)

pub placed : (f : Form) (n i : ℕ) (at : ℕ → ℕ) (m b w : ℕ) (xs : List ℕ) → Hanging f n → Listed n at m → Placed n 0 at m b w
    → ((j : ℕ) → j < n → get_or xs j 0 ≡ at j) → i < n → Placed n i at m (holder_of f b xs i) (by_word f w i)
placed f n i at m b w xs g s q e l = by_eq i 0
    (λ z. simp (eq-eqb i 0 z) (record { block = q.block; low = q.low; other = λ y j k. q.other y j (omega arith) }))
    (λ z.
    let u = g.earlier i z l in
    let a : get_or xs (f.parent i) 0 ≡ at (f.parent i) = e (f.parent i) (omega arith) in
    simp (ne_eqb i 0 z)
    (record {
      block = λ y. rw a (s.block (f.parent i) (omega arith));
      low = λ y. g.low i l;
      other = λ y j k v x. s.apart (f.parent i) j (omega arith) v (sym a ∙ x);
    }))

-- a free block is not live
free_gone : (h : Heap) (b : ℕ) → is_free (colouring h) b ≡ true → is_live (state_of h b) ≡ true → ⊥
unfolding state_in state_from
free_gone h b f e = go (colour_of h b) f e
  where
    go : (c : Colour) → free_colour c ≡ true → is_live (state_from h.regs b c) ≡ true → ⊥
    go White f e = clash f refl
    go Grey f e = clash f refl
    go Black f e = clash f refl
    go Free f e = clash e refl
    go Outside f e = clash f refl

-- the blocks that are taken from h on
abbrev pub block_of : Heap → ℕ → ℕ
block_of h j = onward h h.regs.free j

pub record Served (f : Form) (b w n : ℕ) (h₀ : Heap) (i : ℕ) (h : Heap) : Type 0 where
  pub within : i ≤ n
  pub listed : Listed n (block_of h₀) h₀.regs.blocks
  pub holder : Placed n 0 (block_of h₀) h₀.regs.blocks b w
  pub waiting : Waiting n i (block_of h₀) h₀.regs.blocks h
  pub whole : serve f b w (first_frees n h₀) n 0 h₀ ≡ serve f b w (first_frees n h₀) (n - i) i h

pub served_start : (f : Form) (b w n : ℕ) (h : Heap) → Ready h → (b ≢ 0 → Block h.regs.blocks b × (w ≤ 7)) → take_several_refusal n b h ≡ 0 → Served f b w n h 0 h
unfolding onward first_frees
served_start f b w n h d p e =
    let g = gathered n b h e in
    record {
      within = omega arith;
      listed = record { block = walks_blocks h n h.regs.free g.walks d.free; apart = apart h n h.regs.free g.different };
      holder =
          record {
            block = λ z. (p z).0;
            low = λ z. (p z).1;
            other = λ z j k l q. free_gone h b (rw q (walks_free h n h.regs.free g.walks j l)) (holder_live h b (g.holder z));
          };
      waiting =
          record {
            blocks = refl;
            words = d.words;
            colours = d.colours;
            bytes = d.bytes;
            count = let c = g.count in omega arith;
            first = λ l. refl;
            links = λ j k l. rw (add-one j) refl;
          };
      whole = let z : n - 0 ≡ n = omega arith in rw z refl;
    }

module _ (f : Form) (b w n : ℕ) (h₀ : Heap) (i : ℕ) (h : Heap) (g : Hanging f n) (d : Served f b w n h₀ i h) (l : i < n) {p v : ℕ}
    (e : p ≡ holder_of f b (first_frees n h₀) i) (k : v ≡ by_word f w i) where
  next_placed : Placed n i (block_of h₀) h₀.regs.blocks p v
  unfolding first_frees
  next_placed = rw (e, k) (placed f n i (block_of h₀) h₀.regs.blocks b w (first_frees n h₀) g d.listed d.holder (λ j. at_frees h₀ n h₀.regs.free j) l)

  pub serves_next : (length h.words ≡ 8 * h.regs.blocks) × (length h.colours ≡ h.regs.blocks) × (length h.bytes ≡ h.regs.blocks)
      × Block h.regs.blocks h.regs.free × (1 ≤ h.regs.count) × (p ≢ 0 → Block h.regs.blocks p × (v ≤ 7))
  serves_next =
      let q = d.waiting in
      let m = q.blocks in
      let c = q.count in
      let t = next_placed in (
        rw m q.words,
        rw m q.colours,
        rw m q.bytes,
        block_as m (rw (q.first l) (d.listed.block i l)),
        omega arith,
        λ z. (block_as m (t.block z), t.low z),
      )

  pub served_on : {x : Heap} → x ≡ filled f i h.regs.free (held p v h.regs.free (taken h)) → Served f b w n h₀ (i + 1) x
  unfolding serve
  served_on {x} q =
      let u = d.waiting in
      let a = u.first l in
      let t = next_placed in
      let s = d.listed in
      let y : Block h₀.regs.blocks h.regs.free = rw a (s.block i l) in
      let o : (j : ℕ) → i + 1 ≤ j → j < n → h.regs.free ≢ block_of h₀ j = λ j k z r. s.apart i j (omega arith) z (sym a ∙ r) in
      let after = held_waits n (i + 1) (block_of h₀) h₀.regs.blocks (taken h) s (taken_waits n i (block_of h₀) h₀.regs.blocks h s l u) p v h.regs.free
      (record { block = t.block; low = t.low; other = λ z j k r. t.other z j (omega arith) r }) in
      let fills = zeroed_waits n (i + 1) (block_of h₀) h₀.regs.blocks h.regs.free s y o (f.zeros i) (g.zeros i l) _
      (nulled_waits n (i + 1) (block_of h₀) h₀.regs.blocks h.regs.free s y o (f.nulls i) (g.nulls i l) _ after) in
      record {
        within = omega arith;
        listed = s;
        holder = d.holder;
        waiting = rw q fills;
        whole = serve_on (n - i) (n - (i + 1)) (omega arith) d.whole;
      }
    where
      serve_on : (j c : ℕ) → j ≡ c + 1 → serve f b w (first_frees n h₀) n 0 h₀ ≡ serve f b w (first_frees n h₀) j i h
          → serve f b w (first_frees n h₀) n 0 h₀ ≡ serve f b w (first_frees n h₀) c (i + 1) x
      serve_on j c z r = (rw (z, add-one c) at r) ∙ rw (q, e, k) refl

pub served_end : (f : Form) (b w n : ℕ) (h₀ : Heap) (i : ℕ) (h : Heap) → Served f b w n h₀ i h → n ≤ i → h ≡ serve f b w (first_frees n h₀) n 0 h₀
unfolding serve
served_end f b w n h₀ i h d l = let z : n - i ≡ 0 = omega arith in sym (rw z at d.whole)

module _ (f : Form) (k b w units : ℕ) (h : Heap) {g : Given} {n : ℕ} (q : n ≡ take_several_refusal k b h) where
  pub serves_refused : n ≢ 0 → g ≡ answering n 0 units h → g ≡ several_taken f k b w (stopped 0 units h)
  unfolding several_taken ◌▷◌
  serves_refused z a = simp (ne_eqb (take_several_refusal k b h) 0 (λ y. z (q ∙ y))) (rw (← q) a)

  pub serves_done : {x : Heap} → n ≡ 0 → x ≡ serve f b w (first_frees k h) k 0 h → g ≡ answering 0 h.regs.free units x → g ≡ several_taken f k b w (stopped 0 units h)
  unfolding several_taken ◌▷◌
  serves_done z t a = simp (eq-eqb (take_several_refusal k b h) 0 (sym q ∙ z)) (rw (← t) a)

-- units that met damage end the call
pub serves_damaged : (f : Form) (k b w : ℕ) (e : RunEnd) {g : Given} → e.refusal ≢ 0 → g ≡ answering e.refusal 0 e.units e.heap → g ≡ several_taken f k b w e
unfolding several_taken
serves_damaged f k b w e n a =
    let s : e.refusal ≡ e.refusal ▷ take_several_refusal k b e.heap = stops (take_several_refusal k b e.heap) refl n in
    simp (← s, ne_eqb e.refusal 0 n) a
