-- Laying a chain: each block is given its link when it is taken, where the form has every new block's link null first.
--     lay k h              k blocks and one more are taken, each names the one that is then the first free, and the last names none
--     take_after           a word written before a take or after it
--     put_again            a reference written over another
--     Laid k h             the first k + 1 of the free list are there to take
--     laid_take, laid_put, laid_on     what the take asks for, what the link asks for, and that the others wait on
--     lay_on, lay_end      one block of the chain, and the last one
--     laid_start           the chain before the first take, its holder written already
--     laid                 then what is laid is what the form serves
-- A link is a word 7 and a take writes a word 0, so neither sees the other.
-- Assumes nothing.
use Prim.Native.Nat.{ℕ, zero, suc, ◌+◌, ◌-◌, ◌*◌, ◌<◌, ◌≤◌}
use mathlib.Core.Path.{◌≡◌, refl, sym, ◌∙◌, ap}
use mathlib.Core.Logic.{◌≢◌}
use mathlib.Core.List.{List}
use native.Mathlib.Omega.{arith}
use native.Mathlib.Numerals.{add-one}
use lib.Dec.{eqb}
use lib.ListN.{get_or, set, length, length-set}
use lib.Seq.{get_or-set_same, get_or-set_other, set-set, set_comm}
use borrow.Author.Tests.{eq-eqb, ne_eqb}
use Rattle.std.specs.Prelude.{if◌then◌else◌}
use Rattle.machine.specs.Block.{place, index, byte_of, with_bit, set_bit}
use Rattle.machine.specs.Heap.{Heap, heap}
use Rattle.machine.specs.WellFormed.{Block}
use Rattle.machine.specs.Ready.{Ready}
use Rattle.machine.specs.Store.{put_reference}
use Rattle.machine.specs.State.{ahead, may_be_black, new_colour}
use Rattle.machine.specs.Allocate.{taken, held}
use Rattle.machine.specs.Several.{first_frees, take_several_refusal, holder_of, by_word, filled, serve}
use Rattle.machine.specs.Chain.{link, chain}
use Rattle.machine.proofs.Tests.{by_eq}
use Rattle.machine.proofs.Blocks.{block_as}
use Rattle.machine.proofs.Bytes.{set_here, bit_was_set}
use Rattle.machine.proofs.Serving.{Listed, Waiting, Placed, taken_waits, put_waits, held_waits, block_of, Served, served_start}
use Rattle.machine.proofs.Chaining.{chain_filled, chain_parent, chain_word}

unfoldable pub lay : ℕ → Heap → Heap
lay zero h = put_reference h.regs.free link 0 (taken h)
lay (suc k) h = lay k (put_reference h.regs.free link (taken h).regs.free (taken h))

take_after : (p w t : ℕ) (h : Heap) → place p w ≢ place h.regs.free 0 → put_reference p w t (taken h) ≡ taken (put_reference p w t h)
unfolding taken put_reference
take_after p w t h o =
    let q : place h.regs.free 0 ≢ place p w = λ e. o (sym e) in
    rw (set_comm h.words (place h.regs.free 0) (place p w) 0 t q, get_or-set_other h.words (place p w) (place h.regs.free 0) t 0 q) refl

bit_again : (bs : List ℕ) (b w : ℕ) → w < 8 → index b < length bs → set_bit (set_bit bs b w) b w ≡ set_bit bs b w
bit_again bs b w l i =
    let here = get_or-set_same bs (index b) (with_bit (byte_of bs b) w) 0 i in
    sym (bit_was_set (set_bit bs b w) b w l (rw here (set_here (byte_of bs b) w)))

put_again : (p w v t : ℕ) (h : Heap) → w < 8 → index p < length h.bytes → put_reference p w t (put_reference p w v h) ≡ put_reference p w t h
unfolding put_reference
put_again p w v t h l i = rw (set-set h.words (place p w) v t, bit_again h.bytes p w l i) refl

-- of n blocks the first i are taken, and k + 1 are left
pub record Laid (k : ℕ) (h : Heap) : Type 0 where
  pub n : ℕ
  pub i : ℕ
  pub at : ℕ → ℕ
  pub m : ℕ
  pub left : i + k + 1 ≡ n
  pub listed : Listed n at m
  pub waiting : Waiting n i at m h

-- the block i is taken and its link written: the others wait on
module _ (n i : ℕ) (at : ℕ → ℕ) (m : ℕ) (h : Heap) (s : Listed n at m) (l : i < n) (q : Waiting n i at m h) where
  free_block : Block m h.regs.free
  free_block = rw (q.first l) (s.block i l)

  waits_on : (t : ℕ) → Waiting n (i + 1) at m (put_reference h.regs.free link t (taken h))
  waits_on t =
      let o : (j : ℕ) → i + 1 ≤ j → j < n → h.regs.free ≢ at j = λ j u v e. s.apart i j (omega arith) v (sym (q.first l) ∙ e) in
      put_waits n (i + 1) at m (taken h) s (taken_waits n i at m h s l q) h.regs.free link t free_block (omega arith) o

module _ {k : ℕ} {h : Heap} (d : Laid k h) where
  in_list : d.i < d.n
  in_list = let e = d.left in omega arith

  laid_block : Block d.m h.regs.free
  laid_block = free_block d.n d.i d.at d.m h d.listed in_list d.waiting

  pub laid_take : (length h.words ≡ 8 * h.regs.blocks) × (length h.colours ≡ h.regs.blocks) × Block h.regs.blocks h.regs.free × (1 ≤ h.regs.count)
  laid_take =
      let q = d.waiting in
      let e = d.left in
      let c = q.count in
      let z = q.blocks in
      (rw z q.words, rw z q.colours, block_as z laid_block, omega arith)

  pub laid_put : (length h.words ≡ 8 * length h.bytes) × Block (length h.bytes) h.regs.free × (link ≤ 7)
  laid_put =
      let q = d.waiting in
      let z = q.bytes in
      (rw z q.words, block_as z laid_block, omega arith)

  pub laid_on : (j : ℕ) {g x : Heap} → k ≡ j + 1 → g ≡ taken h → x ≡ put_reference h.regs.free link g.regs.free g → Laid j x
  laid_on j {g} {x} e a q =
      let y = d.left in
      record {
        n = d.n;
        i = d.i + 1;
        at = d.at;
        m = d.m;
        left = omega arith;
        listed = d.listed;
        waiting = rw (q, a) (waits_on d.n d.i d.at d.m h d.listed in_list d.waiting (taken h).regs.free);
      }

module _ (k : ℕ) (h : Heap) {g x : Heap} (a : g ≡ taken h) where
  pub lay_on : (j : ℕ) → k ≡ j + 1 → x ≡ put_reference h.regs.free link g.regs.free g → lay k h ≡ lay j x
  unfolding lay
  lay_on j e q = rw (e, add-one j, q, a) refl

  pub lay_end : k ≡ 0 → x ≡ put_reference h.regs.free link 0 g → x ≡ lay k h
  unfolding lay
  lay_end e q = rw (e, q, a) refl

-- a link that is null first and then names the next block, or names it at once
link_once : (x : ℕ) (h : Heap) → index x < length h.bytes
    → put_reference x link h.regs.free (taken (put_reference x link 0 h)) ≡ taken (put_reference x link h.regs.free h)
unfolding put_reference
link_once x h i =
    let o : place x link ≢ place h.regs.free 0 = λ e. absurd (omega arith) in
    take_after x link h.regs.free (put_reference x link 0 h) o ∙ ap taken (put_again x link 0 h.regs.free h (omega arith) i)

held_word : (p w x : ℕ) (h : Heap) → p ≢ 0 → held p w x h ≡ put_reference p w x h
unfolding held
held_word p w x h z = simp (ne_eqb p 0 z)

held_free : (b w x : ℕ) (h : Heap) → (held b w x h).regs.free ≡ h.regs.free
unfolding held put_reference
held_free b w x h = by_eq b 0 (λ z. simp (eq-eqb b 0 z)) (λ z. simp (ne_eqb b 0 z))

taken_index : (h : Heap) {x : ℕ} → Block (length h.bytes) x → index x < length (taken h).bytes
unfolding taken
taken_index h b = let l = b.low in let t = b.high in omega arith

-- the holder written before the take or after it
held_take : (b w x : ℕ) (h : Heap) → (b ≢ 0 → place b w ≢ place h.regs.free 0) → held b w x (taken h) ≡ taken (held b w x h)
unfolding held taken new_colour may_be_black ahead
held_take b w x h o = by_eq b 0 (λ z. simp (eq-eqb b 0 z)) (λ z. simp (ne_eqb b 0 z) (take_after b w x h (o z)))

module _ (b w n : ℕ) (h₀ : Heap) (s : Listed n (block_of h₀) h₀.regs.blocks) where
  -- block i + 1 of the form, taken where block i is x
  link_on : (i x : ℕ) (h : Heap) → x ≡ holder_of chain b (first_frees n h₀) (i + 1) → x ≢ 0 → index x < length h.bytes
      → filled chain (i + 1) h.regs.free
      (held (holder_of chain b (first_frees n h₀) (i + 1)) (by_word chain w (i + 1)) h.regs.free (taken (put_reference x link 0 h)))
      ≡ put_reference h.regs.free link 0 (taken (put_reference x link h.regs.free h))
  link_on i x h e z l =
      let g = taken (put_reference x link 0 h) in
      let c : held (holder_of chain b (first_frees n h₀) (i + 1)) (by_word chain w (i + 1)) h.regs.free g ≡ put_reference x link h.regs.free g =
      rw (← e, ← chain_word w i) (held_word x link h.regs.free g z) in
      sym (chain_filled (i + 1) h.regs.free _ refl) ∙ ap (put_reference h.regs.free link 0) (c ∙ link_once x h l)

  -- the blocks from block i on, which is taken and has no link yet
  serve_lay : (k i : ℕ) (h : Heap) → i + k + 1 ≡ n → Waiting n i (block_of h₀) h₀.regs.blocks h
      → serve chain b w (first_frees n h₀) k (i + 1) (put_reference h.regs.free link 0 (taken h)) ≡ lay k h
  unfolding serve lay put_reference
  serve_lay zero i h e q = refl
  serve_lay (suc k) i h e q =
      let l : i < n = omega arith in
      let x = block_as q.bytes (free_block n i (block_of h₀) h₀.regs.blocks h s l q) in
      ap (serve chain b w (first_frees n h₀) k (i + 1 + 1))
      (link_on i h.regs.free (taken h) (chain_parent b n i h₀ l (q.first l)) (λ z. absurd (let u = x.low in omega arith)) (taken_index h x))
      ∙ serve_lay k (i + 1) (put_reference h.regs.free link (taken h).regs.free (taken h)) (omega arith)
      (waits_on n i (block_of h₀) h₀.regs.blocks h s l q (taken h).regs.free)

-- the first block of the form
serve_first : (b w n k : ℕ) (xs : List ℕ) (h : Heap) → n ≡ k + 1
    → serve chain b w xs n 0 h ≡ serve chain b w xs k 1 (filled chain 0 h.regs.free (held b w h.regs.free (taken h)))
unfolding serve
serve_first b w n k xs h e = rw (e, add-one k) refl

-- what the tests have established before the first take
module _ (b w n k : ℕ) (h : Heap) (d : Ready h) (p : b ≢ 0 → Block h.regs.blocks b × (w ≤ 7)) (e : take_several_refusal n b h ≡ 0) (l : n ≡ k + 1) {x : Heap}
    (q : x ≡ held b w h.regs.free h) where
  holder_waits : Waiting n 0 (block_of h) h.regs.blocks (held b w h.regs.free h)
  holder_waits =
      let s = served_start chain b w n h d p e in
      held_waits n 0 (block_of h) h.regs.blocks h s.listed s.waiting b w h.regs.free s.holder

  pub laid_start : Laid k x
  laid_start =
      record {
        n = n;
        i = 0;
        at = block_of h;
        m = h.regs.blocks;
        left = omega arith;
        listed = (served_start chain b w n h d p e).listed;
        waiting = rw q holder_waits;
      }

  pub laid : lay k x ≡ serve chain b w (first_frees n h) n 0 h
  laid =
      let s = served_start chain b w n h d p e in
      let y = h.regs.free in
      let f = s.waiting.first (omega arith) in
      let c : Block h.regs.blocks y = rw f (s.listed.block 0 (omega arith)) in
      let o : b ≢ 0 → place b w ≢ place y 0 =
      λ z t. s.holder.other z 0 (omega arith) (omega arith) ((let u = (p z).0.low in let v = (p z).1 in let low = c.low in omega arith) ∙ f) in
      let first : put_reference (held b w y h).regs.free link 0 (taken (held b w y h)) ≡ filled chain 0 y (held b w y (taken h)) =
      (ap (λ (v : ℕ). put_reference v link 0 (taken (held b w y h))) (held_free b w y h) ∙ ap (put_reference y link 0) (sym (held_take b w y h o))
      ∙ chain_filled 0 y (held b w y (taken h)) refl) in
      (ap (lay k) q ∙ sym (serve_lay b w n h s.listed k 0 (held b w y h) (omega arith) holder_waits) ∙ ap (serve chain b w (first_frees n h) k 1) first
      ∙ sym (serve_first b w n k (first_frees n h) h l))
