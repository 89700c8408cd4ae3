-- A new chain reads 0 in each of its fields, is linked block by block, and ends with null.
--     Cell                     what a word of a block holds, and whether that is a reference
--     Strung                   the first i blocks of xs are a chain whose fields are blank
--     strung_next              so they are with the next block taken
--     walks, walks_off         the walk to a field of the chain, and off its end
--     fresh_chains             the promise
-- Of the blocks taken before, taking one more changes the last link alone: it was null, and becomes a reference to the new block.
-- Assumes nothing.
use Prim.Native.Nat.{ℕ, zero, suc, ◌+◌, ◌-◌, ◌*◌, ◌/◌, ◌%◌, ◌≤◌, ◌<◌}
use mathlib.Core.Path.{◌≡◌, refl, sym, ◌∙◌, ap, subst}
use mathlib.Core.Logic.{◌≢◌, inl, inr}
use mathlib.Core.Bool.{Bool, true, false, ◌&&◌}
use mathlib.Core.List.{List}
use native.Mathlib.Nat.{zero-div, div-add-mod, mod-lt}
use native.Mathlib.Omega.{arith}
use lib.Dec.{leb}
use lib.ListN.{get_or, replicate}
use borrow.Author.Tests.{eq-eqb, ne_eqb, le-leb, lt-leb, leb-true}
use Rattle.machine.specs.declared.Colour.TheVariants.{Free}
use Rattle.std.specs.Prelude.{if◌then◌else◌}
use Rattle.machine.specs.Tests.{◌▷◌}
use Rattle.machine.specs.Block.{word_of, byte_of, bit, with_bit}
use Rattle.machine.specs.Heap.{Heap, colour_of}
use Rattle.machine.specs.Entry.{entry, holder_place}
use Rattle.machine.specs.Answers.{Given, answering, unless}
use Rattle.machine.specs.Units.{stopped, run}
use Rattle.machine.specs.Read.{read_answer, read_refused, read}
use Rattle.machine.specs.Store.{put_reference}
use Rattle.machine.specs.Allocate.{units_due, taken, held}
use Rattle.machine.specs.Several.{first_frees, nulled, zeroed, holder_of, by_word, serve, take_several_refusal, several_taken}
use Rattle.machine.specs.Chain.{link, chain, chain_length, allocate_chain}
use Rattle.machine.specs.Field.{field_place, next_of, field_block, link_refusal, walk_refusal, field_refusal, read_field}
use Rattle.machine.specs.WellFormed.{Coloured, Live, WellFormed}
use Rattle.machine.proofs.Tests.{by_eq, both_true}
use Rattle.machine.proofs.Blocks.{block_is_block}
use Rattle.machine.proofs.Entering.{first_zero, choose_zero}
use Rattle.machine.proofs.Refusals.{stops, passes, entered}
use Rattle.machine.proofs.Bytes.{set_here, set_there}
use Rattle.machine.proofs.Allocating.{holder_zero}
use Rattle.theory_reach.proofs.Splits.{by_le}
use Rattle.theory_moves.specs.Moves.{Taken}
use Rattle.theory_moves.proofs.Acting.{acts_cells}
use Rattle.theory_promises.specs.View.{view}
use Rattle.theory_promises.specs.Reachable.{SameWord}
use Rattle.theory_promises.specs.Deeds.{a_take, acted, Allows, a_unit, an_act, deed, after}
use Rattle.theory_promises.specs.Objects.{reads, FreshChain, FreshChains}
use Rattle.theory_promises.proofs.Viewing.{wf_shape, live_view}
use Rattle.theory_promises.proofs.Reaching.{same_word}
use Rattle.theory_promises.proofs.Buffers.{byte_set, byte_kept, word_set, word_kept}
use Rattle.theory_promises.proofs.StoringMoves.{live_taken}
use Rattle.theory_promises.proofs.TakingMoves.{take_root_lem, take_held_lem, first_free, head_count}
use Rattle.theory_promises.proofs.DeedMoves.{act_run, deed_formed}
use Rattle.theory_promises.proofs.RunMoves.{run_is, units_worked}
use Rattle.theory_promises.proofs.FirstFrees.{several}
use Rattle.theory_promises.proofs.Serving.{take_new, act_live, live_holder, number_allowed, chain_orderly, Stage, one_served, stage_first, stage_block, stage_allows, stage_next}

pub record Cell (h : Heap) (y u v : ℕ) (t : Bool) : Type 0 where
  pub word : word_of h.words y u ≡ v
  pub bit : bit (byte_of h.bytes y) u ≡ t

cell_kept : {h k : Heap} {y u v : ℕ} {t : Bool} → SameWord h k y u → Cell h y u v t → Cell k y u v t
cell_kept s c = record { word = s.word ∙ c.word; bit = s.bit ∙ c.bit }

no_bit : (u : ℕ) → bit 0 u ≡ false
unfolding bit
no_bit u = simp zero-div

pub record Strung (xs : List ℕ) (i : ℕ) (k : Heap) : Type 0 where
  pub blank : (j : ℕ) → j < i → (u : ℕ) → u ≤ 6 → Cell k (get_or xs j 0) u 0 false
  pub linked : (j : ℕ) → j + 1 < i → Cell k (get_or xs j 0) link (get_or xs (j + 1) 0) true
  pub ended : (j : ℕ) → j + 1 ≡ i → Cell k (get_or xs j 0) link 0 true

module _ (b w : ℕ) (xs : List ℕ) (n i : ℕ) (k : Heap) (s : Stage b w xs (suc n) i k) where
  abbrev x : ℕ
  x = k.regs.free

  abbrev c : ℕ
  c = holder_of chain b xs i

  abbrev v : ℕ
  v = by_word chain w i

  -- with the block taken, and with its link filled in
  abbrev k1 : Heap
  k1 = held c v x (taken k)

  abbrev k2 : Heap
  k2 = put_reference x link 0 k1

  allows : Allows (a_take c v) k
  allows = stage_allows chain chain_orderly b w xs n i k s

  some : x ≢ 0
  some z = absurd (omega (arith, head_count k (wf_shape k s.formed) z, s.enough))

  free : Coloured k Free x
  free = first_free k (wf_shape k s.formed) some

  formed1 : WellFormed k1
  unfolding deed acted
  formed1 = deed_formed k s.formed (an_act (a_take c v)) allows

  new1 : Live k1 x
  unfolding acted
  new1 = take_new k s.formed c v allows

  live1 : (y : ℕ) → Live k y → Live k1 y
  unfolding acted
  live1 y q = act_live k s.formed (a_take c v) allows y q

  apart : (y : ℕ) → Live k y → y ≢ x
  apart y q e = live_taken q (ap (λ (z : ℕ). colour_of k z) e ∙ free.colour)

  -- what the taking leaves
  kept1 : (y u : ℕ) → Live k y → u ≤ 7 → ((y ≡ c) × (u ≡ v) → ⊥) → SameWord k k1 y u
  unfolding acted
  kept1 y u q l o =
      let r = act_run k (wf_shape k s.formed) (a_take c v) allows in
      same_word l (acts_cells r.run r.still (live_view k q) u (λ e. o (r.writes y u (live_view k q) e)))

  -- what the filling in leaves of other blocks
  kept2 : (y u : ℕ) → Live k1 y → y ≢ x → u ≤ 7 → SameWord k1 k2 y u
  unfolding put_reference
  kept2 y u q o l =
      record {
        word = word_kept new1.block k1.words link 0 y u (omega arith) l q.block (inl o);
        bit = ap (λ (z : ℕ). bit z u) (byte_kept new1.block k1.bytes (with_bit (byte_of k1.bytes x) link) y q.block o);
      }

  -- and of the block itself
  kept_here : (u : ℕ) → u ≤ 6 → SameWord k1 k2 x u
  unfolding put_reference
  kept_here u l =
      record {
        word = word_kept new1.block k1.words link 0 x u (omega arith) (omega arith) new1.block (inr (omega arith));
        bit = ap (λ (z : ℕ). bit z u) (byte_set new1.block k1.bytes (with_bit (byte_of k1.bytes x) link) (wf_shape k1 formed1).ready.bytes)
            ∙ set_there (byte_of k1.bytes x) link u (omega arith);
      }

  null : Cell k2 x link 0 true
  unfolding put_reference
  null =
      let d = (wf_shape k1 formed1).ready in
      record {
        word = word_set new1.block k1.words link 0 d.words (omega arith);
        bit = ap (λ (z : ℕ). bit z link) (byte_set new1.block k1.bytes (with_bit (byte_of k1.bytes x) link) d.bytes) ∙ set_here (byte_of k1.bytes x) link;
      }

  was_taken : Taken k.regs.blocks x (view k) (view k1)
  was_taken =
      let p = wf_shape k s.formed in
      let l = holder_zero c v refl allows.0 in
      by_eq c 0 (λ z. (take_root_lem k p c v allows.1 z).taken) (λ z. (take_held_lem k p c v allows.1 z (l z).0 (l z).1).taken)

  clear : (u : ℕ) → bit (byte_of k.bytes x) u ≡ false
  clear u = ap (λ (z : ℕ). bit z u) (s.formed.laid x free).byte ∙ no_bit u

  blank1 : (u : ℕ) → u ≤ 6 → Cell k1 x u 0 false
  blank1 u l =
      by_eq u 0
      (λ z. subst (λ (y : ℕ). Cell k1 x y 0 false) (sym z) (record { word = was_taken.emptied; bit = was_taken.bits 0 ∙ clear 0 }))
      (λ z.
      cell_kept (same_word {h = k} {k = k1} (omega arith) (record { word = was_taken.words u z; bit = was_taken.bits u }))
      (record { word = (s.formed.laid x free).words u (omega arith) (omega arith); bit = clear u }))

  -- the link of the block before
  joined : (j : ℕ) → j + 1 ≡ i → Cell k1 (get_or xs j 0) link x true
  joined j e =
      let z : i ≢ 0 = λ q. absurd (omega arith) in
      let y = get_or xs j 0 in
      let at : c ≡ y = simp (ne_eqb i 0 z) (ap (λ (q : ℕ). get_or xs q 0) (omega arith)) in
      let by : v ≡ link = simp (ne_eqb i 0 z) in
      let q = s.early j (omega arith) in
      let o : c ≢ 0 = λ d. absurd (omega (arith, at, q.block.low)) in
      let l = holder_zero c v refl allows.0 o in
      let t = (take_held_lem k (wf_shape k s.formed) c v allows.1 o l.0 l.1).holds in
      let cell : Cell k1 c v x true = record { word = simp (le-leb v 7 l.1) at t.word; bit = simp (le-leb v 7 l.1) at t.bit } in
      subst (λ (d : ℕ). Cell k1 y d x true) by (subst (λ (d : ℕ). Cell k1 d v x true) at cell)

  -- the blocks taken before
  later_kept : (j u : ℕ) {a : ℕ} {t : Bool} → j < i → u ≤ 7 → ((get_or xs j 0 ≡ c) × (u ≡ v) → ⊥) → Cell k (get_or xs j 0) u a t → Cell k2 (get_or xs j 0) u a t
  later_kept j u l m o d =
      let q = s.early j l in
      cell_kept (kept2 _ u (live1 _ q) (apart _ q) m) (cell_kept (kept1 _ u q m o) d)

  here : (j : ℕ) → j ≡ i → get_or xs j 0 ≡ x
  here j e = ap (λ (q : ℕ). get_or xs q 0) e ∙ stage_block b w xs n i k s

  -- their fields are no links
  no_link : (u : ℕ) → i ≢ 0 → u ≤ 6 → u ≢ v
  no_link u z l e = let by : v ≡ link = simp (ne_eqb i 0 z) in absurd (omega arith)

  pub strung_next : Strung xs i k → Strung xs (i + 1) (one_served chain b w xs i k)
  unfolding nulled zeroed
  strung_next t =
      record {
        blank = λ j l u m. by_eq j i
            (λ e. subst (λ (y : ℕ). Cell k2 y u 0 false) (sym (here j e)) (cell_kept (kept_here u m) (blank1 u m)))
            (λ e. later_kept j u (omega arith) (omega arith) (λ p. no_link u (λ z. absurd (omega arith)) m p.1) (t.blank j (omega arith) u m));
        linked = λ j l. by_eq (j + 1) i
            (λ e.
            let q = s.early j (omega arith) in
            subst (λ (y : ℕ). Cell k2 (get_or xs j 0) link y true) (sym (here (j + 1) e)) (cell_kept (kept2 _ link (live1 _ q) (apart _ q) (omega arith)) (joined j e)))
            (λ e. later_kept j link (omega arith) (omega arith) (λ p. other j (omega arith) t p.0) (t.linked j (omega arith)));
        ended = λ j l. subst (λ (y : ℕ). Cell k2 y link 0 true) (sym (here j (omega arith))) null;
      }
    where
      -- a block with a link isn't the last, whose link is null
      other : (j : ℕ) → j + 1 < i → Strung xs i k → get_or xs j 0 ≡ c → ⊥
      other j l t e =
          let z : i ≢ 0 = λ q. absurd (omega arith) in
          let at : get_or xs j 0 ≡ get_or xs (i - 1) 0 = e ∙ simp (ne_eqb i 0 z) in
          let p = (t.linked j l).word in
          let q = (t.ended (i - 1) (omega arith)).word in
          let y : get_or xs (j + 1) 0 ≡ 0 = sym p ∙ ap (λ (d : ℕ). word_of k.words d link) at ∙ q in
          absurd (omega (arith, (s.early (j + 1) l).block.low))

-- all of them
pub record AllStrung (b w : ℕ) (xs : List ℕ) (i : ℕ) (k : Heap) : Type 0 where
  pub stage : Stage b w xs 0 i k
  pub strung : Strung xs i k

strung_all : (b w : ℕ) (xs : List ℕ) (n i : ℕ) (k : Heap) → Stage b w xs n i k → Strung xs i k → AllStrung b w xs (i + n) (serve chain b w xs n i k)
unfolding serve
strung_all b w xs zero i k s t =
    let e : i ≡ i + 0 = omega arith in
    subst (λ (q : ℕ). AllStrung b w xs q k) e (record { stage = s; strung = t })
strung_all b w xs (suc n) i k s t =
    let e : i + 1 + n ≡ i + suc n = omega arith in
    subst (λ (q : ℕ). AllStrung b w xs q (serve chain b w xs n (i + 1) (one_served chain b w xs i k))) e
    (strung_all b w xs n (i + 1) (one_served chain b w xs i k) (stage_next chain chain_orderly b w xs n i k s) (strung_next b w xs n i k s t))

-- what is read
answer_cell : {h : Heap} {y u v : ℕ} {t : Bool} → Cell h y u v t → read_answer y u h ≡ reads v (if t then 1 else 0)
unfolding read_answer
answer_cell c = rw (c.word, c.bit) refl

read_cell : (h : Heap) → WellFormed h → {y u v : ℕ} {t : Bool} → Live h y → u ≤ 7 → Cell h y u v t → (read y u h).answer ≡ reads v (if t then 1 else 0)
unfolding read
read_cell h g {y} {u} q l c = simp (number_allowed h g y u q l 0) (answer_cell c)

module _ (xs : List ℕ) (n : ℕ) (h : Heap) (g : WellFormed h) (t : Strung xs n h) (lives : (j : ℕ) → j < n → Live h (get_or xs j 0)) where
  next_is : (j : ℕ) → j + 1 < n → next_of h (get_or xs j 0) ≡ get_or xs (j + 1) 0
  next_is j l = (t.linked j l).word

  link_on : (j : ℕ) → j + 1 < n → link_refusal (get_or xs j 0) h ≡ 0
  unfolding link_refusal
  link_on j l =
      let q = lives (j + 1) l in
      let z : get_or xs (j + 1) 0 ≢ 0 = λ e. absurd (omega (arith, q.block.low)) in
      rw (next_is j l) (simp ((t.linked j l).bit, ne_eqb (get_or xs (j + 1) 0) 0 z, block_is_block h.regs.blocks (get_or xs (j + 1) 0) q.block))

  link_off : (j : ℕ) → j + 1 ≡ n → link_refusal (get_or xs j 0) h ≡ 3
  unfolding link_refusal
  link_off j e = rw (t.ended j e).word (simp (t.ended j e).bit)

  pub walks : (d j : ℕ) → j + d < n → (field_block d (get_or xs j 0) h ≡ get_or xs (j + d) 0) × (walk_refusal d (get_or xs j 0) h ≡ 0)
  unfolding field_block walk_refusal
  walks zero j l = (ap (λ (q : ℕ). get_or xs q 0) (omega arith), live_holder h _ (lives j (omega arith)))
  walks (suc d) j l =
      let e = next_is j (omega arith) in
      let r = walks d (j + 1) (omega arith) in
      let i : j + 1 + d ≡ j + suc d = omega arith in (
        rw e (r.0 ∙ ap (λ (q : ℕ). get_or xs q 0) i),
        sym (passes (sym (live_holder h _ (lives j (omega arith)))) refl (passes (sym (link_on j (omega arith))) refl (rw e (sym r.1)))),
      )

  pub walks_off : (d j : ℕ) → j < n → n ≤ j + d → walk_refusal d (get_or xs j 0) h ≡ 3
  unfolding walk_refusal
  walks_off zero j l m = absurd (omega arith)
  walks_off (suc d) j l m =
      let live = sym (live_holder h _ (lives j l)) in
      by_eq (j + 1) n
      (λ e. sym (passes live refl (stops _ (sym (link_off j e)) (omega arith))))
      (λ e. sym (passes live refl (passes (sym (link_on j (omega arith))) refl (rw (next_is j (omega arith)) (sym (walks_off d (j + 1) (omega arith) (omega arith)))))))

  module _ (some : 1 ≤ n) (most : n ≤ 256) where
    abbrev first : ℕ
    first = get_or xs 0 0

    opens : 0 ≡ entry h
    opens = entered h g.fitting g.registers

    place_on : (k : ℕ) → k ≤ 1791 → 0 ≡ field_place h.regs.blocks first k
    unfolding field_place
    place_on k l = simp (block_is_block h.regs.blocks first (lives 0 (omega arith)).block, le-leb k 1791 l)

    place_off : (k : ℕ) → 1791 < k → 3 ≡ field_place h.regs.blocks first k
    unfolding field_place
    place_off k l = simp (block_is_block h.regs.blocks first (lives 0 (omega arith)).block, lt-leb k 1791 l)

    field_blank : (k : ℕ) → k < 7 * n → (read_field first k h).answer ≡ reads 0 0
    unfolding read_field field_refusal
    field_blank k l =
        let d = div-add-mod k 7 in
        let m = mod-lt k {m = 7} (omega arith) in
        let r = walks (k / 7) 0 (omega arith) in
        let e : field_block (k / 7) first h ≡ get_or xs (k / 7) 0 = r.0 ∙ ap (λ (q : ℕ). get_or xs q 0) (omega arith) in
        let z : field_refusal first k h ≡ 0 = sym (passes opens refl (passes (place_on k (omega arith)) refl (sym r.1))) in
        simp (z, e) (answer_cell (t.blank (k / 7) (omega arith) (k % 7) (omega arith)))

    field_past : (k : ℕ) → 7 * n ≤ k → (read_field first k h).answer ≡ read_refused 3
    unfolding read_field field_refusal
    field_past k l =
        let d = div-add-mod k 7 in
        let m = mod-lt k {m = 7} (omega arith) in
        let z : field_refusal first k h ≡ 3 = by_le k 1791
        (λ i. sym (passes opens refl (passes (place_on k i) refl (sym (walks_off (k / 7) 0 (omega arith) (omega arith))))))
        (λ i. sym (passes opens refl (stops _ (place_off k i) (omega arith)))) in
        simp z

    pub fresh_chain : FreshChain n first h
    fresh_chain =
        record {
          fields = field_blank;
          past = field_past;
          links = λ j l. rw (block_at j (omega arith), block_at (j + 1) l) (read_cell h g (lives j (omega arith)) (omega arith) (t.linked j l));
          ends = λ j e. rw (block_at j (omega arith)) (read_cell h g (lives j (omega arith)) (omega arith) (t.ended j e));
        }
      where
        block_at : (j : ℕ) → j < n → field_block j first h ≡ get_or xs j 0
        block_at j l = (walks j 0 (omega arith)).0 ∙ ap (λ (q : ℕ). get_or xs q 0) (omega arith)

-- a call that isn't refused
unless_zero : (r : ℕ) (h : Heap) (g : Given) → (unless r h g).answer.refusal ≡ 0 → (r ≡ 0) × (unless r h g ≡ g)
unfolding unless
unless_zero r h g e = by_eq r 0 (λ z. (z, simp (eq-eqb r 0 z))) (λ z. absurd (z (simp (ne_eqb r 0 z) at e)))

taken_zero : (b w n d : ℕ) (k : Heap) → (several_taken chain n b w (stopped 0 d k)).answer.refusal ≡ 0
    → (take_several_refusal n b k ≡ 0) × (several_taken chain n b w (stopped 0 d k) ≡ answering 0 k.regs.free d (serve chain b w (first_frees n k) n 0 k))
unfolding several_taken ◌▷◌
taken_zero b w n d k e =
    by_eq (take_several_refusal n b k) 0
    (λ z. (z, simp (eq-eqb (take_several_refusal n b k) 0 z)))
    (λ z. absurd (z (simp (ne_eqb (take_several_refusal n b k) 0 z) at e)))

length_zero : (n : ℕ) → chain_length n ≡ 0 → (1 ≤ n) × (n ≤ 256)
unfolding chain_length
length_zero n e =
    let a = both_true (leb 1 n) (leb n 256) (choose_zero (leb 1 n && leb n 256) 3 (omega arith) e) in
    (leb-true 1 n a.0, leb-true n 256 a.1)

first_block : (b w : ℕ) (xs : List ℕ) (n : ℕ) (k : Heap) → 1 ≤ n → Stage b w xs n 0 k → get_or xs 0 0 ≡ k.regs.free
first_block b w xs zero k l s = absurd (omega arith)
first_block b w xs (suc n) k l s = stage_block b w xs n 0 k s

none_strung : (xs : List ℕ) (k : Heap) → Strung xs 0 k
none_strung xs k = record { blank = λ j l. absurd (omega arith); linked = λ j l. absurd (omega arith); ended = λ j l. absurd (omega arith) }

pub fresh_chains : FreshChains
unfolding allocate_chain
fresh_chains h f b w n e =
    let dues = n * units_due h.regs in
    let k = after (replicate dues a_unit) h in
    let u = units_worked h.regs.blocks dues h refl f in
    let tests = entry h ▷ holder_place h.regs.blocks b w ▷ chain_length n in
    let p = unless_zero tests h (several_taken chain n b w (run dues 0 h)) e in
    let q = (first_zero (entry h) (holder_place h.regs.blocks b w ▷ chain_length n) p.0).1 in
    let r = first_zero (holder_place h.regs.blocks b w) (chain_length n) q in
    let long = length_zero n r.1 in
    let place : holder_place k.regs.blocks b w ≡ 0 = subst (λ (m : ℕ). holder_place m b w ≡ 0) (sym u.blocks) r.0 in
    let ran : unless tests h (several_taken chain n b w (run dues 0 h)) ≡ several_taken chain n b w (stopped 0 dues k) =
    p.1 ∙ ap (several_taken chain n b w) (run_is dues h f) in
    let t = taken_zero b w n dues k (sym (ap (λ (g : Given). g.answer.refusal) ran) ∙ e) in
    let d = several k (wf_shape k u.formed) n b (λ z. (holder_zero b w refl place z).0) in
    let xs = first_frees n k in
    let s = stage_first b w n k u.formed (d.enough t.0) place (d.holder t.0) in
    let i : 0 + n ≡ n = omega arith in
    let a = subst (λ (i : ℕ). AllStrung b w xs i (serve chain b w xs n 0 k)) i (strung_all b w xs n 0 k s (none_strung xs k)) in
    subst (λ (g : Given). FreshChain n g.answer.value g.heap) (sym (ran ∙ t.1))
    (subst (λ (x : ℕ). FreshChain n x (serve chain b w xs n 0 k)) (first_block b w xs n k long.0 s)
    (fresh_chain xs n (serve chain b w xs n 0 k) a.stage.formed a.strung a.stage.early long.0 long.1))
