-- Rows that are objects are Steady, so that an export of them lasts; and on a well-formed heap only a row that is too short refuses it.
--     object_steady            rows that are objects are Steady
--     export_objects_lasts     ObjectsLast
--     only_too_short           OnlyTooShort
--     objects_true_circle      a stop after M rows means that the list has no end
-- A row's blocks are named one by the other, so that they are reachable where the first is; a walk meets the same blocks where their words
-- are the same, and on a well-formed heap it is refused nothing of a reachable object but by 3, at the object's end.
-- Assumes nothing.
use Prim.Native.Nat.{ℕ, zero, suc, ◌+◌, ◌-◌, ◌/◌, ◌%◌, ◌≤◌, ◌<◌}
use mathlib.Core.Path.{◌≡◌, refl, sym, ◌∙◌, ap, subst}
use mathlib.Core.Logic.{◌≢◌, ⊎_elim}
use mathlib.Core.Bool.{true}
use mathlib.Core.List.Memᴰ
use mathlib.Core.List.{List, ◌∷◌, Memᴰ}
use native.Mathlib.Omega.{arith}
use borrow.Author.Tests.{eq-eqb}
use Rattle.machine.specs.Tests.{◌▷◌}
use Rattle.machine.specs.Block.{byte_of, bit}
use Rattle.machine.specs.Heap.{Heap}
use Rattle.machine.specs.Chain as chain
use Rattle.machine.specs.Entry.{entry}
use Rattle.machine.specs.State.{holder_refusal}
use Rattle.machine.specs.Read.{read_answer}
use Rattle.machine.specs.Field.{field_place, next_of, field_block, link_refusal, walk_refusal, field_refusal, read_field}
use Rattle.machine.specs.WellFormed.{Names, WellFormed}
use Rattle.machine.proofs.Tests.{by_test, by_eq}
use Rattle.machine.proofs.Blocks.{block_is_block}
use Rattle.machine.proofs.Entering.{first_zero, entry_ready}
use Rattle.machine.proofs.Refusals.{passes, stops, entered}
use Rattle.machine.proofs.Reading.{word_reference, word_number}
use Rattle.machine.proofs.Fields.{field_fits, field_zero, link_number, link_null, link_on}
use Rattle.theory_objects.specs.Lengths.{Long}
use Rattle.theory_objects.proofs.Lengths.{passed}
use Rattle.theory_promises.specs.Reachable.{Reachable, is_named, SameWord}
use Rattle.theory_promises.proofs.Serving.{live_holder}
use Rattle.theory_promises.proofs.Losing.{reachable_live}
use Rattle.part_rows.specs.declared.Reason.TheVariants.{Refused}
use Rattle.part_rows.specs.Rows.{ExportGiven}
use Rattle.part_rows.specs.Lists.{Leads}
use Rattle.part_rows.proofs.Meaning.{rows_mean}
use Rattle.call_export_objects.specs.Objects.{fields_from, link_of, object_rows, row_fits}
use Rattle.call_export_objects.proofs.Walks.{row_field}
use Rattle.call_export_objects.proofs.Steps.{fits_range, link_zero, link_refused, link_passed, row_block, object_rows_lem, objects_fit}
use Rattle.theory_clause.specs.Lasting.{SameWords}
use Rattle.theory_clause.specs.Stopping.{TrueCircle}
use Rattle.theory_clause.specs.Objects.{row_blocks, objects, ObjectsLast, OnlyTooShort}
use Rattle.theory_clause.proofs.Steadiness.{Steady, along_hangs}
use Rattle.theory_clause.proofs.Lasting.{rows_last}
use Rattle.theory_clause.proofs.Stopping.{halts_refused, circles}

-- ---- a chain's blocks
module _ (h : Heap) where
  link_set : (b : ℕ) → link_refusal b h ≡ 0 → bit (byte_of h.bytes b) chain.link ≡ true
  link_set b e = by_test (bit (byte_of h.bytes b) chain.link) (λ t. t) (λ t. absurd (omega (arith, link_number h b t, e)))

  -- a link that can be followed names the next block
  link_names : (b : ℕ) → link_refusal b h ≡ 0 → Names h b (next_of h b)
  link_names b e = record { word = chain.link; low = omega arith; set = link_set b e; holds = refl }

  link_some : (b : ℕ) → link_refusal b h ≡ 0 → next_of h b ≢ 0
  link_some b e z = absurd (omega (arith, link_null h b (link_set b e) z, e))

  next_reaches : (b : ℕ) → link_refusal b h ≡ 0 → Reachable h b → Reachable h (next_of h b)
  next_reaches b e r = is_named r (link_names b e) (link_some b e)

  walk_reaches : (j b : ℕ) → walk_refusal j b h ≡ 0 → Reachable h b → (y : ℕ) → Memᴰ y (row_blocks j b h) → Reachable h y
  walk_reaches zero b e r y i = subst (Reachable h) (sym (Memᴰ.eq_of_singleton i)) r
  walk_reaches (suc j) b e r y i =
      let (a, l, w) = passed h j b e in
      ⊎_elim (λ q. subst (Reachable h) (sym q) r) (λ m. walk_reaches j (next_of h b) w (next_reaches b l r) y m) (Memᴰ.cases_cons i)

  walk_among : (j i b : ℕ) → i ≤ j → Memᴰ (field_block i b h) (row_blocks j b h)
  unfolding field_block
  walk_among zero zero b o = Memᴰ.head refl
  walk_among zero (suc i) b o = absurd (omega arith)
  walk_among (suc j) zero b o = Memᴰ.head refl
  walk_among (suc j) (suc i) b o = Memᴰ.tail (walk_among j i (next_of h b) (omega arith))

  row_walks : (b k : ℕ) → field_refusal b k h ≡ 0 → walk_refusal (k / 7) b h ≡ 0
  unfolding field_refusal
  row_walks b k e =
      let a = first_zero (entry h) (field_place h.regs.blocks b k ▷ walk_refusal (k / 7) b h) e in
      (first_zero (field_place h.regs.blocks b k) (walk_refusal (k / 7) b h) a.1).1

-- ---- on a well-formed heap
module _ (k : Heap) (f : WellFormed k) where
  reached_holder : (b : ℕ) → Reachable k b → 0 ≡ holder_refusal k b
  reached_holder b r = sym (live_holder k b (reachable_live k f b r))

  next_on : (b : ℕ) → Reachable k b → bit (byte_of k.bytes b) chain.link ≡ true → next_of k b ≢ 0 → 0 ≡ link_refusal b k
  next_on b r t z =
      let on : Reachable k (next_of k b) = is_named r (record { word = chain.link; low = omega arith; set = t; holds = refl }) z in
      link_on k b t z (block_is_block _ _ (reachable_live k f (next_of k b) on).block)

  row_passes : (b n : ℕ) → n ≤ 1792 → 1 ≤ n → Reachable k b → {x : ℕ} → x ≡ walk_refusal ((n - 1) / 7) b k → x ≡ field_refusal b (n - 1) k
  unfolding field_refusal
  row_passes b n m o r e =
      passes (entered k f.fitting f.registers) refl
      (passes (field_fits k.regs.blocks b (n - 1) (block_is_block _ _ (reachable_live k f b r).block) (omega arith)) refl e)

-- ---- another heap on which the words of a chain are the same
record SameWalk (h k : Heap) (j b : ℕ) : Type 0 where
  walks : 0 ≡ walk_refusal j b k
  same : row_blocks j b k ≡ row_blocks j b h
  block : (i : ℕ) → i ≤ j → field_block i b k ≡ field_block i b h

module _ (h k : Heap) (f : WellFormed k) where
  walk_same : (j b : ℕ) → walk_refusal j b h ≡ 0 → Reachable k b → SameWords h k (row_blocks j b h) → SameWalk h k j b
  unfolding walk_refusal field_block
  walk_same zero b e r s = record { walks = reached_holder k f b r; same = refl; block = λ i o. let z : i ≡ 0 = omega arith in rw z refl }
  walk_same (suc j) b e r s =
      let (a, l, w) = passed h j b e in
      let q = s b chain.link (Memᴰ.head refl) (omega arith) in
      let n : next_of k b ≡ next_of h b = q.word in
      let t : bit (byte_of k.bytes b) chain.link ≡ true = q.bit ∙ link_set h b l in
      let z : next_of k b ≢ 0 = λ y. link_some h b l (sym n ∙ y) in
      let on = next_on k f b r t z in
      let rest = walk_same j (next_of h b) w (subst (Reachable k) n (next_reaches k b (sym on) r)) (λ y v i. s y v (Memᴰ.tail i)) in
      record {
        walks = passes (reached_holder k f b r) refl (passes on refl (rw n rest.walks));
        same = rw n (ap (λ (x : List ℕ). b ∷ x) rest.same);
        block = blocks n rest.block;
      }
    where
      blocks : next_of k b ≡ next_of h b → ((i : ℕ) → i ≤ j → field_block i (next_of h b) k ≡ field_block i (next_of h b) h) → (i : ℕ) → i ≤ suc j → field_block i b k ≡ field_block i b h
      blocks n g zero o = refl
      blocks n g (suc i) o = rw n (g i (omega arith))

  module _ (n link b : ℕ) (d : row_fits n link ≡ true) (z : field_refusal b (n - 1) h ≡ 0) (r : Reachable k b) (s : SameWords h k (row_blocks ((n - 1) / 7) b h)) where
    walk : SameWalk h k ((n - 1) / 7) b
    walk = walk_same ((n - 1) / 7) b (row_walks h b (n - 1) z) r s

    still : field_refusal b (n - 1) k ≡ 0
    still = let g = fits_range n link d in sym (row_passes k f b n g.most g.some r walk.walks)

    -- a word of the row
    word_same : (i w : ℕ) → i ≤ (n - 1) / 7 → w ≤ 7 → SameWord h k (field_block i b h) w
    word_same i w o l = s (field_block i b h) w (walk_among h ((n - 1) / 7) i b o) l

    value_same : (i : ℕ) → i < n → (read_field b i k).answer.value ≡ (read_field b i h).answer.value
    unfolding read_field read_answer
    value_same i o =
        let g = fits_range n link d in
        let p = row_field k b n i o g.most still in
        let q = row_field h b n i o g.most z in
        let l : i / 7 ≤ (n - 1) / 7 = omega arith in
        simp (eq-eqb (field_refusal b i k) 0 p, eq-eqb (field_refusal b i h) 0 q) (rw (walk.block (i / 7) l) (word_same (i / 7) (i % 7) l (omega arith)).word)

    fields_same : (m i : ℕ) → i + m ≤ n → fields_from m i b k ≡ fields_from m i b h
    unfolding fields_from
    fields_same zero i o = refl
    fields_same (suc m) i o = rw (value_same i (omega arith), fields_same m (i + 1) (omega arith)) refl

    leads_same : {x : ℕ} → Leads (object_rows n link h) b x → Leads (object_rows n link k) b x
    unfolding read_answer
    leads_same l =
        let g = fits_range n link d in
        let o : link / 7 ≤ (n - 1) / 7 = (let a = g.among in omega arith) in
        let p = link_passed h b n link d z in
        let q = link_passed k b n link d still in
        let w = word_same (link / 7) (link % 7) o (omega arith) in
        let c = walk.block (link / 7) o in
        let e : link_of n link b k ≡ link_of n link b h = q ∙ (rw (c, p, w.word, w.bit) refl) in
        record { readable = rw e l.readable; reference = rw e l.reference; value = rw e l.value }

-- ---- rows that are objects
module _ (n link : ℕ) (d : row_fits n link ≡ true) where
  leads_row : (h : Heap) {b x : ℕ} → Leads (object_rows n link h) b x → field_refusal b (n - 1) h ≡ 0
  leads_row h {b} l = link_zero h b n link d l.readable

  leads_names : (h : Heap) {b x : ℕ} → Leads (object_rows n link h) b x → Names h (field_block (link / 7) b h) x
  unfolding read_answer
  leads_names h {b} {x} l =
      let at = field_block (link / 7) b h in
      let w = link % 7 in
      let p : link_of n link b h ≡ read_answer at w h = link_passed h b n link d (leads_row h l) in
      record {
        word = w;
        low = omega arith;
        set =
            by_test (bit (byte_of h.bytes at) w) (λ t. t)
            (λ t. let e = rw p at l.reference in absurd (omega (arith, simp t at e)));
        holds = rw p at l.value;
      }

  pub object_steady : Steady (objects n link)
  object_steady =
      let g = fits_range n link d in
      record {
        sound = λ h. object_rows_lem h n link d;
        width = λ h k. refl;
        most = λ h. refl;
        block = λ h {b} l. row_block h b n link d (leads_row h l);
        reaches = λ {h} {b} l r y i. walk_reaches h ((n - 1) / 7) b (row_walks h b (n - 1) (leads_row h l)) r y i;
        onward = λ {h} {b} l r z.
            let a = g.among in
            let o : link / 7 ≤ (n - 1) / 7 = omega arith in
            is_named (walk_reaches h ((n - 1) / 7) b (row_walks h b (n - 1) (leads_row h l)) r (field_block (link / 7) b h) (walk_among h ((n - 1) / 7) (link / 7) b o)) (leads_names h l) z;
        stays = λ {h} {k} {b} {x} f l r s.
            let z = leads_row h l in
            record {
              leads = leads_same h k f n link b d z r s l;
              row = fields_same h k f n link b d z r s n 0 (omega arith);
              blocks = (walk h k f n link b d z r s).same;
            };
      }

pub export_objects_lasts : ObjectsLast
export_objects_lasts =
    record {
      lasts = λ n link d. rows_last (object_steady n link d);
      exported = λ n link d h f s bs a cs p out.
          objects_fit _ s n link out d ∙ ((rows_last (object_steady n link d)).same h f s bs a cs p).exported out ∙ sym (objects_fit h s n link out d);
    }

pub objects_true_circle : (n link : ℕ) → row_fits n link ≡ true → TrueCircle (objects n link)
objects_true_circle n link d = circles (object_steady n link d)

-- ---- what a refusal means on a well-formed heap
-- a walk that is refused: by 3, where the object ends
record Ends (h : Heap) (j b e : ℕ) : Type 0 where
  number : e ≡ 3
  links : ℕ
  few : links < j
  walks : 0 ≡ walk_refusal links b h
  last : link_refusal (field_block links b h) h ≡ 3

module _ (h : Heap) (f : WellFormed h) where
  walk_ends : (j b : ℕ) → Reachable h b → (e : ℕ) → e ≡ walk_refusal j b h → e ≢ 0 → Ends h j b e
  unfolding walk_refusal field_block
  walk_ends zero b r e p z = absurd (z (p ∙ sym (reached_holder h f b r)))
  walk_ends (suc j) b r e p z =
      let a = reached_holder h f b r in
      by_test (bit (byte_of h.bytes b) chain.link)
      (λ t. by_eq (next_of h b) 0
      (λ y. here a (link_null h b t y))
      (λ y. let on = next_on h f b r t y in longer a on (walk_ends j (next_of h b) (next_reaches h b (sym on) r) e (p ∙ sym (passes a refl (passes on refl refl))) z)))
      (λ t. here a (link_number h b t))
    where
      here : 0 ≡ holder_refusal h b → 3 ≡ link_refusal b h → Ends h (suc j) b e
      here a l =
          record { number = p ∙ sym (passes a refl (stops _ l (λ y. absurd (omega arith)))); links = 0; few = omega arith; walks = a; last = sym l }

      longer : 0 ≡ holder_refusal h b → 0 ≡ link_refusal b h → Ends h j (next_of h b) e → Ends h (suc j) b e
      longer a l v =
          record { number = v.number; links = suc v.links; few = (let o = v.few in omega arith); walks = passes a refl (passes l refl v.walks); last = v.last }

module _ (h : Heap) (b n link : ℕ) (d : row_fits n link ≡ true) where
  -- the refusal that reading a row gives
  link_refusal_lem : (link_of n link b h).refusal ≡ field_refusal b (n - 1) h
  unfolding read_answer
  link_refusal_lem = by_eq (field_refusal b (n - 1) h) 0 (λ z. rw (link_passed h b n link d z) (sym z)) (λ z. rw (link_refused h b n link d z) refl)

pub only_too_short : OnlyTooShort
only_too_short h f s n link d g out m e q =
    let c = fits_range n link d in
    let given = sym (ap (λ (x : ExportGiven). x.answer) (objects_fit h s n link out d)) ∙ q in
    let t = ((rows_mean (object_rows_lem h n link d) s out).stops m (Refused e)).0 given in
    let r = along_hangs (object_steady n link d) t.along g t.more in
    let v = halts_refused t.why in
    let k : e ≡ field_refusal t.at (n - 1) h = sym v.1 ∙ link_refusal_lem h t.at n link d in
    let j = (n - 1) / 7 in
    let p : walk_refusal j t.at h ≡ field_refusal t.at (n - 1) h = row_passes h f t.at n c.most c.some r refl in
    let w = walk_ends h f j t.at r (walk_refusal j t.at h) refl (λ y. v.0 (k ∙ sym p ∙ y)) in
    let few = w.few in
    let last : w.links + 1 - 1 ≡ w.links = omega arith in (
      k ∙ sym p ∙ w.number,
      record {
        object = t.at;
        blocks = w.links + 1;
        reached = r;
        long = record {
          ready = entry_ready h (sym (entered h f.fitting f.registers));
          block = (reachable_live h f t.at r).block;
          some = omega arith;
          most = (let b = c.most in omega arith);
          walks = rw last (sym w.walks);
          ends = rw last w.last;
        };
        few = omega arith;
      },
    )
