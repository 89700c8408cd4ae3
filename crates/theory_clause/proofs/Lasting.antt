-- What is exported lasts: the call's part is `nothing_lost`, and a session is its calls.
--     along_lasts              a list whose rows' words are the same and whose start still hangs is the same list
--     from_same                and an export of it is the same, from any row on
--     rows_last                the promise, for every kind of rows that is Steady
--     export_lasts             the promise, for rows that are a block each
-- Assumes nothing.
use Prim.Native.Nat.{ℕ, zero, suc, ◌+◌, ◌*◌, ◌≤◌}
use mathlib.Core.Path.{◌≡◌, refl, sym, ◌∙◌, subst}
use mathlib.Core.Logic.{◌≢◌}
use mathlib.Core.List.Memᴰ
use mathlib.Core.List.{List, [], ◌∷◌, Memᴰ}
use Rattle.machine.specs.Heap.{Heap}
use Rattle.machine.specs.WellFormed.{Names, WellFormed}
use Rattle.machine.specs.Session.{Call, does, session}
use Rattle.theory_promises.specs.Reachable.{is_root, is_named}
use Rattle.theory_promises.specs.Plans.{Resets}
use Rattle.theory_promises.specs.Demand2.{TouchesCall, Untouched}
use Rattle.theory_promises.proofs.Courses.{call_formed}
use Rattle.theory_promises.proofs.Losing.{word_join, nothing_lost}
use Rattle.theory_promises.proofs.Chaining.{stays_no_reset, call_root}
use Rattle.theory_promises.proofs.Rooming.{call_keeps}
use Rattle.part_rows.specs.Rows.{with_row, onward, export_from, export_rows}
use Rattle.part_rows.specs.Lists.{Leads, Along, here, past, Listed}
use Rattle.part_rows.proofs.Walks.{leads_lead}
use Rattle.part_rows.proofs.Meaning.{given_complete}
use Rattle.theory_clause.specs.Lasting.{Kind, one_block, blocks_of, Hangs, Spared, SameWords, SameList, Leaves, ExportLasts}
use Rattle.theory_clause.proofs.Steadiness.{Stays, Steady, along_reaches}
use Rattle.theory_clause.proofs.Following.{one_steady}

module _ {kind : Kind} (d : Steady kind) {h k : Heap} (f : WellFormed k) where
  module _ (bs : List ℕ) {b x : ℕ} (l : Leads (kind.shape h) b x) (g : Hangs k b) (s : SameWords h k (blocks_of kind h (b ∷ bs))) where
    stays : Stays kind h k b x
    stays = d.stays f l (g ((d.sound h).some b l.readable)) (λ y v i. s y v (Memᴰ.append_left (blocks_of kind h bs) i))

    onto : Hangs k x
    onto = d.onward stays.leads (g ((d.sound h).some b l.readable))

    rest : SameWords h k (blocks_of kind h bs)
    rest y v i = s y v (Memᴰ.append_right (kind.blocks h b) i)

  pub along_lasts : {b c : ℕ} {bs : List ℕ} → Along (kind.shape h) b bs c → Hangs k b → SameWords h k (blocks_of kind h bs) → Along (kind.shape k) b bs c
  along_lasts (here e) g s = here e
  along_lasts (past {bs = bs} l a) g s = past (stays bs l g s).leads (along_lasts a (onto bs l g s) (rest bs l g s))

  blocks_same : {b c : ℕ} {bs : List ℕ} → Along (kind.shape h) b bs c → Hangs k b → SameWords h k (blocks_of kind h bs) → blocks_of kind k bs ≡ blocks_of kind h bs
  blocks_same (here e) g s = refl
  blocks_same (past {bs = bs} l a) g s = rw ((stays bs l g s).blocks, blocks_same a (onto bs l g s) (rest bs l g s)) refl

  pub from_same : {b : ℕ} {bs : List ℕ} → Listed (kind.shape h) b bs → Hangs k b → SameWords h k (blocks_of kind h bs)
      → (m n : ℕ) (out : List ℕ) → export_from (kind.shape k) m n b out ≡ export_from (kind.shape h) m n b out
  unfolding export_from onward
  from_same a g s zero n out = refl
  from_same (here e) g s (suc m) n out = rw e refl
  from_same (past {b} {bs = bs} l a) g s (suc m) n out =
      let on = stays bs l g s in
      let t = from_same a (onto bs l g s) (rest bs l g s) m (n + 1) (with_row ((kind.shape k).width * n) ((kind.shape k).row b) out) in
      rw (leads_lead l, leads_lead on.leads, t, d.width h k, on.row) refl

spared_hangs : (cs : List Call) (h : Heap) (s : ℕ) (bs : List ℕ) → Spared cs h s bs → Hangs h s
spared_hangs [] h s bs p = p
spared_hangs (c ∷ cs) h s bs p = p.0

list_join : {kind : Kind} {h k j : Heap} {s : ℕ} {bs : List ℕ} → SameList kind h k s bs → SameList kind k j s bs → SameList kind h j s bs
list_join p q =
    record {
      listed = q.listed;
      blocks = q.blocks ∙ p.blocks;
      words = λ b v i l. word_join (p.words b v i l) (q.words b v (rw p.blocks i) l);
      exported = λ out. q.exported out ∙ p.exported out;
    }

module _ {kind : Kind} (d : Steady kind) (s : ℕ) (bs : List ℕ) where
  -- one call
  call_same : (h : Heap) → WellFormed h → Listed (kind.shape h) s bs → Hangs h s → (c : Call) → (Resets c h → ⊥)
      → ((b v : ℕ) → Memᴰ b (blocks_of kind h bs) → v ≤ 7 → TouchesCall c h b v → ⊥) → Hangs (does c h).heap s → SameList kind h (does c h).heap s bs
  unfolding export_rows
  call_same h f a g c n u g' =
      let k = (does c h).heap in
      let f' = call_formed h f c in
      let same : SameWords h k (blocks_of kind h bs) =
      λ b v i l. (nothing_lost.call h f c n).same b v (along_reaches d a g b i) l (u b v i l) in
      let most : (kind.shape k).most ≡ (kind.shape h).most = d.most k ∙ (call_keeps h f c n).0 ∙ sym (d.most h) in
      record {
        listed = along_lasts d f' a g' same;
        blocks = blocks_same d f' a g' same;
        words = same;
        exported = λ out.
            subst (λ (m : ℕ). export_from (kind.shape k) m 0 s out ≡ export_rows (kind.shape h) s out) (sym most) (from_same d f' a g' same (kind.shape h).most 0 out);
      }

  lasts : (cs : List Call) (h : Heap) → WellFormed h → Listed (kind.shape h) s bs → Spared cs h s (blocks_of kind h bs) → SameList kind h (session cs h) s bs
  unfolding session
  lasts [] h f a p = record { listed = a; blocks = refl; words = λ b v i l. record { word = refl; bit = refl }; exported = λ out. refl }
  lasts (c ∷ cs) h f a p =
      let k = (does c h).heap in
      let q = call_same h f a p.0 c p.1 p.2 (spared_hangs cs k s (blocks_of kind h bs) p.3) in
      list_join q (lasts cs k (call_formed h f c) q.listed (rw q.blocks p.3))

-- a session that leaves the root alone, as one that spares what hangs from it
root_spares : (cs : List Call) (h : Heap) → WellFormed h → (a : ℕ) (bs : List ℕ) → h.regs.root ≡ a → Untouched cs h bs → Spared cs h a bs
root_spares [] h f a bs e u = λ z. is_root (sym e) z
root_spares (c ∷ cs) h f a bs e u =
    (λ z. is_root (sym e) z, stays_no_reset c h u.0.0, u.0.1, root_spares cs (does c h).heap (call_formed h f c) a bs (call_root h f c u.0.0 ∙ e) u.1)

word_spares : (cs : List Call) (h : Heap) → WellFormed h → (a s : ℕ) (bs : List ℕ) → h.regs.root ≡ a → a ≢ 0 → (n : Names h a s) → Untouched cs h bs → Leaves cs h a n.word → Spared cs h s bs
word_spares [] h f a s bs e z n u l = λ y. is_named (is_root (sym e) z) n y
word_spares (c ∷ cs) h f a s bs e z n u l =
    let r = stays_no_reset c h u.0.0 in
    let p = (nothing_lost.call h f c r).same a n.word (is_root (sym e) z) n.low l.0 in
    let m : Names (does c h).heap a s = record { word = n.word; low = n.low; set = p.bit ∙ n.set; holds = p.word ∙ n.holds } in
    (λ y. is_named (is_root (sym e) z) n y, r, u.0.1, word_spares cs (does c h).heap (call_formed h f c) a s bs (call_root h f c u.0.0 ∙ e) z m u.1 l.1)

pub rows_last : {kind : Kind} → Steady kind → ExportLasts kind
rows_last {kind} d =
    record {
      same = λ h f s bs a cs p. lasts d s bs cs h f a p;
      completes = λ h f s n out c cs p. (lasts d s c.blocks cs h f c.listed p).exported out ∙ given_complete (d.sound h) s out c;
      from_root = λ h f bs a cs u. lasts d h.regs.root bs cs h f a (root_spares cs h f h.regs.root (blocks_of kind h bs) refl u);
      from_word = λ h f s bs a z n cs u l. lasts d s bs cs h f a (word_spares cs h f h.regs.root s (blocks_of kind h bs) refl z n u l);
    }

pub export_lasts : (w : ℕ) → ExportLasts (one_block w)
export_lasts w = rows_last (one_steady w)
