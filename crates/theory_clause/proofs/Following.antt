-- Rows that are a block each: what a link that leads on says of the words, and what it takes on a well-formed heap.
--     leads_readable, leads_some, leads_set, leads_holds, leads_names     the block can be read and isn't 0; its link word is a
--                              reference that names the next block
--     live_reads               Read answers 0 on a live block of a well-formed heap
--     leads_same               a link that is the same leads on from a reachable block
--     eight_same               a block whose words are the same has the same eight words
--     one_steady               such rows are Steady
--     one_blocks               and the blocks of which they are made are the list's
-- Assumes nothing.
use Prim.Native.Nat.{ℕ, ◌≤◌, ◌<◌}
use mathlib.Core.Path.{◌≡◌, refl, sym, ◌∙◌, ap, subst}
use mathlib.Core.Logic.{◌≢◌}
use mathlib.Core.Bool.{true}
use mathlib.Core.List.Memᴰ
use mathlib.Core.List.{List, [], ◌∷◌}
use native.Mathlib.Omega.{arith}
use lib.ListN.{length, get_or}
use lib.Seq.{ext_get_or, get_or-take, get_or-drop}
use Rattle.machine.specs.Block.{word_of, byte_of, bit, eight_words}
use Rattle.machine.specs.Heap.{Heap}
use Rattle.machine.specs.Read.{read_refusal}
use Rattle.machine.specs.WellFormed.{Live, Names, WellFormed}
use Rattle.machine.proofs.Tests.{by_test}
use Rattle.machine.proofs.Steps.{never}
use Rattle.machine.proofs.Blocks.{block_is_block}
use Rattle.machine.proofs.Refusals.{Readable, readable, passes, entered, word_fits}
use Rattle.theory_promises.specs.Reachable.{Reachable, is_named, SameWord}
use Rattle.theory_promises.proofs.Serving.{live_holder}
use Rattle.theory_promises.proofs.Losing.{reachable_live}
use Rattle.std.specs.Prelude.{Ok}
use Rattle.part_rows.specs.Lists.{Leads}
use Rattle.part_rows.proofs.Walks.{leads_lead, lead_leads}
use Rattle.call_export.specs.Export.{block_rows}
use Rattle.call_export.proofs.Steps.{follow_zero, follow_on, follow_number, row_eight, block_rows_lem}
use Rattle.theory_clause.specs.Lasting.{one_block, blocks_of}
use Rattle.theory_clause.proofs.Steadiness.{Steady}

module _ (h : Heap) (w : ℕ) {b x : ℕ} (l : Leads (block_rows w h) b x) where
  leads_zero : read_refusal b w h ≡ 0
  leads_zero = follow_zero h b w (leads_lead l)

  pub leads_readable : Readable h b w
  leads_readable = readable h b w leads_zero

  pub leads_some : b ≢ 0
  leads_some e = let d = leads_readable.block.low in omega arith

  pub leads_set : bit (byte_of h.bytes b) w ≡ true
  leads_set =
      by_test (bit (byte_of h.bytes b) w) (λ t. t)
      (λ t. let p = follow_number h b w leads_zero t in let q = leads_lead l in never (cc))

  pub leads_holds : word_of h.words b w ≡ x
  leads_holds = let p = follow_on h b w leads_zero leads_set in let q = leads_lead l in cc

  pub leads_names : Names h b x
  leads_names = record { word = w; low = leads_readable.low; set = leads_set; holds = leads_holds }

pub live_reads : (h : Heap) → WellFormed h → (b w : ℕ) → w ≤ 7 → Live h b → read_refusal b w h ≡ 0
unfolding read_refusal
live_reads h f b w l v =
    sym
    (passes (entered h f.fitting f.registers) refl
    (passes (word_fits h.regs.blocks b w (block_is_block _ b v.block) l) refl (sym (live_holder h b v))))

-- a link that is the same leads on from a reachable block
pub leads_same : {h k : Heap} (w : ℕ) {b x : ℕ} → WellFormed k → Leads (block_rows w h) b x → Reachable k b → SameWord h k b w → Leads (block_rows w k) b x
leads_same {h} {k} w {b} {x} f l r s =
    let z = live_reads k f b w (leads_readable h w l).low (reachable_live k f b r) in
    lead_leads (sym (follow_on k b w z (s.bit ∙ leads_set h w l)) ∙ ap Ok (s.word ∙ leads_holds h w l))

at_word : (ws : List ℕ) (b i : ℕ) → i < 8 → get_or (eight_words ws b) i 0 ≡ word_of ws b i
unfolding eight_words
at_word ws b i l = rw (get_or-take, get_or-drop) refl

pub eight_same : {h k : Heap} {b : ℕ} → length (eight_words h.words b) ≡ 8 → length (eight_words k.words b) ≡ 8
    → ((v : ℕ) → v ≤ 7 → SameWord h k b v) → eight_words k.words b ≡ eight_words h.words b
eight_same {h} {k} {b} p q s =
    ext_get_or 0 _ _ (q ∙ sym p)
    (λ i l. let m : i < 8 = omega arith in at_word k.words b i m ∙ (s i (omega arith)).word ∙ sym (at_word h.words b i m))

pub one_steady : (w : ℕ) → Steady (one_block w)
one_steady w =
    record {
      sound = λ h. block_rows_lem h w;
      width = λ h k. refl;
      most = λ h. refl;
      block = λ h l. (leads_readable h w l).block;
      reaches = λ {h} {b} l r y i. subst (Reachable h) (sym (Memᴰ.eq_of_singleton i)) r;
      onward = λ {h} l r n. is_named r (leads_names h w l) n;
      stays = λ {h} {k} {b} {x} f l r s.
          let on : Leads (block_rows w k) b x = leads_same w f l r (s b w (Memᴰ.head refl) (leads_readable h w l).low) in
          record {
            leads = on;
            row = eight_same {h = h} {k = k} (row_eight (leads_readable h w l)) (row_eight (leads_readable k w on)) (λ v m. s b v (Memᴰ.head refl) m);
            blocks = refl;
          };
    }

pub one_blocks : (w : ℕ) (h : Heap) (bs : List ℕ) → blocks_of (one_block w) h bs ≡ bs
one_blocks w h [] = refl
one_blocks w h (b ∷ bs) = ap (λ (r : List ℕ). b ∷ r) (one_blocks w h bs)
