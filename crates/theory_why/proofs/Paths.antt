-- Paths in a heap and paths of its search are the same, on a well-formed heap.
--     leads_search, search_leads       a path of the one is a path of the other
--     reachable_live                   a reachable block is live
--     reachable_reached, reached_reachable     reachable exactly where a path of the search leads there
-- From a live block every reference leads to a live block, so no path leaves the blocks.
-- Assumes nothing.
use Prim.Native.Nat.{ℕ, ◌≤◌}
use mathlib.Core.Path.{◌≡◌, refl, sym, ◌∙◌}
use mathlib.Core.Logic.{◌≢◌}
use mathlib.Core.List.{List, [], ◌∷◌, ◌++◌}
use native.Mathlib.Omega.{arith}
use Rattle.machine.specs.Block.{byte_of, bit}
use Rattle.machine.specs.Heap.{Heap}
use Rattle.machine.specs.WellFormed.{Block, Live, Names, WellFormed}
use Rattle.machine.specs.Search.{Hop, named_in, named_of}
use Rattle.machine.proofs.Tests.{by_test}
use Rattle.theory_audit.proofs.Words.{part_word}
use Rattle.theory_promises.specs.Reachable.{Reachable, is_root, is_named}
use Rattle.theory_search.specs.Leads as search
use Rattle.theory_search.specs.Means.{Reached}
use Rattle.theory_search.proofs.Paths.{starts}
use Rattle.theory_why.specs.Leads.{Pair, Leads, here, hop}

-- a pair more at the end
onward : {m : ℕ} {names : ℕ → ℕ → ℕ} {a b x : ℕ} {ps : List Hop} (p : Hop)
    → search.Leads m names a ps b → p.block ≡ b → p.word ≤ 7 → names b p.word ≡ x → Block m x
    → search.Leads m names a (ps ++ (p ∷ [])) x
onward {x = x} p (search.here e l) q w n k = search.hop {x = x} (q ∙ sym e) l w (rw e n) (search.here refl k)
onward p (search.hop e l h t d) q w n k = search.hop e l h t (onward p d q w n k)

module _ (h : Heap) where
  names_named : {a x : ℕ} (n : Names h a x) → named_of h a n.word ≡ x
  unfolding named_in
  names_named {a} n = rw n.set (part_word h.words a n.word n.low ∙ n.holds)

  named_pair : {a x : ℕ} (p : Hop) → p.block ≡ a → p.word ≤ 7 → named_of h a p.word ≡ x → x ≢ 0 → Pair h a p x
  unfolding named_in
  named_pair {a} p e l n z =
      by_test (bit (byte_of h.bytes a) p.word)
      (λ t. record { block = e; low = l; set = t; holds = sym (part_word h.words a p.word l) ∙ (rw t at n); some = z })
      (λ t. absurd (z (sym (rw t at n))))

  abbrev pair_names : {a x : ℕ} {p : Hop} → Pair h a p x → Names h a x
  pair_names {p = p} q = record { word = p.word; low = q.low; set = q.set; holds = q.holds }

  some_block : {m x : ℕ} → Block m x → x ≢ 0
  some_block l z = omega arith

  pub search_leads : {a b : ℕ} {ps : List Hop} → search.Leads h.regs.blocks (named_of h) a ps b → Leads h a ps b
  search_leads (search.here e l) = here e
  search_leads (search.hop {p = p} e l w n d) = hop (named_pair p e w n (some_block (starts d))) (search_leads d)

  reached_from : {a b : ℕ} {ps : List Hop} → Reachable h a → search.Leads h.regs.blocks (named_of h) a ps b → Reachable h b
  reached_from r (search.here e l) = rw (← e) r
  reached_from r (search.hop {p = p} e l w n d) =
      let z = some_block (starts d) in
      reached_from (is_named r (pair_names (named_pair p e w n z)) z) d

  pub reached_reachable : {b : ℕ} → Reached h.regs.blocks h.regs.root (named_of h) b → Reachable h b
  reached_reachable r = reached_from (is_root refl (some_block (starts r.leads))) r.leads

  module _ (f : WellFormed h) where
    pub leads_search : {a b : ℕ} {ps : List Hop} → Live h a → Leads h a ps b → search.Leads h.regs.blocks (named_of h) a ps b
    leads_search l (here e) = search.here e l.block
    leads_search {a} l (hop {x = x} q d) =
        let n = pair_names q in
        search.hop {x = x} q.block l.block q.low (names_named n) (leads_search (f.named_live a x l n q.some) d)

    pub reachable_live : {b : ℕ} → Reachable h b → Live h b
    reachable_live (is_root e n) = rw e (f.root_live (λ z. n (e ∙ z)))
    reachable_live (is_named {a} {b} r n z) = f.named_live a b (reachable_live r) n z

    pub reachable_reached : {b : ℕ} → Reachable h b → Reached h.regs.blocks h.regs.root (named_of h) b
    reachable_reached (is_root e n) = record { path = []; leads = search.here (sym e) (f.root_live (λ z. n (e ∙ z))).block }
    reachable_reached {b} (is_named {a} r n z) =
        let q = reachable_reached r in
        let p : Hop = record { block = a; word = n.word } in
        record {
          path = q.path ++ (p ∷ []);
          leads = onward p q.leads refl n.low (names_named n) (reachable_live (is_named r n z)).block;
        }
