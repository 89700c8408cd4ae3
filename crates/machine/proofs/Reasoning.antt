-- Laws of Why.
--     state_inside         no block of a heap that the audit accepts is outside the layout
--     live_path, no_path   the path, of a block that is allocated and not doomed, and of any other
--     live_kept, live_reached     the reason of such a block: not found by the search, or found
--     why_given             what the call gives;     why-unfit, why-bad, why-nowhere, why-short, why-told     its ways out
-- Assumes nothing.
use Prim.Native.Nat.{ℕ, ◌*◌, ◌-◌}
use mathlib.Core.Path.{◌≡◌, refl}
use mathlib.Core.Logic.{◌≢◌}
use mathlib.Core.Bool.{Bool, true, false, ◌&&◌}
use mathlib.Core.List.{List, []}
use native.Mathlib.Omega.{arith}
use lib.Dec.{leb, eqb}
use lib.ListN.{length, replicate}
use borrow.Author.Tests.{eq-eqb, ne_eqb}
use Rattle.machine.specs.declared.Colour.{Colour}
use Rattle.machine.specs.declared.State.TheVariants as states
use Rattle.machine.specs.declared.Reason.{Reason}
use Rattle.machine.specs.declared.Reason.TheVariants.{Reachable, Kept}
use Rattle.machine.specs.declared.Why.{Why}
use Rattle.std.specs.Prelude.{Result, Ok, Err}
use Rattle.machine.specs.Tests.{◌▷◌}
use Rattle.machine.specs.Block.{is_block}
use Rattle.machine.specs.Heap.{Heap, colouring}
use Rattle.machine.specs.State.{state_of, is_live}
use Rattle.machine.specs.Entry.{heap_fits, entry}
use Rattle.machine.specs.Registers.{marking}
use Rattle.machine.specs.Lists.{all_from}
use Rattle.machine.specs.Audit.{layout_passes, state_passes, block_passes, may_name, frees_pass, passes}
use Rattle.machine.specs.Search.{came_to, search_of, Hop, path_to, path_numbers}
use Rattle.machine.specs.Why.{path_of, live_reason, reason_of, WhyGiven, why_refusal, padded, why}
use Rattle.machine.proofs.Tests.{clash, both_true}
use Rattle.machine.proofs.Blocks.{is_block_block}
use Rattle.machine.proofs.Counting.{all_holds}
use Rattle.machine.proofs.Passing.{block_state}

-- what the call gives
abbrev pub why_given : Result Why ℕ → List ℕ → List ℕ → List ℕ → WhyGiven
why_given a path queue came = record { answer = a; path = path; queue = queue; came = came }

module _ (h : Heap) (b : ℕ) where
  pub state_inside : passes h ≡ true → is_block h.regs.blocks b ≡ true → state_of h b ≢ states.Outside
  unfolding passes state_passes
  state_inside p i o =
      let k = is_block_block h.regs.blocks b i in
      let rest = may_name h.regs (colouring h) (eqb h.regs.phase marking) h.regs.root && frees_pass h.regs h.words (colouring h) in
      let all = all_from (block_passes h) h.regs.blocks 2 in
      let (a, c) = both_true (eqb (entry h) 0) (layout_passes (colouring h) && (all && rest)) p in
      let (d, e) = both_true (layout_passes (colouring h)) (all && rest) c in
      let (f, g) = both_true all rest e in
      let here = all_holds (block_passes h) h.regs.blocks 2 f b k.low (omega (arith, k.high)) in
      clash (block_state h b here) (rw o refl)

  pub live_path : is_live (state_of h b) ≡ true → path_of h b ≡ path_to h.regs.blocks (search_of h).came b
  unfolding path_of
  live_path e = simp e

  pub no_path : is_live (state_of h b) ≡ false → path_of h b ≡ []
  unfolding path_of
  no_path e = simp e

  module _ (c : Colour) where
    pub live_kept : came_to (search_of h).came b ≡ 0 → Kept c ≡ live_reason h b c
    unfolding live_reason
    live_kept e = simp (eq-eqb _ _ e)

    pub live_reached : {n : ℕ} → came_to (search_of h).came b ≢ 0 → n ≡ length (path_of h b) → Reachable n ≡ live_reason h b c
    unfolding live_reason
    live_reached o e = rw e (simp (ne_eqb _ _ o))

  module _ (path queue came : List ℕ) where
    pub why_unfit : heap_fits h ≡ false → why_given (Err 1) path queue came ≡ why path queue came b h
    unfolding why why_refusal ◌▷◌
    why_unfit f = simp f

    module _ (f : heap_fits h ≡ true) where
      pub why_bad : passes h ≡ false → why_given (Err 10) path queue came ≡ why path queue came b h
      unfolding why why_refusal ◌▷◌
      why_bad p = simp (f, p)

      module _ (p : passes h ≡ true) where
        pub why_nowhere : is_block h.regs.blocks b ≡ false → why_given (Err 3) path queue came ≡ why path queue came b h
        unfolding why why_refusal ◌▷◌
        why_nowhere i = simp (f, p, i)

        module _ (i : is_block h.regs.blocks b ≡ true) where
          abbrev room : Bool
          room = leb (2 * h.regs.blocks) (length path) && (leb h.regs.blocks (length queue) && leb h.regs.blocks (length came))

          pub why_short : room ≡ false → why_given (Err 13) path queue came ≡ why path queue came b h
          unfolding why why_refusal ◌▷◌
          why_short l = simp (f, p, i, l)

          pub why_told : {x : Reason} {path' queue' came' : List ℕ} → room ≡ true → x ≡ reason_of h b
              → path' ≡ padded (path_numbers (path_of h b)) (length path)
              → queue' ≡ replicate (length queue) 0 → came' ≡ replicate (length came) 0
              → why_given (Ok (record { reason = x })) path' queue' came' ≡ why path queue came b h
          unfolding why why_refusal ◌▷◌
          why_told l e g j k = rw (e, g, j, k) (simp (f, p, i, l))

pub no_numbers : {hs : List Hop} {path : List ℕ} (n : ℕ) → hs ≡ [] → path ≡ replicate n 0 → path ≡ padded (path_numbers hs) n
unfolding padded path_numbers
no_numbers n e z = let k : n - 0 ≡ n = omega arith in rw (e, z, k) refl
