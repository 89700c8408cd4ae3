-- What the abstract heap has by itself, whatever move is made.
--     below_mark           no allocated block lies above the mark
--     unused_free          where the mark is 1 all blocks are free
--     span_most            at most M blocks lie at or below the mark
--     off_sweep            away from sweeping an allocated block is live
--     fresh_sound          a heap with all blocks free, none handed out, is sound
--     not_white            an allocated block that isn't white is live
--     reached_live         on a sound heap whatever is reachable is live: by induction on the way to it
-- Assumes nothing.
use Prim.Native.Nat.{ℕ, ◌≤◌}
use mathlib.Core.Path.{◌≡◌, sym, ◌∙◌, subst}
use mathlib.Core.Logic.{◌≢◌}
use mathlib.Core.Bool.{false}
use native.Mathlib.Omega.{arith}
use Rattle.theory_reach.specs.Sums.{Block}
use Rattle.theory_reach.proofs.Splits.{never, by_le}
use Rattle.theory_reach.proofs.Reaching.{reach_closed}
use Rattle.theory_moves.specs.Tints.{White, Free}
use Rattle.theory_moves.specs.Heaps.{Abs, idle, sweeping, ref, Reached, Live, Sound, span}

module _ {M : ℕ} {h : Abs} (s : Sound M h) where
  pub below_mark : (b : ℕ) → Block M b → h.tint b ≢ Free → b ≤ h.mark
  below_mark b l n = by_le b h.mark (λ i. i) (λ i. absurd (n (s.mark_over b l i)))

  pub unused_free : h.mark ≡ 1 → (b : ℕ) → Block M b → h.tint b ≡ Free
  unused_free e b l = s.mark_over b l (omega (arith, l.low))

  pub span_most : span h ≤ M
  span_most = omega (arith, s.mark_high)

pub off_sweep : {M : ℕ} {h : Abs} {b : ℕ} → h.phase ≢ sweeping → Block M b → h.tint b ≢ Free → Live M h b
off_sweep n l a = record { block = l; allocated = a; spared = λ d. n d.phase }

pub not_white : {M : ℕ} {h : Abs} {b : ℕ} → Block M b → h.tint b ≢ Free → h.tint b ≢ White → Live M h b
not_white l a n = record { block = l; allocated = a; spared = λ d. n d.white }

pub reached_live : {M : ℕ} {h : Abs} → Sound M h → {x : ℕ} → Reached h x → Live M h x
reached_live {M} {h} s =
    reach_closed h.root (ref h) (Live M h)
    (λ x e n. subst (Live M h) (sym e) (s.root_live (λ z. n (e ∙ z))))
    (λ b w x l e n. s.named_live b w x l e n)

-- a heap with all blocks free and none handed out, as it is formatted
pub fresh_sound : (M : ℕ) (h : Abs) → h.root ≡ 0 → h.phase ≡ idle → h.mark ≡ 1 → ((b : ℕ) → Block M b → h.tint b ≡ Free)
    → ((b w : ℕ) → Block M b → h.is_ref b w ≡ false) → Sound M h
fresh_sound M h r p o f n =
    record {
      idle_grey = λ q b l z. never (cc (f b l));
      idle_black = λ q b l z. never (cc (f b l));
      root_marked = λ q z. absurd (z r);
      named_marked = λ q. absurd (omega arith);
      swept_grey = λ q. absurd (omega arith);
      swept_black = λ q. absurd (omega arith);
      mark_low = omega arith;
      mark_high = omega arith;
      mark_over = λ b l i. f b l;
      swept_mark = λ q. absurd (omega arith);
      root_live = λ z. absurd (z r);
      named_live = λ b w x l e z. absurd (l.allocated (f b l.block));
      free_names = λ b w l z. n b w l;
    }
