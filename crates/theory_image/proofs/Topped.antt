-- A well-formed heap stays so with its mark at M + 1: every sentence but two is about other registers and the buffers.
--     topped_formed        the statement ToppedFormed
-- Assumes nothing.
use Prim.Native.Nat.{ℕ, ◌+◌}
use mathlib.Core.Path.{◌≡◌, refl}
use mathlib.Core.Bool.{true}
use native.Mathlib.Omega.{arith}
use Rattle.machine.specs.declared.Regs.{Regs}
use Rattle.machine.specs.declared.Colour.{Colour}
use Rattle.machine.specs.declared.Colour.TheVariants.{White, Grey, Black, Free, Outside}
use Rattle.machine.specs.Block.{word_of}
use Rattle.machine.specs.Heap.{Heap, colour_of}
use Rattle.machine.specs.Registers.{with_mark}
use Rattle.machine.specs.Entry.{legal}
use Rattle.machine.specs.Ready.{Ready}
use Rattle.machine.specs.State.{ahead, state_from, state_in, state_of}
use Rattle.machine.specs.WellFormed.{Coloured, Live, Names, WellFormed, Exactly}
use Rattle.machine.proofs.Tests.{by_test}
use Rattle.machine.proofs.Entering.{tests_ready, ready_entry}
use Rattle.machine.proofs.Refusals.{illegal}
use Rattle.theory_image.specs.Images.{topped, ToppedFormed}

-- the mark is not asked for a block's state
same_from : (r : Regs) (m b : ℕ) (c : Colour) → state_from (with_mark m r) b c ≡ state_from r b c
unfolding state_from ahead
same_from r m b White = refl
same_from r m b Grey = refl
same_from r m b Black = refl
same_from r m b Free = refl
same_from r m b Outside = refl

same_state : (h : Heap) (b : ℕ) → state_of (topped h) b ≡ state_of h b
unfolding state_in
same_state h b = same_from h.regs (h.regs.blocks + 1) b (colour_of h b)

module _ (h : Heap) (w : WellFormed h) where
  topped_ready : Ready (topped h)
  topped_ready =
      let d = tests_ready h w.fitting w.registers in
      record {
        some = d.some;
        most = d.most;
        pace = d.pace;
        words = d.words;
        colours = d.colours;
        bytes = d.bytes;
        phase = d.phase;
        grey = d.grey;
        free = d.free;
        root = d.root;
        count = d.count;
        marked = (omega arith, omega arith);
        placed = λ e. ((d.placed e).0, omega (arith, d.placed e, d.marked));
        parked = d.parked;
      }

  topped_legal : legal (topped h).regs ≡ true
  topped_legal =
      by_test (legal (topped h).regs) (λ t. t)
      (λ t. absurd (omega (arith, illegal (topped h) w.fitting t, ready_entry (topped h) topped_ready)))

  to : {c : Colour} {b : ℕ} → Coloured h c b → Coloured (topped h) c b
  to x = record { block = x.block; colour = x.colour }

  from : {c : Colour} {b : ℕ} → Coloured (topped h) c b → Coloured h c b
  from x = record { block = x.block; colour = x.colour }

  live_to : {b : ℕ} → Live h b → Live (topped h) b
  live_to {b} x = record { block = x.block; live = rw (same_state h b) x.live }

  live_from : {b : ℕ} → Live (topped h) b → Live h b
  live_from {b} x = record { block = x.block; live = rw (← same_state h b) x.live }

  names_from : {b x : ℕ} → Names (topped h) b x → Names h b x
  names_from n = record { word = n.word; low = n.low; set = n.set; holds = n.holds }

  abbrev topped_frees : Exactly (Coloured (topped h) Free) (λ b. word_of h.words b 0) 0 h.regs.free
  topped_frees =
      let e = w.frees in
      record { blocks = e.blocks; listed = e.listed; members = λ b. (λ m. to ((e.members b).0 m), λ c. (e.members b).1 (from c)) }

  formed : WellFormed (topped h)
  formed =
      record {
        fitting = w.fitting;
        registers = topped_legal;
        colours = w.colours;
        greys = w.greys;
        frees = topped_frees;
        laid = λ b c. let l = w.laid b (from c) in record { byte = l.byte; words = l.words };
        counted = w.counted;
        grey_head = w.grey_head;
        greyless = λ p b c. w.greyless p b (from c);
        blackless = λ p b c. w.blackless p b (from c);
        swept = λ p b c l. w.swept p b (from c) l;
        unused = λ b k l. absurd (omega (arith, k.high, l));
        root_marked = λ p c. w.root_marked p (from c);
        named_marked = λ p b x c n d. w.named_marked p b x (from c) (names_from n) (from d);
        root_live = λ n. live_to (w.root_live n);
        named_live = λ b x l n z. live_to (w.named_live b x (live_from l) (names_from n) z);
      }

pub topped_formed : ToppedFormed
topped_formed = formed
