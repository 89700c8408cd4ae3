-- A heap is well-formed exactly where its view is sound and its shape is right.
--     here, there              block numbers as the machine and as the abstract collector have them
--     colour_is, free_is       a block's colour, by its tint
--     allocated_tint           a tint that isn't free is of an allocated block
--     live_view, view_live     live in the machine and in the view
--     names_ref, ref_names     what a block names, in the machine and in the view
--     wf_shape, wf_sound, shape_wf     the two halves of well-formed, and back
-- Assumes nothing.
use Prim.Native.Nat.{ℕ}
use mathlib.Core.Path.{◌≡◌, refl, sym, ap}
use mathlib.Core.Logic.{◌≢◌}
use mathlib.Core.Bool.{true, false, ◌&&◌}
use native.Mathlib.Nat.{zero-div}
use native.Mathlib.Omega.{arith}
use lib.Dec.{leb}
use borrow.Author.Tests.{leb-true, le-leb}
use Rattle.machine.specs.declared.Colour.{Colour}
use Rattle.machine.specs.declared.Colour.TheVariants.{White, Grey, Black, Free, Outside}
use Rattle.machine.specs.Registers.{idle, marking}
use Rattle.machine.specs.Block.{byte_of, bit}
use Rattle.machine.specs.Colouring.{allocated_colour}
use Rattle.machine.specs.Heap.{Heap, colouring, colour_of}
use Rattle.machine.specs.State.{ahead}
use Rattle.machine.specs.WellFormed.{Block, Coloured, Live, Names, LaidOut, WellFormed}
use Rattle.machine.proofs.Tests.{by_test, by_eq, clash}
use Rattle.machine.proofs.Steps.{never}
use Rattle.machine.proofs.Entering.{tests_ready, ready_fits, ready_legal}
use Rattle.machine.proofs.States.{ahead_is, is_ahead, live_white, live_colour, allocated_live}
use Rattle.machine.proofs.Linked.{linked}
use Rattle.theory_moves.specs.Heaps.{named, ref, Sound}
use Rattle.theory_reach.specs.Sums as sums
use Rattle.theory_moves.specs.Tints as tints
use Rattle.theory_moves.specs.Heaps as heaps
use Rattle.theory_promises.specs.View.{tint_of, view, Shape}

pub there : {m b : ℕ} → Block m b → sums.Block m b
there l = record { low = l.low; high = omega arith }

pub here : {m b : ℕ} → sums.Block m b → Block m b
here l = record { low = l.low; high = omega arith }

-- a tint that isn't free comes from one colour
pub colour_is : (c d : Colour) → tint_of c ≡ tint_of d → tint_of d ≢ tints.Free → c ≡ d
colour_is White White e n = refl
colour_is White Grey e n = never (cc)
colour_is White Black e n = never (cc)
colour_is White Free e n = never (cc)
colour_is White Outside e n = never (cc)
colour_is Grey White e n = never (cc)
colour_is Grey Grey e n = refl
colour_is Grey Black e n = never (cc)
colour_is Grey Free e n = never (cc)
colour_is Grey Outside e n = never (cc)
colour_is Black White e n = never (cc)
colour_is Black Grey e n = never (cc)
colour_is Black Black e n = refl
colour_is Black Free e n = never (cc)
colour_is Black Outside e n = never (cc)
colour_is Free White e n = never (cc)
colour_is Free Grey e n = never (cc)
colour_is Free Black e n = never (cc)
colour_is Free Free e n = refl
colour_is Free Outside e n = absurd (n refl)
colour_is Outside White e n = never (cc)
colour_is Outside Grey e n = never (cc)
colour_is Outside Black e n = never (cc)
colour_is Outside Free e n = absurd (n refl)
colour_is Outside Outside e n = refl

-- and a free tint from a colour inside the layout is free
pub free_is : (c : Colour) → tint_of c ≡ tints.Free → c ≢ Outside → c ≡ Free
free_is White e n = never (cc)
free_is Grey e n = never (cc)
free_is Black e n = never (cc)
free_is Free e n = refl
free_is Outside e n = absurd (n refl)

-- a colour that is allocated
pub allocated_tint : (c : Colour) → tint_of c ≢ tints.Free → allocated_colour c ≡ true
allocated_tint White n = refl
allocated_tint Grey n = refl
allocated_tint Black n = refl
allocated_tint Free n = absurd (n refl)
allocated_tint Outside n = absurd (n refl)

tint_allocated : (c : Colour) → allocated_colour c ≡ true → tint_of c ≢ tints.Free
tint_allocated White e z = never (cc)
tint_allocated Grey e z = never (cc)
tint_allocated Black e z = never (cc)
tint_allocated Free e z = clash e refl
tint_allocated Outside e z = clash e refl

module _ (h : Heap) where
  pub live_view : {b : ℕ} → Live h b → heaps.Live h.regs.blocks (view h) b
  live_view {b} l =
      record {
        block = there l.block;
        allocated = tint_allocated (colour_of h b) (live_colour h.regs (colouring h) b l.live);
        spared = λ d. clash
            (is_ahead h.regs b (record { sweeps = d.phase; reached = d.ahead }))
            (live_white h.regs (colouring h) b l.live (colour_is (colour_of h b) White d.white (λ z. never (cc))));
      }

  pub view_live : {b : ℕ} → heaps.Live h.regs.blocks (view h) b → Live h b
  view_live {b} l =
      record {
        block = here l.block;
        live = allocated_live h.regs (colouring h) b (allocated_tint (colour_of h b) l.allocated)
            (λ w. by_test (ahead h.regs b)
            (λ t. let a = ahead_is h.regs b t in absurd (l.spared (record { phase = a.sweeps; ahead = a.reached; white = ap tint_of w })))
            (λ t. t));
      }

  pub names_ref : {b x : ℕ} (n : Names h b x) → ref (view h) b n.word ≡ x
  unfolding named
  names_ref n = simp (le-leb n.word 7 n.low, n.set) n.holds

  pub ref_names : {b x : ℕ} (w : ℕ) → ref (view h) b w ≡ x → x ≢ 0 → Names h b x
  unfolding named
  ref_names {b} {x} w e n =
      by_test (leb w 7)
      (λ t. by_test (bit (byte_of h.bytes b) w)
      (λ s. record { word = w; low = leb-true w 7 t; set = s; holds = simp (t, s) at e })
      (λ s. absurd (n (sym (simp (t, s) at e)))))
      (λ t. absurd (n (sym (simp t at e))))

  pub wf_shape : WellFormed h → Shape h
  wf_shape f =
      record {
        ready = tests_ready h f.fitting f.registers;
        colours = f.colours;
        greys = f.greys;
        frees = f.frees;
        laid = f.laid;
        counted = f.counted;
      }

  -- a block of a colour, by its tint
  pub tinted : {b : ℕ} (c : Colour) → sums.Block h.regs.blocks b → tint_of (colour_of h b) ≡ tint_of c → tint_of c ≢ tints.Free → Coloured h c b
  tinted {b} c l e n = record { block = here l; colour = colour_is (colour_of h b) c e n }

  free_bits : {b : ℕ} → LaidOut h b → (w : ℕ) → (leb w 7 && bit (byte_of h.bytes b) w) ≡ false
  unfolding bit
  free_bits {b} d w = by_test (leb w 7) (λ t. simp (t, d.byte, zero-div)) (λ t. simp t)

  pub wf_sound : WellFormed h → Sound h.regs.blocks (view h)
  wf_sound f =
      let r = tests_ready h f.fitting f.registers in
      record {
        idle_grey = λ i b l e. f.greyless (λ k. absurd (omega arith)) b (tinted Grey l e (λ z. never (cc)));
        idle_black = λ i b l e. f.blackless i b (tinted Black l e (λ z. never (cc)));
        root_marked = λ k n e. f.root_marked k (tinted White (there (f.root_live n).block) e (λ z. never (cc)));
        named_marked = λ k b w x l e g n t.
            let q = ref_names w g n in
            f.named_marked k b x (tinted Black l e (λ z. never (cc))) q
            (tinted White (there (f.named_live b x (view_live (record { block = l; allocated = λ z. never (cc); spared = λ d. never (cc d.white) })) q n).block) t (λ z. never (cc)));
        swept_grey = λ s b l e. f.greyless (λ k. absurd (omega arith)) b (tinted Grey l e (λ z. never (cc)));
        swept_black = λ s b l p e. f.swept s b (tinted Black l e (λ z. never (cc))) p;
        mark_low = r.marked.0;
        mark_high = r.marked.1;
        mark_over = λ b l g. ap tint_of (f.unused b (here l) g).colour;
        swept_mark = λ s. (r.placed s).1;
        root_live = λ n. live_view (f.root_live n);
        named_live = λ b w x l e n. live_view (f.named_live b x (view_live l) (ref_names w e n) n);
        free_names = λ b w l e. free_bits (f.laid b (record { block = here l; colour = free_is (colour_of h b) e (f.colours b (here l)) })) w;
      }

  pub shape_wf : Shape h → Sound h.regs.blocks (view h) → WellFormed h
  shape_wf p s =
      record {
        fitting = ready_fits h p.ready;
        registers = ready_legal h p.ready;
        colours = p.colours;
        greys = p.greys;
        frees = p.frees;
        laid = p.laid;
        counted = p.counted;
        grey_head = λ n. linked.rest _ _ _ n p.ready.grey;
        greyless = λ n b g. grey_none n b g;
        blackless = λ i b k. s.idle_black i b (there k.block) (ap tint_of k.colour);
        swept = λ w b k l. s.swept_black w b (there k.block) l (ap tint_of k.colour);
        unused = λ b l g. record { block = l; colour = free_is (colour_of h b) (s.mark_over b (there l) g) (p.colours b l) };
        root_marked = λ k c. s.root_marked k (λ z. absurd (root_some c z)) (ap tint_of c.colour);
        named_marked = λ k b x d n c.
            s.named_marked k b n.word x (there d.block) (ap tint_of d.colour) (names_ref n) (λ z. absurd (block_some c.block z)) (ap tint_of c.colour);
        root_live = λ n. view_live (s.root_live n);
        named_live = λ b x l n z. view_live (s.named_live b n.word x (live_view l) (names_ref n) z);
      }
    where
      block_some : {m b : ℕ} → Block m b → b ≡ 0 → ⊥
      block_some l z = omega arith

      root_some : Coloured h White h.regs.root → h.regs.root ≡ 0 → ⊥
      root_some c z = block_some c.block z

      grey_none : h.regs.phase ≢ marking → (b : ℕ) → Coloured h Grey b → ⊥
      grey_none n b g =
          by_eq h.regs.phase idle
          (λ i. s.idle_grey i b (there g.block) (ap tint_of g.colour))
          (λ i. let ph = p.ready.phase in s.swept_grey (omega arith) b (there g.block) (ap tint_of g.colour))
