-- The parts of the audit's test say that the heap is well-formed.
--     Tests h                      the parts of the audit's test, each true
--     tests_formed, formed_tests   they are true exactly where the heap is well-formed
-- Each block is looked at by its colour, once each way. Nothing here says how colours are kept or how the grey list is linked.
-- Assumes nothing.
use Prim.Native.Nat.{ℕ, ◌≤◌}
use mathlib.Core.Path.{◌≡◌, refl, ap, ◌∙◌}
use mathlib.Core.Logic.{◌≢◌}
use mathlib.Core.Bool.{true, false}
use native.Mathlib.Omega.{arith}
use lib.Dec.{eqb, leb}
use borrow.Author.Tests.{eqb-true, eq-eqb, leb-true, leb-false}
use Rattle.machine.specs.declared.Colour.{Colour}
use Rattle.machine.specs.declared.Colour.TheVariants.{White, Grey, Black, Free, Outside}
use Rattle.std.specs.Prelude.{if◌then◌else◌}
use Rattle.machine.specs.Tests.{◌▷◌}
use Rattle.machine.specs.Registers.{marking, sweeping}
use Rattle.machine.specs.Colouring.{free_colour}
use Rattle.machine.specs.Heap.{Heap, colouring, colour_of}
use Rattle.machine.specs.State.{state_of, is_live}
use Rattle.machine.specs.Entry.{heap_fits, legal, entry}
use Rattle.machine.specs.Audit.{all_from, layout_passes, may_name, block_passes, frees_pass}
use Rattle.machine.specs.WellFormed.{Block, Coloured, Live, Names, WellFormed}
use Rattle.machine.proofs.Tests.{by_test, by_eq, clash}
use Rattle.machine.proofs.Entering.{first_zero, choose_zero, tests_ready}
use Rattle.machine.proofs.Counting.{all_holds, holds_all}
use Rattle.machine.proofs.States.{white_live, grey_live, black_live, live_white, live_colour, black_not_idle, black_ahead, may_be_black_lem}
use Rattle.machine.proofs.Linked.{linked}
use Rattle.theory_audit.proofs.Naming.{name_holds, holds_name}
use Rattle.theory_audit.proofs.ByColour.{NamesWell, white_holds, holds_white, grey_holds, holds_grey, black_holds, holds_black, free_holds, holds_free, outside_fails, mark_holds}
use Rattle.theory_audit.proofs.Frees.{frees_hold, hold_frees}
use Rattle.theory_audit.proofs.ColourLayout.{layout_holds, hold_layout}

pub record Tests (h : Heap) : Type 0 where
  pub entered : entry h ≡ 0
  pub layout : layout_passes (colouring h) ≡ true
  pub blocks : all_from (block_passes h) h.regs.blocks 2 ≡ true
  pub root : may_name h.regs (colouring h) (eqb h.regs.phase marking) h.regs.root ≡ true
  pub frees : frees_pass h.regs h.words (colouring h) ≡ true

module _ (h : Heap) where
  entered_fits : entry h ≡ 0 → (heap_fits h ≡ true) × (legal h.regs ≡ true)
  unfolding entry
  entered_fits e =
      let z = first_zero (if heap_fits h then 0 else 1) (if legal h.regs then 0 else 2) e in
      (choose_zero (heap_fits h) 1 (omega arith) z.0, choose_zero (legal h.regs) 2 (omega arith) z.1)

  fits_entered : heap_fits h ≡ true → legal h.regs ≡ true → entry h ≡ 0
  unfolding entry ◌▷◌
  fits_entered f l = simp (f, l)

  module _ (all : all_from (block_passes h) h.regs.blocks 2 ≡ true) where
    passed : (b : ℕ) → Block h.regs.blocks b → block_passes h b ≡ true
    passed b l = all_holds (block_passes h) h.regs.blocks 2 all b l.low (omega arith)

    -- "Every reference in an allocated block that isn't doomed is 0 or names such a block."
    named : (b x : ℕ) → Live h b → Names h b x → x ≢ 0 → Live h x
    named b x l v n = go (colour_of h b) refl
      where
        go : (c : Colour) → colour_of h b ≡ c → Live h x
        go White e = (white_holds h b e (passed b l.block) (live_white h.regs (colouring h) b l.live e) x v).alive n
        go Grey e = ((grey_holds h b e (passed b l.block)).1 x v).alive n
        go Black e = ((black_holds h b e (passed b l.block)).1 x v).alive n
        go Free e = clash (live_colour h.regs (colouring h) b l.live) (rw e refl)
        go Outside e = outside_fails h b e (passed b l.block)

  pub tests_formed : Tests h → WellFormed h
  tests_formed t =
      let fits = entered_fits t.entered in
      let layout = layout_holds h t.layout in
      let f = frees_hold h t.frees in
      let r = name_holds h (eqb h.regs.phase marking) h.regs.root t.root in
      let pass = passed t.blocks in
      record {
        fitting = fits.0;
        registers = fits.1;
        colours = layout.0;
        greys = layout.1;
        frees = f.0;
        laid = λ b c. free_holds h b c.colour (pass b c.block);
        counted = f.1;
        grey_head = λ n. linked.rest _ _ _ n (tests_ready h fits.0 fits.1).grey;
        greyless = λ n b c. n (grey_holds h b c.colour (pass b c.block)).0;
        blackless = λ z b c. black_not_idle h.regs b (black_holds h b c.colour (pass b c.block)).0 z;
        swept = λ s b c g. let l = black_ahead h.regs b (black_holds h b c.colour (pass b c.block)).0 s in omega arith;
        unused = λ b l g. record { block = l; colour = mark_holds h b (pass b l) g };
        root_marked = λ m c. r.marked (eq-eqb h.regs.phase marking m) c;
        named_marked = λ m b x c v w. ((black_holds h b c.colour (pass b c.block)).1 x v).marked (eq-eqb h.regs.phase marking m) w;
        root_live = r.alive;
        named_live = named t.blocks;
      }

  module _ (f : WellFormed h) where
    -- what a live block names is 0 or live
    names_live : (b : ℕ) → Live h b → NamesWell h b false
    names_live b l x v = record { alive = λ n. f.named_live b x l v n; marked = λ s c. clash s refl }

    names_marked : (b : ℕ) → Coloured h Black b → Live h b → NamesWell h b (eqb h.regs.phase marking)
    names_marked b c l x v =
        record {
          alive = λ n. f.named_live b x l v n;
          marked = λ s w. f.named_marked (eqb-true h.regs.phase marking s) b x c v w;
        }

    passes_block : (b : ℕ) → Block h.regs.blocks b → block_passes h b ≡ true
    passes_block b l = go (colour_of h b) refl
      where
        alive : is_live (state_of h b) ≡ true → Live h b
        alive s = record { block = l; live = s }

        ahead : Coloured h Black b → h.regs.phase ≡ sweeping → h.regs.position ≤ b
        ahead c s =
            by_test (leb h.regs.position b) (λ t. leb-true h.regs.position b t)
            (λ t. absurd (f.swept s b c (leb-false h.regs.position b t)))

        -- a block that isn't free is at or below the mark
        used : {c : Colour} → colour_of h b ≡ c → free_colour c ≡ false → b ≤ h.regs.mark
        used e n =
            by_test (leb b h.regs.mark) (λ t. leb-true b h.regs.mark t)
            (λ t. let u = f.unused b l (leb-false b h.regs.mark t) in clash (ap free_colour u.colour) (ap free_colour e ∙ n))

        go : (c : Colour) → colour_of h b ≡ c → block_passes h b ≡ true
        go White e = holds_white h b e (used e refl) (λ d. names_live b (alive (white_live h.regs (colouring h) b e d)))
        go Grey e =
            by_eq h.regs.phase marking (λ m. holds_grey h b e (used e refl) m (names_live b (alive (grey_live h.regs (colouring h) b e))))
            (λ n. absurd (f.greyless n b (record { block = l; colour = e })))
        go Black e =
            let c : Coloured h Black b = record { block = l; colour = e } in
            holds_black h b e (used e refl)
            (may_be_black_lem h.regs b (tests_ready h f.fitting f.registers).phase (λ z. f.blackless z b c) (ahead c))
            (names_marked b c (alive (black_live h.regs (colouring h) b e)))
        go Free e = holds_free h b e (f.laid b (record { block = l; colour = e }))
        go Outside e = absurd (f.colours b l e)

    pub formed_tests : Tests h
    formed_tests =
        record {
          entered = fits_entered f.fitting f.registers;
          layout = hold_layout h f.colours f.greys;
          blocks = holds_all (block_passes h) h.regs.blocks 2 (λ b l g. passes_block b (record { low = l; high = omega arith }));
          root =
              holds_name h (eqb h.regs.phase marking) h.regs.root
              (record { alive = f.root_live; marked = λ s c. f.root_marked (eqb-true h.regs.phase marking s) c });
          frees = hold_frees h f.frees f.counted;
        }
