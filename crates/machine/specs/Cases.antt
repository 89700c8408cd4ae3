-- "Checked by hand": the cases of document 01 that are marked P, as one table under one statement.
-- Cases 4 to 8 are worked out afresh, with the same inputs, as document 02's request L7 asks: the sweep now ends after the mark.
-- A case is a list of calls on lent buffers of the right lengths, what is looked at after them (what one more call gives, or how many
-- units the calls of a cycle answer in all), and what stands there: what document 01 says, and for 4 to 8
-- and the first half of 10 what document 02 makes of it.
--     lent m               registers and buffers as a host lends them for m blocks, all 0
--     units_over cs h       the units that the calls cs answer, one call after another from the heap h, added up
--     table                the cases
--     HandChecked          each case shows what is said there
-- Assumes nothing.
use Rattle.std.specs.Prelude.{ℕ, ◌+◌, ◌-◌, ◌*◌, ◌≡◌, List, [], ◌∷◌, ◌++◌, map, replicate}
use Rattle.machine.specs.declared.Regs.{Regs}
use Rattle.machine.specs.Registers.{fresh_regs}
use Rattle.machine.specs.Block.{word_of}
use Rattle.machine.specs.Colouring.{white, black, freed, word_in}
use Rattle.machine.specs.Heap.{Heap, heap, colouring}
use Rattle.machine.specs.Answers.{Given}
use Rattle.machine.specs.Session.{Call, does, session}
use Rattle.machine.specs.Session.Call.{Format, Read, StoreReference, Allocate, Work}

abbrev pub lent : ℕ → Heap
lent m = heap (fresh_regs 0 0) (replicate (8 * m) 0) (replicate m 0) (replicate m 0)

pub record Case : Type 0 where
  pub blocks : ℕ
  pub calls : List Call
  pub looked : Heap → List ℕ
  pub expected : List ℕ

-- on buffers for m blocks, after the calls cs, the call c shows what is expected
abbrev on : ℕ → List Call → Call → (Given → List ℕ) → List ℕ → Case
on m cs c look says = record { blocks = m; calls = cs; looked = λ h. look (does c h); expected = says }

unfoldable pub units_over : List Call → Heap → ℕ
units_over [] h = 0
units_over (c ∷ cs) h = (does c h).answer.units + units_over cs (does c h).heap

-- after the calls cs the collector is idle; the calls ds do one whole cycle, which takes n units
abbrev cycle : ℕ → List Call → List Call → ℕ → Case
cycle m cs ds n =
    record {
      blocks = m;
      calls = cs;
      looked = λ h. h.regs.phase ∷ units_over ds h ∷ (session ds h).regs.phase ∷ ((session ds h).regs.cycle - h.regs.cycle) ∷ [];
      expected = 0 ∷ n ∷ 0 ∷ 1 ∷ [];
    }

-- what is looked at: refusal, value and units; registers; the colour and the word 0 of a block
abbrev answer : Given → List ℕ
answer g = g.answer.refusal ∷ g.answer.value ∷ g.answer.units ∷ []

abbrev units : Given → List ℕ
units g = g.answer.units ∷ []

abbrev regs : Given → Regs
regs g = g.heap.regs

abbrev colour_word : Given → ℕ → ℕ
colour_word g b = word_in (colouring g.heap) b

abbrev word_zero_in : Given → ℕ → ℕ
word_zero_in g b = word_of g.heap.words b 0

-- the calls that several cases start with
abbrev to_case4 : List Call
to_case4 = Format 3 1 ∷ Allocate 0 0 ∷ Allocate 2 0 ∷ Work 3 ∷ []

abbrev to_case5 : List Call
to_case5 = to_case4 ++ StoreReference 2 0 0 ∷ Work 4 ∷ []

abbrev pub table : List Case
table =
    -- 1. Format(3, 1): colours all free; words 0 of the blocks 3, 4, 0.
    on 3 [] (Format 3 1)
    (λ g. g.heap.colours ++ word_zero_in g 2 ∷ word_zero_in g 3 ∷ word_zero_in g 4 ∷ [])
    (freed ∷ freed ∷ freed ∷ 3 ∷ 4 ∷ 0 ∷ [])
    -- 2. Then Allocate at root: 1 unit; block 2, black; root 2, phase 1, cycle 1.
    ∷ on 3 (Format 3 1 ∷ []) (Allocate 0 0)
    (λ g. answer g ++ colour_word g 2 ∷ (regs g).root ∷ (regs g).phase ∷ (regs g).cycle ∷ [])
    (0 ∷ 2 ∷ 1 ∷ black ∷ 2 ∷ 1 ∷ 1 ∷ [])
    -- 3. Then Allocate at (2, 0): 1 unit; block 3, black; phase 2, position 2.
    ∷ on 3 (Format 3 1 ∷ Allocate 0 0 ∷ []) (Allocate 2 0)
    (λ g. answer g ++ colour_word g 3 ∷ (regs g).phase ∷ (regs g).position ∷ [])
    (0 ∷ 3 ∷ 1 ∷ black ∷ 2 ∷ 2 ∷ [])
    -- 4. Then Work 3: blocks 2 and 3 are white after two units, and the cycle took 4; the third begins the next: phase 1, cycle 2, block 2
    -- grey.
    ∷ on 3 (Format 3 1 ∷ Allocate 0 0 ∷ Allocate 2 0 ∷ []) (Work 3)
    (λ g. answer g ++ colour_word g 2 ∷ colour_word g 3 ∷ (regs g).phase ∷ (regs g).cycle ∷ (regs g).grey ∷ [])
    (0 ∷ 0 ∷ 3 ∷ 1 ∷ white ∷ 1 ∷ 2 ∷ 2 ∷ [])
    ∷ cycle 3 (Format 3 1 ∷ []) (Allocate 0 0 ∷ Allocate 2 0 ∷ Work 2 ∷ []) 4
    -- 5. Then store 0 as reference at (2, 0), Work 4: block 2 is white, block 3 is free, and the collector idle; the cycle took 5 units.
    -- Read of block 3 answers 5.
    ∷ on 3 (to_case4 ++ StoreReference 2 0 0 ∷ []) (Work 4)
    (λ g. answer g ++ colour_word g 2 ∷ colour_word g 3 ∷ (regs g).phase ∷ (regs g).position ∷ (regs g).cycle ∷ [])
    (0 ∷ 0 ∷ 4 ∷ white ∷ freed ∷ 0 ∷ 0 ∷ 2 ∷ [])
    ∷ cycle 3 (Format 3 1 ∷ Allocate 0 0 ∷ Allocate 2 0 ∷ Work 2 ∷ []) (Work 1 ∷ StoreReference 2 0 0 ∷ Work 4 ∷ []) 5
    ∷ on 3 to_case5 (Read 3 0) answer (5 ∷ 0 ∷ 0 ∷ [])
    -- With Work 3 in place of Work 4: position 3. Block 3 is doomed: Read answers 5, and a store of target 3 at (2, 1) answers 6.
    ∷ on 3 (to_case4 ++ StoreReference 2 0 0 ∷ []) (Work 3) (λ g. answer g ++ (regs g).phase ∷ (regs g).position ∷ []) (0 ∷ 0 ∷ 3 ∷ 2 ∷ 3 ∷ [])
    ∷ on 3 (to_case4 ++ StoreReference 2 0 0 ∷ Work 3 ∷ []) (Read 3 0) answer (5 ∷ 0 ∷ 0 ∷ [])
    ∷ on 3 (to_case4 ++ StoreReference 2 0 0 ∷ Work 3 ∷ []) (StoreReference 2 1 3) answer (6 ∷ 0 ∷ 0 ∷ [])
    -- 6. There, a store of target 3 at (2, 1) answers 6.
    ∷ on 3 to_case5 (StoreReference 2 1 3) answer (6 ∷ 0 ∷ 0 ∷ [])
    -- 7. There, Work 1: block 3 is free, its word 0 is 4, free head 3, free count 2; the next cycle has begun: phase 1, cycle 3, block 2
    -- grey. Work 1 more: block 2 is black and no block is grey.
    ∷ on 3 to_case5 (Work 1)
    (λ g. answer g ++ colour_word g 3 ∷ word_zero_in g 3 ∷ (regs g).free ∷ (regs g).count ∷ (regs g).phase ∷ (regs g).cycle ∷ (regs g).grey ∷ [])
    (0 ∷ 0 ∷ 1 ∷ freed ∷ 4 ∷ 3 ∷ 2 ∷ 1 ∷ 3 ∷ 2 ∷ [])
    ∷ on 3 (to_case5 ++ Work 1 ∷ []) (Work 1) (λ g. answer g ++ colour_word g 2 ∷ (regs g).grey ∷ (regs g).phase ∷ []) (0 ∷ 0 ∷ 1 ∷ black ∷ 1 ∷ 1 ∷ [])
    -- 8. From 4: Work 1, store 0 as reference at (2, 0), Work 1, store reference 3 at (2, 1): block 3 was marked in between, is black, and
    -- no block is grey. Without the first Work 1, block 3 is white when it is stored: it has colour 1 and is the grey head.
    ∷ on 3 (to_case4 ++ Work 1 ∷ StoreReference 2 0 0 ∷ Work 1 ∷ []) (StoreReference 2 1 3)
    (λ g. answer g ++ colour_word g 3 ∷ (regs g).grey ∷ [])
    (0 ∷ 0 ∷ 0 ∷ black ∷ 1 ∷ [])
    ∷ on 3 (to_case4 ++ StoreReference 2 0 0 ∷ Work 1 ∷ []) (StoreReference 2 1 3)
    (λ g. answer g ++ colour_word g 3 ∷ (regs g).grey ∷ [])
    (0 ∷ 0 ∷ 0 ∷ 1 ∷ 3 ∷ [])
    -- 9. Format(1, 1), Allocate at root, Allocate at (2, 0): 7 with 1 unit, phase 2.
    ∷ on 1 (Format 1 1 ∷ Allocate 0 0 ∷ []) (Allocate 2 0) (λ g. answer g ++ (regs g).phase ∷ []) (7 ∷ 0 ∷ 1 ∷ 2 ∷ [])
    -- 10. M = 3, U = 0, free count 2: 4 units. Free count 0: 6 units.
    ∷ on 3 (Format 3 0 ∷ Allocate 0 0 ∷ []) (Allocate 2 0) units (4 ∷ [])
    ∷ on 3 (Format 3 0 ∷ Allocate 0 0 ∷ Allocate 2 0 ∷ Allocate 3 0 ∷ []) (Allocate 4 0) units (6 ∷ [])
    ∷ []

abbrev shown : Case → List ℕ
shown c = c.looked (session c.calls (lent c.blocks))

abbrev pub HandChecked : Type 0
HandChecked = map shown table ≡ map (λ c. c.expected) table
