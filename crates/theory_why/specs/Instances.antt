-- Instances: heaps on which every reason is given, and paths among which one has to be chosen.
--     crossed              idle: 2 is the root; two paths of two pairs lead to 5; one of one pair and one of two lead to 6; 7 is out of
--                          reach, 8 is free
--     floating             from there, marking: 3 is grey and 6 black, and both are out of reach now
--     turned               from there, sweeping, from 2 on: 7 was out of reach when the cycle began
--     Instance h b r ns    h is well-formed, and of its block b the reason is r and the path ns
--     Chosen               of equally short paths the one with the smaller words is given, and a shorter one though its word is larger
--     Given                each reason is given: the root, a block out of reach of each colour, a doomed and a free one
--     Called               the call on `crossed`, told once and refused by each of its four refusals
-- Assumes nothing.
use Rattle.std.specs.Prelude.{ℕ, ◌≡◌, List, [], ◌∷◌, replicate, Ok}
use Rattle.machine.specs.declared.Colour.TheVariants.{White, Grey, Black}
use Rattle.machine.specs.declared.Reason.{Reason}
use Rattle.machine.specs.declared.Reason.TheVariants.{Free, Doomed, Reachable, Kept}
use Rattle.machine.specs.Registers.{with_phase}
use Rattle.machine.specs.Heap.{Heap, with_regs, with_colours}
use Rattle.machine.specs.Format.{formatted}
use Rattle.machine.specs.Session.{session}
use Rattle.machine.specs.Session.Call.{StoreReference, Allocate, Work}
use Rattle.machine.specs.WellFormed.{Block, WellFormed}
use Rattle.machine.specs.Search.{Hop, path_numbers}
use Rattle.machine.specs.Why.{path_of, reason_of}
use Rattle.theory_why.specs.Leads.{Leads}
use Rattle.theory_why.specs.Answers.{Lent, why_lent, Refuses}

abbrev pub pair : ℕ → ℕ → Hop
pair b w = record { block = b; word = w }

-- words 0 and 1 of the root name 3 and 4, which both name 5; its word 7 names 6, as 3 does; 7 was taken and let go; a cycle ends
abbrev pub crossed : Heap
crossed =
    session
    (Allocate 0 0 ∷ Allocate 2 0 ∷ Allocate 2 1 ∷ Allocate 3 7 ∷ StoreReference 4 0 5
    ∷ Allocate 2 7 ∷ StoreReference 3 0 6
    ∷ Allocate 2 2 ∷ StoreReference 2 2 0 ∷ Work 2 ∷ [])
    (formatted 8 1)

-- a cycle begins; the root is marked, which greys 3, 4 and 6, and then 6 is; after that the root lets 3 and 6 go
abbrev pub floating : Heap
floating = session (Work 3 ∷ StoreReference 2 0 0 ∷ StoreReference 2 7 0 ∷ []) crossed

-- a cycle begins, marks what is reachable, and turns
abbrev pub turned : Heap
turned = session (Work 7 ∷ []) crossed

pub record Instance (h : Heap) (b : ℕ) (r : Reason) (ns : List ℕ) : Type 0 where
  pub formed : WellFormed h
  pub block : Block h.regs.blocks b
  pub reason : reason_of h b ≡ r
  pub path : path_numbers (path_of h b) ≡ ns

pub record Chosen : Type 0 where
  -- the words 0, 7 come before 1, 0
  pub smaller : Instance crossed 5 (Reachable 2) (2 ∷ 0 ∷ 3 ∷ 7 ∷ [])
  pub larger : Leads crossed 2 (pair 2 1 ∷ pair 4 0 ∷ []) 5
  -- one pair with the word 7 is given, and not two with the words 0, 0
  pub shorter : Instance crossed 6 (Reachable 1) (2 ∷ 7 ∷ [])
  pub longer : Leads crossed 2 (pair 2 0 ∷ pair 3 0 ∷ []) 6

pub record Given : Type 0 where
  pub root : Instance crossed 2 (Reachable 0) []
  pub white : Instance crossed 7 (Kept White) []
  pub grey : Instance floating 3 (Kept Grey) []
  pub black : Instance floating 6 (Kept Black) []
  pub doomed : Instance turned 7 Doomed []
  pub free : Instance crossed 8 Free []

-- buffers that were in use, each with room to spare
abbrev pub lent : Lent
lent = record { path = replicate 18 9; queue = replicate 10 9; came = replicate 9 9 }

abbrev pub narrow : Lent
narrow = record { path = replicate 18 9; queue = replicate 7 9; came = replicate 9 9 }

pub record Called : Type 0 where
  pub told :
      why_lent lent 5 crossed
      ≡ record {
        answer = Ok (record { reason = Reachable 2 });
        path = 2 ∷ 0 ∷ 3 ∷ 7 ∷ replicate 14 0;
        queue = replicate 10 0;
        came = replicate 9 0;
      }
  pub unfit : Refuses 1 lent (why_lent lent 5 (with_colours [] crossed))
  pub unaccepted : Refuses 10 lent (why_lent lent 5 (with_regs (with_phase 3 crossed.regs) crossed))
  pub low : Refuses 3 lent (why_lent lent 1 crossed)
  pub high : Refuses 3 lent (why_lent lent 10 crossed)
  pub cramped : Refuses 13 narrow (why_lent narrow 5 crossed)
