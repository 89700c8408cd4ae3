-- No second outcome fits the contract of `line`, and document 01's sentences on lines hold of what a line gives.
--     no_second_outcome
--     rules
-- Assumes nothing.
use Prim.Native.Nat.{ℕ, ◌*◌, ◌<◌}
use mathlib.Core.Path.{◌≡◌, refl, sym, ◌∙◌, ap}
use mathlib.Core.Logic.{◌≢◌}
use mathlib.Core.Bool.{Bool, true, false}
use mathlib.Core.List.{List}
use native.Mathlib.Omega.{arith}
use lib.ListN.{length, take, take-append-drop, length-take}
use borrow.Author.Tests.{ne_eqb, lt-leb}
use Rattle.std.specs.Prelude.{Option, Some, None}
use Rattle.machine.specs.Heap.{Heap}
use Rattle.machine.specs.Tests.{◌▷◌}
use Rattle.machine.specs.Entry.{numbers_fit, lengths_fit, fits, entry}
use Rattle.machine.specs.Answers.{unless}
use Rattle.machine.specs.Format.{format}
use Rattle.machine.specs.Read.{read_refusal, read}
use Rattle.machine.specs.Store.{store_number, store_refusal, store_reference, root_refusal, set_root}
use Rattle.machine.specs.Allocate.{allocate}
use Rattle.machine.specs.Work.{work}
use Rattle.machine.specs.Audit.{passes, audit}
use Rattle.text_commands.specs.declared.Command.{Command}
use Rattle.text_commands.specs.declared.Command.TheVariants.{Format, Read, StoreNumber, StoreReference, SetRoot, Allocate, Work, Audit}
use Rattle.text_commands.specs.Command.{command_of}
use Rattle.text_commands.specs.Saying.{Spoken, spoken, blocks_of}
use Rattle.text_lines.specs.Line.{performed, front, back, within, line_gives}
use Rattle.text_lines.specs.NoSecond.{NoSecondOutcome, Greatest, Rules}

pub no_second_outcome : NoSecondOutcome
no_second_outcome text h s t ws xs cs ds bs es e f =
    let q = e ∙ sym f in
    record {
      said = ap (λ (x : Spoken). record { regs = x.heap.regs; first = x.first; second = x.second; third = x.third }) q;
      words = ap (λ (x : Spoken). x.heap.words) q;
      colours = ap (λ (x : Spoken). x.heap.colours) q;
      bytes = ap (λ (x : Spoken). x.heap.bytes) q;
    }

-- parts that come back as they were lent
stays : (m a b c : ℕ) (h : Heap) → back m h (spoken a b c (front m h)) ≡ spoken a b c h
unfolding front back
stays m a b c h = simp take-append-drop

gives_what : (text : List ℕ) (h : Heap) (c : Command) → command_of text ≡ Some c → line_gives text h ≡ within (blocks_of c h.regs) (performed c) h
unfolding line_gives
gives_what text h c e = rw e refl

-- a call that is refused by 1
refused : (c : Command) (h : Heap) → performed c (front (blocks_of c h.regs) h) ≡ spoken 1 0 0 (front (blocks_of c h.regs) h) → within (blocks_of c h.regs) (performed c) h ≡ spoken 1 0 0 h
refused c h e = ap (back (blocks_of c h.regs) h) e ∙ stays _ 1 0 0 h

over : (m u : ℕ) (h : Heap) → Greatest h → 1024 < m → performed (Format m u) (front m h) ≡ spoken 1 0 0 (front m h)
unfolding performed format fits lengths_fit front
over m u h g l = go (numbers_fit m u) refl
  where
    long : length (take (8 * m) h.words) ≢ 8 * m
    long e = let f = length-take (8 * m) h.words in let w = g.words in omega arith

    go : (t : Bool) → numbers_fit m u ≡ t → performed (Format m u) (front m h) ≡ spoken 1 0 0 (front m h)
    go true q = simp (q, ne_eqb (length (take (8 * m) h.words)) (8 * m) long)
    go false q = simp q

-- no block, so that refusal 1 comes first
module _ (h : Heap) (z : h.regs.blocks ≡ 0) where
  one : entry h ≡ 1
  unfolding entry fits numbers_fit ◌▷◌
  one = simp (lt-leb 1 h.regs.blocks (omega arith))

  read_one : (b w : ℕ) → performed (Read b w) h ≡ spoken 1 0 0 h
  unfolding performed read read_refusal ◌▷◌
  read_one b w = simp one

  number_one : (b w v : ℕ) → performed (StoreNumber b w v) h ≡ spoken 1 0 0 h
  unfolding performed store_number read_refusal unless ◌▷◌
  number_one b w v = simp one

  reference_one : (b w t : ℕ) → performed (StoreReference b w t) h ≡ spoken 1 0 0 h
  unfolding performed store_reference store_refusal unless ◌▷◌
  reference_one b w t = simp one

  root_one : (t : ℕ) → performed (SetRoot t) h ≡ spoken 1 0 0 h
  unfolding performed set_root root_refusal unless ◌▷◌
  root_one t = simp one

  allocate_one : (b w : ℕ) → performed (Allocate b w) h ≡ spoken 1 0 0 h
  unfolding performed allocate unless ◌▷◌
  allocate_one b w = simp one

  work_one : (n : ℕ) → performed (Work n) h ≡ spoken 1 0 0 h
  unfolding performed work unless ◌▷◌
  work_one n = simp one

  audit_none : performed Audit h ≡ spoken 0 0 0 h
  unfolding performed audit passes
  audit_none = simp one

unformatted : (text : List ℕ) (h : Heap) → h.regs.blocks ≡ 0 → command_of text ≢ None → command_of text ≢ Some Audit → ((m u : ℕ) → command_of text ≢ Some (Format m u)) → line_gives text h ≡ spoken 1 0 0 h
unfolding front
unformatted text h z b a f = go (command_of text) refl
  where
    go : (c : Option Command) → command_of text ≡ c → line_gives text h ≡ spoken 1 0 0 h
    go (Some (Format m u)) e = absurd (f m u e)
    go (Some (Read x w)) e = gives_what text h _ e ∙ refused (Read x w) h (read_one (front h.regs.blocks h) z x w)
    go (Some (StoreNumber x w v)) e = gives_what text h _ e ∙ refused (StoreNumber x w v) h (number_one (front h.regs.blocks h) z x w v)
    go (Some (StoreReference x w t)) e =
        gives_what text h _ e ∙ refused (StoreReference x w t) h (reference_one (front h.regs.blocks h) z x w t)
    go (Some (SetRoot t)) e = gives_what text h _ e ∙ refused (SetRoot t) h (root_one (front h.regs.blocks h) z t)
    go (Some (Allocate x w)) e = gives_what text h _ e ∙ refused (Allocate x w) h (allocate_one (front h.regs.blocks h) z x w)
    go (Some (Work n)) e = gives_what text h _ e ∙ refused (Work n) h (work_one (front h.regs.blocks h) z n)
    go (Some Audit) e = absurd (a e)
    go None e = absurd (b e)

audits : (text : List ℕ) (h : Heap) → h.regs.blocks ≡ 0 → command_of text ≡ Some Audit → line_gives text h ≡ spoken 0 0 0 h
unfolding front
audits text h z e =
    gives_what text h _ e
    ∙ ap (back h.regs.blocks h) (audit_none (front h.regs.blocks h) z)
    ∙ stays h.regs.blocks 0 0 0 h

breaks : (text : List ℕ) (h : Heap) → command_of text ≡ None → line_gives text h ≡ spoken 99 0 0 h
unfolding line_gives
breaks text h e = rw e refl

pub rules : Rules
rules =
    record {
      broken = breaks;
      greatest = λ text h m u g e l. gives_what text h _ e ∙ refused (Format m u) h (over m u h g l);
      first = unformatted;
      audited = audits;
    }
