-- `part_image_audit::passes` meets its contract: M and U, then the registers, then the rest. Assumes nothing.
use mathlib.Core.Path.{refl, ◌∙◌, ap}
use Rattle.machine.specs.Audit.{passes}
use Rattle.machine.proofs.Tests.{so}
use Rattle.machine.proofs.Frames.{framed_long}
use Rattle.part_image.proofs.Framing.{framed_least}
use Rattle.part_image_audit.proofs.Held.{held_fits, held_most, held_as, held_laid, held_entry, unfit_off, illegal_off}
use borrow.Author.Rules.{rules}
use Rattle.part_image_audit.proofs.passes.Goals as goal

pub number_at-requires : goal.number_at-requires
number_at-requires c =
    let l = framed_least _ c.requires in search rules

pub number_at-requires-2 : goal.number_at-requires-2
number_at-requires-2 c =
    let l = framed_least _ c.requires in search rules

pub get_registers-regs-requires : goal.get_registers-regs-requires
get_registers-regs-requires c =
    let i = c.args.image.now in
    let f = c.requires in
    let h = held_fits i f c.number_at.ensures c.number_at-2.ensures c.numbers_fit.ensures c.if-not-numbers_fit.false in
    (f, held_most i f h)

pub legal-requires : goal.legal-requires
legal-requires c =
    let i = c.args.image.now in
    let f = c.requires in
    let h = held_fits i f c.number_at.ensures c.number_at-2.ensures c.numbers_fit.ensures c.if-not-numbers_fit.false in
    (held_laid i f h c.get_registers-regs.ensures refl).most

pub behind_registers-sections-requires : goal.behind_registers-sections-requires
behind_registers-sections-requires c = framed_long _ c.requires

pub invariant_of-passes : goal.invariant_of-passes
invariant_of-passes c =
    let i = c.args.image.now in
    let f = c.requires in
    let h = held_fits i f c.number_at.ensures c.number_at-2.ensures c.numbers_fit.ensures c.if-not-numbers_fit.false in
    record { laid = held_laid i f h c.get_registers-regs.ensures c.behind_registers-sections.ensures }

pub returns-then-legal : goal.returns-then-legal
returns-then-legal c =
    let i = c.args.image.now in
    let f = c.requires in
    let h = held_fits i f c.number_at.ensures c.number_at-2.ensures c.numbers_fit.ensures c.if-not-numbers_fit.false in
    let e = c.get_registers-regs.ensures in
    let p = c.behind_registers-sections.ensures in
    c.passes.ensures (held_entry i f h e p (so c.legal.ensures c.if-legal.true)) ∙ ap passes (held_as i f e p)

pub returns-else-legal : goal.returns-else-legal
returns-else-legal c =
    let i = c.args.image.now in
    let f = c.requires in
    let h = held_fits i f c.number_at.ensures c.number_at-2.ensures c.numbers_fit.ensures c.if-not-numbers_fit.false in
    c.if-legal.false ∙ illegal_off _ h c.get_registers-regs.ensures (so c.legal.ensures c.if-legal.false)

pub returns-then-not-numbers_fit : goal.returns-then-not-numbers_fit
returns-then-not-numbers_fit c =
    let i = c.args.image.now in
    let f = c.requires in
    unfit_off _ (held_fits i f c.number_at.ensures c.number_at-2.ensures c.numbers_fit.ensures c.if-not-numbers_fit.true)
