-- `part_image::frame::blocks_framed` meets its contract. Assumes nothing.
use mathlib.Core.Path.{sym, ◌∙◌}
use Rattle.machine.proofs.Tests.{so}
use Rattle.part_image.proofs.Framing.{length_off, colours_off, bytes_off, blocks_as}
use Rattle.part_image.proofs.frame.blocks_framed.Goals as goal

pub returns-then-sections-blocks_length : goal.returns-then-sections-blocks_length
returns-then-sections-blocks_length c = length_off _ _ (λ z. c.if-sections-blocks_length.true (z ∙ sym c.blocks_length.ensures))

pub returns-then-number_at-m : goal.returns-then-number_at-m
returns-then-number_at-m c =
    colours_off _ _ (c.if-sections-blocks_length.false ∙ c.blocks_length.ensures) (λ z. c.if-number_at-m.true (c.number_at.ensures ∙ z))

pub returns-then-number_at-m-2 : goal.returns-then-number_at-m-2
returns-then-number_at-m-2 c =
    let k = so c.number_at.ensures c.if-number_at-m.false in
    let b = rw c.bytes_at.ensures at c.number_at-2.ensures in
    bytes_off _ _ (c.if-sections-blocks_length.false ∙ c.blocks_length.ensures) k (λ z. c.if-number_at-m-2.true (b ∙ z))

pub returns : goal.returns
returns c =
    let k = so c.number_at.ensures c.if-number_at-m.false in
    let b = rw c.bytes_at.ensures at c.number_at-2.ensures in
    rw (c.number_at-3.ensures, c.words_at.ensures)
    (blocks_as _ _ (c.if-sections-blocks_length.false ∙ c.blocks_length.ensures) k (so b c.if-number_at-m-2.false))
