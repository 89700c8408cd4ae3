-- `part_block::zeroes` meets its contract. Assumes nothing.
use native.Mathlib.Omega.{arith}
use Rattle.machine.specs.Block.{eight_words}
use Rattle.machine.proofs.References.{zero_off, zero_as}
use Rattle.part_block.proofs.Asking.{word_read}
use Rattle.part_block.proofs.zeroes.Goals as goal

pub returns-then-word-ne0 : goal.returns-then-word-ne0
returns-then-word-ne0 g c =
    let h = g.B.Blocks.held c.args.blocks.now in
    let x = word_read h.words c.args.b 1 (omega arith) c.word.ensures in
    let y = word_read h.words c.args.b 2 (omega arith) c.word-2.ensures in
    let z = word_read h.words c.args.b 3 (omega arith) c.word-3.ensures in
    zero_off (eight_words h.words c.args.b) (rw (x, y, z) at c.if-word-ne0.true)

pub returns : goal.returns
returns g c =
    let h = g.B.Blocks.held c.args.blocks.now in
    let part = eight_words h.words c.args.b in
    let x = word_read h.words c.args.b 1 (omega arith) c.word.ensures in
    let y = word_read h.words c.args.b 2 (omega arith) c.word-2.ensures in
    let z = word_read h.words c.args.b 3 (omega arith) c.word-3.ensures in
    let u = word_read h.words c.args.b 4 (omega arith) c.word-4.ensures in
    let v = word_read h.words c.args.b 5 (omega arith) c.word-5.ensures in
    let p = word_read h.words c.args.b 6 (omega arith) c.word-6.ensures in
    let q = word_read h.words c.args.b 7 (omega arith) c.word-7.ensures in
    rw (u, v, p, q) (zero_as part (rw (x, y, z) at c.if-word-ne0.false))
